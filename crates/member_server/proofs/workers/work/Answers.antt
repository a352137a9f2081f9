use Rattle.member_server.specs.Doors.{IsServed}
use Rattle.member_server.proofs.Working.{works_none, works_no_more, works_more}
use Rattle.member_server.proofs.workers.work.Goals as goal

pub loop-init : goal.loop-init
loop-init g c = record { next = tt; finite = tt; worked = works_none (IsServed g.A.Link.state g.G.Group.meaning) (g.D.Door.state c.args.door) }
