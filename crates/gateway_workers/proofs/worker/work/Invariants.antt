use Rattle.std.proofs.Common.{false}
use Rattle.gateway_workers.specs.Back.{IsServed}
use Rattle.gateway_workers.specs.Doors.{HasWorked}
use Rattle.gateway_workers.specs.Dials.{HasDialled}
use Rattle.gateway_workers.proofs.worker.work.Given as goal

-- the links that the door gave so far were served
abbrev pub invariant-loop : goal.invariant-loop
invariant-loop g l =
    let job = l.fn.job in
    record {
      next : (goal.iterator-loop g).can_next l.iterator';
      finite : (goal.iterator-loop g).is_finite l.iterator';
      door : HasWorked (IsServed g.A.Link.state) (g.D.Door.state job.door) (g.D.Door.state l.job.door) l.sessions false l.refused;
      dial : HasDialled (g.N.Dial.state job.dial).calls job.dials.amount (g.N.Dial.state l.job.dial).calls l.job.dials.amount l.refused;
    }
