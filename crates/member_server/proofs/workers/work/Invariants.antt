use Rattle.std.proofs.Common.{false}
use Rattle.member_server.specs.Doors.{IsServed, HasWorked}
use Rattle.member_server.proofs.workers.work.Given as goal

-- the links that the door gave so far were served
abbrev pub invariant-loop : goal.invariant-loop
invariant-loop g l =
    record {
      next : (goal.iterator-loop g).can_next l.iterator';
      finite : (goal.iterator-loop g).is_finite l.iterator';
      worked : HasWorked (IsServed g.A.Link.state g.G.Group.meaning) (g.D.Door.state l.fn.door) (g.D.Door.state l.door) l.sessions false;
    }
