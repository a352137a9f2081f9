use Rattle.std.proofs.Common.{length, take, [], ◌-◌, ◌≤◌}
use Rattle.member_server.specs.Served.{Moved, counts_of}
use Rattle.member_server.proofs.session.say.Given as goal

-- the bytes up to this place were written, and no call has failed or was stuck
abbrev pub invariant-loop-from : goal.invariant-loop-from
invariant-loop-from g l =
    record {
      within : l.from ≤ length l.bytes;
      moved : Moved (g.A.Link.state l.fn.app) (g.A.Link.state l.app) [] (take l.from l.bytes) (counts_of (g.A.Link.state l.fn.app));
    }

abbrev pub decreases-loop-from : goal.decreases-loop-from
decreases-loop-from g l = length l.bytes - l.from
