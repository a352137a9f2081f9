use Rattle.std.proofs.Common.{◌+◌, ◌-◌, ◌*◌, ◌≤◌, length}
use Rattle.dss_frame.specs.Walk.{IsWalked}
use Rattle.dss_frame.proofs.segments.walk_on.Given as goal

abbrev pub invariant-loop-rest : goal.invariant-loop-rest
invariant-loop-rest l = record {
  is_walked : IsWalked l.walked l.bytes;
  steps : 3 * l.judged + l.fn.walked ≤ l.walked;
}

abbrev pub decreases-loop-rest : goal.decreases-loop-rest
decreases-loop-rest l = length l.bytes - l.walked
