use Rattle.std.proofs.Common.{◌≡◌, length}
use Rattle.unit_segments.specs.Registers.{with_sets}
use Rattle.session_core.proofs.standing.add_sets.Given as goal

abbrev pub invariant-loop-sqlstt : goal.invariant-loop-sqlstt
invariant-loop-sqlstt l = with_sets l.typdef l.left l.log ≡ with_sets l.typdef l.fn.sets l.fn.log

abbrev pub decreases-loop-sqlstt : goal.decreases-loop-sqlstt
decreases-loop-sqlstt l = length l.left
