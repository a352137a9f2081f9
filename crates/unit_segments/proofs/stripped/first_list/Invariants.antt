use Rattle.std.proofs.Common.{◌≡◌, length}
use Rattle.unit_segments.specs.Strip.{first_list}
use Rattle.unit_segments.proofs.stripped.first_list.Given as goal

abbrev pub invariant-loop-reply : goal.invariant-loop-reply
invariant-loop-reply l = first_list l.left ≡ first_list l.fn.replies

abbrev pub decreases-loop-reply : goal.decreases-loop-reply
decreases-loop-reply l = length l.left
