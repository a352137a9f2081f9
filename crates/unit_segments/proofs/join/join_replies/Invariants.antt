use Rattle.std.proofs.Common.{◌≡◌, ◌++◌, length}
use Rattle.unit_segments.specs.Spelling.{join}
use Rattle.unit_segments.proofs.join.join_replies.Given as goal

abbrev pub invariant-loop-reply : goal.invariant-loop-reply
invariant-loop-reply l = l.out ++ join l.left ≡ join l.fn.replies

abbrev pub decreases-loop-reply : goal.decreases-loop-reply
decreases-loop-reply l = length l.left
