use Rattle.std.proofs.Common.{◌≡◌, length}
use Rattle.unit_segments.specs.Accepts.{are_readable}
use Rattle.requester_core.proofs.answer.are_readable.Given as goal

abbrev pub invariant-loop-reply : goal.invariant-loop-reply
invariant-loop-reply l = are_readable l.left ≡ are_readable l.fn.replies

abbrev pub decreases-loop-reply : goal.decreases-loop-reply
decreases-loop-reply l = length l.left
