use Rattle.std.proofs.Common.{◌≡◌, length}
use Rattle.requester_core.specs.Judging.{told_typdef}
use Rattle.requester_core.proofs.answer.told_typdef.Given as goal

abbrev pub invariant-loop-reply : goal.invariant-loop-reply
invariant-loop-reply l = told_typdef l.typdef l.left ≡ told_typdef l.typdef l.fn.replies

abbrev pub decreases-loop-reply : goal.decreases-loop-reply
decreases-loop-reply l = length l.left
