use Rattle.std.proofs.Common.{◌≡◌, length}
use Rattle.plain_model.specs.Group.{told_typdef}
use Rattle.session_core.proofs.access.told_typdef.Given as goal

abbrev pub invariant-loop-reply : goal.invariant-loop-reply
invariant-loop-reply l = told_typdef l.typdef l.left ≡ told_typdef l.typdef l.fn.replies

abbrev pub decreases-loop-reply : goal.decreases-loop-reply
decreases-loop-reply l = length l.left
