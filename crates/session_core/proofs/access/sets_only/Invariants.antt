use Rattle.std.proofs.Common.{◌≡◌, length}
use Rattle.unit_segments.specs.Accepts.{sets_only}
use Rattle.session_core.proofs.access.sets_only.Given as goal

abbrev pub invariant-loop-command : goal.invariant-loop-command
invariant-loop-command l = sets_only l.typdef l.left l.behind ≡ sets_only l.typdef l.fn.commands l.fn.replies

abbrev pub decreases-loop-command : goal.decreases-loop-command
decreases-loop-command l = length l.left
