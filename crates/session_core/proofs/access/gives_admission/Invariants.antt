use Rattle.std.proofs.Common.{◌≡◌, length}
use Rattle.unit_segments.specs.Accepts.{gives_admission}
use Rattle.session_core.proofs.access.gives_admission.Given as goal

abbrev pub invariant-loop-reply : goal.invariant-loop-reply
invariant-loop-reply l = gives_admission l.left ≡ gives_admission l.fn.replies

abbrev pub decreases-loop-reply : goal.decreases-loop-reply
decreases-loop-reply l = length l.left
