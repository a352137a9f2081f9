use Rattle.std.proofs.Common.{◌≡◌, length}
use Rattle.std.specs.Prelude.{find}
use Rattle.ddm_codepoints.specs.CodePoint.{enduowrm}
use Rattle.unit_segments.specs.Strip.{is_object_of, replies_to}
use Rattle.unit_segments.proofs.stripped.end_message.Given as goal

abbrev pub invariant-loop-reply : goal.invariant-loop-reply
invariant-loop-reply l = find (is_object_of enduowrm) (replies_to l.end l.left) ≡ find (is_object_of enduowrm) (replies_to l.end l.fn.replies)

abbrev pub decreases-loop-reply : goal.decreases-loop-reply
decreases-loop-reply l = length l.left
