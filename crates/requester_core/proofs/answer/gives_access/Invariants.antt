use Rattle.std.proofs.Common.{◌≡◌, ◌&&◌, ◌||◌, length}
use Rattle.unit_segments.specs.Strip.{replies_to}
use Rattle.unit_segments.specs.Accepts.{gives_access, has_accrdbrm, are_readable}
use Rattle.requester_core.proofs.answer.gives_access.Given as goal

abbrev pub invariant-loop-reply : goal.invariant-loop-reply
invariant-loop-reply l =
    ((l.is_there || has_accrdbrm (replies_to l.number l.left)) && are_readable (replies_to l.number l.left))
    ≡ gives_access (replies_to l.number l.fn.replies)

abbrev pub decreases-loop-reply : goal.decreases-loop-reply
decreases-loop-reply l = length l.left
