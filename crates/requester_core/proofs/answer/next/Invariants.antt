use Rattle.std.proofs.Common.{◌≡◌, ◌≤◌, length}
use Rattle.unit_segments.specs.Strip.{replies_to}
use Rattle.requester_core.proofs.answer.next.Given as goal

abbrev pub invariant-loop-reply : goal.invariant-loop-reply
invariant-loop-reply l = record {
  same : replies_to l.number l.left ≡ replies_to l.number l.fn.replies;
  less : length l.left ≤ length l.fn.replies;
}

abbrev pub decreases-loop-reply : goal.decreases-loop-reply
decreases-loop-reply l = length l.left
