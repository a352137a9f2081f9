use Rattle.std.proofs.Common.{◌≡◌, ◌≤◌, length}
use Rattle.unit_segments.specs.Limit.{most_reply_bytes}
use Rattle.session_core.specs.Size.{room_behind}
use Rattle.session_core.proofs.size.room_behind.Given as goal

abbrev pub invariant-loop-reply : goal.invariant-loop-reply
invariant-loop-reply l = record {
  same : room_behind l.room l.left ≡ room_behind l.fn.room l.fn.replies;
  most : l.room ≤ most_reply_bytes;
}

abbrev pub decreases-loop-reply : goal.decreases-loop-reply
decreases-loop-reply l = length l.left
