use Rattle.std.proofs.Common.{◌≡◌, ◌++◌, length}
use Rattle.std.specs.List.{AllByRecursion}
use Rattle.unit_segments.specs.Strip.{FitsAReply, replies_of, sets_of}
use Rattle.unit_segments.proofs.Stripping.{kept_from, sets_from}
use Rattle.unit_segments.proofs.stripped.split.Given as goal

abbrev pub invariant-loop-reply : goal.invariant-loop-reply
invariant-loop-reply l = record {
  kept : l.kept ++ kept_from l.segment l.end l.after_card l.left ≡ replies_of l.fn.segment l.fn.replies;
  sets : l.sets ++ sets_from l.end l.after_card l.left ≡ sets_of l.fn.segment l.fn.replies;
  fits : AllByRecursion FitsAReply l.left;
}

abbrev pub decreases-loop-reply : goal.decreases-loop-reply
decreases-loop-reply l = length l.left
