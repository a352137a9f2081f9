use Rattle.std.proofs.Common.{◌≡◌, ◌++◌, map, length}
use Rattle.member_core.specs.Listed.{with_list}
use Rattle.member_core.proofs.listed.put_replies.Given as goal

abbrev pub invariant-loop-reply : goal.invariant-loop-reply
invariant-loop-reply l = l.out ++ map (with_list l.list) l.left ≡ l.fn.out ++ map (with_list l.list) l.fn.replies

abbrev pub decreases-loop-reply : goal.decreases-loop-reply
decreases-loop-reply l = length l.left
