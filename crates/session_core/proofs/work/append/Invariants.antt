use Rattle.std.proofs.Common.{◌≡◌, ◌++◌, take}
use Rattle.session_core.proofs.work.append.Given as goal

abbrev pub invariant-loop-reply : goal.invariant-loop-reply
invariant-loop-reply l = l.kept ≡ l.fn.kept ++ take l.reply-index l.replies
