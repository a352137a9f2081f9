use Rattle.std.proofs.Common.{◌≡◌, ◌++◌, drop}
use Rattle.std.specs.List.{flat_map}
use Rattle.drda_trace.specs.Lines.{reply_lines}
use Rattle.drda_trace.proofs.shown.push_replies.Given as goal

-- what was added so far, and what the others add, is all
abbrev pub invariant-loop-reply : goal.invariant-loop-reply
invariant-loop-reply l = l.lines ++ flat_map reply_lines (drop l.reply-index l.replies) ≡ l.fn.lines ++ flat_map reply_lines l.replies
