use Rattle.std.proofs.Common.{◌≡◌, drop}
use Rattle.drda_trace.specs.Lines.{numbers_fit}
use Rattle.drda_trace.proofs.answered.numbers_fit.Given as goal

-- whether the replies that are left fit is whether all do
abbrev pub invariant-loop-reply : goal.invariant-loop-reply
invariant-loop-reply l = numbers_fit l.commands l.before (drop l.reply-index l.replies) ≡ numbers_fit l.commands 0 l.replies
