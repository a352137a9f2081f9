use Rattle.std.proofs.Common.{sym, ◌∙◌}
use Rattle.drda_gateway.proofs.SplitLemmas.{word-first, word-later}
use Rattle.drda_gateway.proofs.script.split.split_word.Goals as goal

pub returns-clause-first : goal.returns-clause-first
returns-clause-first c = c.cut_at.ensures.before ∙ sym (word-first c.args.line.now)

pub returns-clause-others : goal.returns-clause-others
returns-clause-others c = λ k. rw c.cut_at.ensures.after (word-later c.args.line.now k)
