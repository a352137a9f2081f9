use Rattle.std.proofs.Common.{◌≡◌, ℕ, List, ◌∙◌, sym, ap, length, take, true, cond, rules, arith}
use Rattle.std.specs.Ordering.{nat_cmp, is_eq}
use Rattle.std.specs.BTreeSet.{contains}
use Rattle.std.proofs.lemmas.List.{take_all}
use Rattle.unit_segments.specs.declared.command.Command.{Command}
use Rattle.drda_trace.specs.Lines.{has_number}
use Rattle.drda_trace.proofs.Numbers.{number_more, none_in}
use Rattle.drda_trace.proofs.answered.numbers_of.Goals as goal

pub loop-command-init : goal.loop-command-init
loop-command-init c = λ corr. none_in c.new-numbers.result corr c.new-numbers.ensures.len

pub loop-command-preserved : goal.loop-command-preserved
loop-command-preserved c = λ corr.
    c.in_ok-insert.ensures.updates.0 corr
    ∙ ap (λ b. cond (is_eq (nat_cmp c.command-item.result.corr corr)) true b) (c.loop-command.invariant corr)
    ∙ number_more c.args.commands.now c.loop-command.command-index c.command-item.result corr c.loop-command-test.true c.command-item.is

pub returns : goal.returns
returns c = λ corr.
    c.loop-command.invariant corr
    ∙ ap (λ (cs : List Command). has_number cs corr) (take_all c.loop-command.command-index c.args.commands.now c.loop-command-test.false)
