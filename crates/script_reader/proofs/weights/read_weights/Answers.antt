use Rattle.std.proofs.Common.{◌∙◌, sym, arith}
use Rattle.script_reader.proofs.WeightWords.{reads_on, reads_last, reads_bad}
use Rattle.script_reader.proofs.weights.read_weights.Goals as goal

pub returns-in_err-list : goal.returns-in_err-list
returns-in_err-list c =
    c.from_residual.ensures
    ∙ sym (reads_bad c.args.members.now.rows c.loop-list.list c.loop-list.rest.now c.cut_at.result.0.now c.cut_at.ensures.before
    (sym c.add_weight.ensures ∙ c.in_err-list.was))
    ∙ c.loop-list.invariant

pub returns-then-word-rest : goal.returns-then-word-rest
returns-then-word-rest c =
    sym (reads_last c.args.members.now.rows c.loop-list.list c.loop-list.rest.now c.cut_at.result.0.now c.cut_at.ensures.before c.in_ok-list.list
    (omega arith) (sym c.add_weight.ensures ∙ c.in_ok-list.was))
    ∙ c.loop-list.invariant

pub loop-list-preserved : goal.loop-list-preserved
loop-list-preserved c =
    sym (reads_on c.args.members.now.rows c.loop-list.list c.loop-list.rest.now c.cut_at.result.0.now c.cut_at.ensures.before c.cut_at.result.1.now
    c.in_ok-list.list c.cut_at.ensures.after (omega arith) (sym c.add_weight.ensures ∙ c.in_ok-list.was))
    ∙ c.loop-list.invariant
