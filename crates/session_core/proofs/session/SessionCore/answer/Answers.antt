use Rattle.std.proofs.Common.{◌≡◌, ◌∙◌, sym, ap, None, Option}
use Rattle.std.proofs.lemmas.Result.{IfOk-weaker, on_ok_weaker}
use Rattle.reply_texts.specs.RdbName.{characters_of}
use Rattle.unit_segments.specs.declared.registers.RegisterFault.{RegisterFault}
use Rattle.plain_model.specs.Core.{Core, first, number_in, still, settled, finished}
use Rattle.plain_model.specs.Answered.{answered, answered_by, answered_core, register_fault}
use Rattle.session_core.specs.Seen.{unnumbered}
use Rattle.session_core.proofs.Cores.{finished_said, finished_core}
use Rattle.session_core.proofs.session.SessionCore.answer.Goals as goal

pub returns-in_ok-settle-in-None-clause-said : goal.returns-in_ok-settle-in-None-clause-said
unfolding answered
returns-in_ok-settle-in-None-clause-said c =
    let name = characters_of c.args.rdb.now in
    let k = c.args.self.now in
    let there : Core = answered_core c.args.stripped k in
    let settled_is : c.settle.new.self ≡ (settled name (unnumbered there)).core =
    c.in_ok-settle-in-None.ensures ∙ ap (λ (j : Core). (settled name j).core) c.in_ok-take_answer.ensures.core in
    let fault : register_fault c.args.stripped k ≡ None = sym c.in_ok-take_answer.ensures.fault ∙ c.in-None.is in
    IfOk-weaker c.finish.result _ _
    (λ said e. e
    ∙ ap (λ (j : Core). (finished (still j)).said) settled_is
    ∙ finished_said name there
    ∙ ap (λ (f : Option RegisterFault). (answered_by name (number_in (first k.segments)) f there).said) (sym fault))
    c.finish.ensures.said

pub returns-in_ok-settle-in-None-clause-core : goal.returns-in_ok-settle-in-None-clause-core
unfolding answered
returns-in_ok-settle-in-None-clause-core c =
    let name = characters_of c.args.rdb.now in
    let k = c.args.self.now in
    let there : Core = answered_core c.args.stripped k in
    let settled_is : c.settle.new.self ≡ (settled name (unnumbered there)).core =
    c.in_ok-settle-in-None.ensures ∙ ap (λ (j : Core). (settled name j).core) c.in_ok-take_answer.ensures.core in
    let fault : register_fault c.args.stripped k ≡ None = sym c.in_ok-take_answer.ensures.fault ∙ c.in-None.is in
    on_ok_weaker c.finish.result
    (λ e. e
    ∙ ap (λ (j : Core). (finished (still j)).core) settled_is
    ∙ finished_core name there
    ∙ ap (λ (f : Option RegisterFault). unnumbered (answered_by name (number_in (first k.segments)) f there).core) (sym fault))
    c.finish.ensures.core
