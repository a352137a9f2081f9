use Rattle.std.proofs.Common.{◌≡◌, ◌∙◌, ℕ, List, Option, refl, ap}
use Rattle.plain_model.specs.Answered.{answered}
use Rattle.session_core.specs.Seen.{unnumbered}
use Rattle.gateway_session.specs.declared.loss.ErrorWord.{ErrorWord}
use Rattle.gateway_session.specs.contracts.running.Running.{the_view}
use Rattle.gateway_session.specs.Session.{Session}
use Rattle.gateway_session.specs.Steps.{with_word, with_list, limit_word}
use Rattle.gateway_session.proofs.Counting.{answered_ends}
use Rattle.gateway_session.proofs.running.Running.answered.Goals as goal

pub returns-clause-session : goal.returns-clause-session
returns-clause-session c =
    let r = c.args.stripped in
    let k = c.self.inside.core in
    let after = c.answer.new.self in
    let s : Session = the_view c.self.inside in
    let word : c.limit_word-word.result ≡ limit_word after.end = c.limit_word-word.ensures ∙ ap limit_word c.end.ensures in
    c.note_word.ensures
    ∙ ap (λ (error : Option ErrorWord). with_word error c.note_list.new.self) word
    ∙ ap (with_word (limit_word after.end))
    (c.note_list.ensures
    ∙ ap (λ (list : Option (List ℕ)). with_list list c.say.new.self) c.replace-list.ensures.value
    ∙ ap (with_list r.list) c.in_ok-say.ensures.session)
    ∙ answered_ends r k after c.in_ok-said.said s c.args.self.now (c.self.view_is ∙ c.forget_tries.ensures) refl
    (c.in_ok-said.ensures.said ∙ ap (λ (list : Option (List ℕ)). (answered s.name (record r { list = list }) k).said) c.replace-list.ensures.after)
    (c.in_ok-said.ensures.core
    ∙ ap (λ (list : Option (List ℕ)). unnumbered (answered s.name (record r { list = list }) k).core) c.replace-list.ensures.after)
