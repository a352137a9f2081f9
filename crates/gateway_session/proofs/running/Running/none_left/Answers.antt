use Rattle.std.proofs.Common.{◌≡◌, ◌∙◌, Some, refl, ap}
use Rattle.access_handshake.specs.declared.stage.Stage.{Stage}
use Rattle.plain_model.specs.Core.{Owed}
use Rattle.plain_model.specs.Standing.{Standing}
use Rattle.gateway_session.specs.declared.loss.ErrorWord.{ErrorWord}
use Rattle.gateway_session.specs.contracts.running.Running.{the_view}
use Rattle.gateway_session.specs.Steps.{with_word, none_left_word}
use Rattle.gateway_session.proofs.Counting.{none_left_ends}
use Rattle.gateway_session.proofs.running.Running.none_left.Goals as goal

pub returns-clause-session : goal.returns-clause-session
returns-clause-session c =
    let k = c.self.inside.core in
    let word : c.none_left_word-word.result ≡ none_left_word k.standing.stage k.owed =
    c.none_left_word-word.ensures
    ∙ ap (λ (owed : Owed). none_left_word c.stage.result owed) c.owed.ensures
    ∙ ap (λ (stage : Stage). none_left_word stage k.owed) (c.stage.ensures ∙ ap (λ (standing : Standing). standing.stage) c.standing.ensures) in
    c.note_word.ensures
    ∙ ap (λ (error : ErrorWord). with_word (Some error) c.say.new.self) word
    ∙ ap (with_word (Some (none_left_word k.standing.stage k.owed))) c.in_ok-say.ensures.session
    ∙ none_left_ends k c.end_without_member.new.self c.in_ok-said.said (the_view c.self.inside) c.args.self.now c.self.view_is refl
    c.in_ok-said.ensures.said c.in_ok-said.ensures.core
