use Rattle.std.proofs.Common.{◌≡◌, ◌∙◌, Some, refl, ap}
use Rattle.gateway_session.specs.contracts.running.Running.{the_view}
use Rattle.gateway_session.specs.Session.{Session}
use Rattle.gateway_session.specs.Steps.{with_word, accept_word}
use Rattle.gateway_session.proofs.Counting.{accepted_ends}
use Rattle.gateway_session.proofs.running.Running.accept.Goals as goal

pub returns-clause-session : goal.returns-clause-session
returns-clause-session c =
    let before = c.args.self.now in
    let word : c.accept_word-word.result ≡ accept_word before.core.owed =
    c.accept_word-word.ensures ∙ ap accept_word c.owed.ensures ∙ ap (λ (s : Session). accept_word s.core.owed) c.self.view_is in
    c.note_word.ensures
    ∙ ap (with_word (Some c.accept_word-word.result)) c.in_ok-say.ensures.session
    ∙ accepted_ends c.self-2.inside.core c.accept.new.self c.in_ok-said.said c.accept_word-word.result (the_view c.self-2.inside) before
    (c.self-2.view_is ∙ c.forget_tries.ensures) refl word c.in_ok-said.ensures.said c.in_ok-said.ensures.core
