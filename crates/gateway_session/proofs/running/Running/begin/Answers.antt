use Rattle.std.proofs.Common.{Some, refl, sym, ap, ◌∙◌}
use Rattle.std.proofs.lemmas.Result.{on_ok_weaker}
use Rattle.plain_model.specs.Begun.{Chain, Fault, TooLong}
use Rattle.session_core.specs.declared.incoming.Reading.{Reading as Read}
use Rattle.session_core.specs.SeenReading.{seen_reading}
use Rattle.gateway_session.specs.declared.loss.ErrorWord.TheVariants as word
use Rattle.gateway_session.specs.Session.{uncounted}
use Rattle.gateway_session.specs.Steps.{begun_with, with_word}
use Rattle.gateway_session.proofs.Counting.{begun_ends}
use Rattle.gateway_session.proofs.running.Running.begin.Goals as goal

pub returns-in_ok-said-in-Chain-clause-session : goal.returns-in_ok-said-in-Chain-clause-session
returns-in_ok-said-in-Chain-clause-session c =
    on_ok_weaker c.say.result
    (λ e. e
    ∙ begun_ends (Chain c.in-Chain.chain) c.self.inside.core c.begin_chain.new.self c.in_ok-said-in-Chain.said _ c.args.self.now c.self.view_is refl
    c.in_ok-said-in-Chain.ensures.said c.in_ok-said-in-Chain.ensures.core
    ∙ ap (λ (r : Read). uncounted (begun_with (seen_reading r) c.args.self.now)) (sym c.in-Chain.is))
    c.say.ensures.session

pub returns-in_ok-say-in-Fault-clause-session : goal.returns-in_ok-say-in-Fault-clause-session
returns-in_ok-say-in-Fault-clause-session c =
    c.note_word.ensures
    ∙ ap (with_word (Some word.Syntax)) c.in_ok-say-in-Fault.ensures.session
    ∙ begun_ends (Fault c.in-Fault.place c.in-Fault.error c.in-Fault.number) c.self-in-Fault.inside.core c.begin_fault.new.self
    c.in_ok-said-in-Fault.said _ c.args.self.now c.self-in-Fault.view_is refl c.in_ok-said-in-Fault.ensures.said c.in_ok-said-in-Fault.ensures.core
    ∙ ap (λ (r : Read). uncounted (begun_with (seen_reading r) c.args.self.now)) (sym c.in-Fault.is)

pub returns-in_ok-say-in-TooLong-clause-session : goal.returns-in_ok-say-in-TooLong-clause-session
returns-in_ok-say-in-TooLong-clause-session c =
    c.note_word-in-TooLong.ensures
    ∙ ap (with_word (Some word.Limit)) c.in_ok-say-in-TooLong.ensures.session
    ∙ begun_ends (TooLong c.in-TooLong.number) c.self-in-TooLong.inside.core c.begin_too_long.new.self
    c.in_ok-said-in-TooLong.said _ c.args.self.now c.self-in-TooLong.view_is refl c.in_ok-said-in-TooLong.ensures.said
    c.in_ok-said-in-TooLong.ensures.core
    ∙ ap (λ (r : Read). uncounted (begun_with (seen_reading r) c.args.self.now)) (sym c.in-TooLong.is)
