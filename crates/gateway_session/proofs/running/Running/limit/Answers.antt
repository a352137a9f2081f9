use Rattle.std.proofs.Common.{◌∙◌, Some, refl, ap}
use Rattle.session_core.specs.Seen.{seen_kind}
use Rattle.gateway_session.specs.declared.loss.ErrorWord.TheVariants as word
use Rattle.gateway_session.specs.contracts.running.Running.{the_view}
use Rattle.gateway_session.specs.Steps.{with_word}
use Rattle.gateway_session.proofs.Counting.{limit_ends}
use Rattle.gateway_session.proofs.running.Running.limit.Goals as goal

pub returns-clause-session : goal.returns-clause-session
returns-clause-session c =
    c.note_word.ensures
    ∙ ap (with_word (Some word.Limit)) c.in_ok-say.ensures.session
    ∙ limit_ends (seen_kind c.args.kind) c.self.inside.core c.close.new.self c.in_ok-said.said (the_view c.self.inside) c.args.self.now c.self.view_is
    refl c.in_ok-said.ensures.said c.in_ok-said.ensures.core
