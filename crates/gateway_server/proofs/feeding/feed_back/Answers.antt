use Rattle.gateway_session.specs.Inputs as Input
use Rattle.gateway_server.specs.Leases.{held_by}
use Rattle.gateway_server.proofs.Feeds.{fed_has}
use Rattle.gateway_server.proofs.Gripping.{Kept, back_feeds, says_in}
use Rattle.gateway_server.proofs.feeding.feed_back.Goals as goal

kept : (c : goal.After-is_ok) → Kept (held_by c.args.session.now) (held_by c.on_back.new.self)
kept c =
    fed_has (λ state. Kept (held_by c.args.session.now) (held_by state)) c.on_back.result (Input.Back c.args.piece.now) c.args.session.now c.on_back.new.self
    c.on_back.ensures.ok
    c.on_back.ensures.memory (λ memory. back_feeds memory c.args.piece.now c.args.session.now (says_in c.args.session.now _ c.requires.need).1)

pub returns-clause-grip : goal.returns-clause-grip
returns-clause-grip c = (kept c).grip

pub returns-clause-rests : goal.returns-clause-rests
returns-clause-rests c = (kept c).rest c.requires.rests
