use Rattle.gateway_session.specs.Inputs as Input
use Rattle.gateway_server.specs.Leases.{held_by}
use Rattle.gateway_server.proofs.Feeds.{fed_has}
use Rattle.gateway_server.proofs.Gripping.{Kept, sent_feeds}
use Rattle.gateway_server.proofs.feeding.feed_sent.Goals as goal

kept : (c : goal.After-is_ok) → Kept (held_by c.args.session.now) (held_by c.on_sent.new.self)
kept c =
    fed_has (λ state. Kept (held_by c.args.session.now) (held_by state)) c.on_sent.result (Input.Sent c.args.n) c.args.session.now c.on_sent.new.self
    c.on_sent.ensures.ok
    c.on_sent.ensures.memory (λ memory. sent_feeds memory c.args.n c.args.session.now)

pub returns-clause-grip : goal.returns-clause-grip
returns-clause-grip c = (kept c).grip

pub returns-clause-rests : goal.returns-clause-rests
returns-clause-rests c = (kept c).rest c.requires.rests
