use Rattle.gateway_session.specs.Inputs as Input
use Rattle.gateway_server.specs.Leases.{held_by}
use Rattle.gateway_server.proofs.Feeds.{fed_has}
use Rattle.gateway_server.proofs.Gripping.{IsFree, given_feeds}
use Rattle.gateway_server.proofs.feeding.feed_given.Goals as goal

free : (c : goal.After-is_ok) → IsFree (held_by c.on_given.new.self)
free c =
    fed_has (λ state. IsFree (held_by state)) c.on_given.result Input.Given c.args.session.now c.on_given.new.self c.on_given.ensures.ok
    c.on_given.ensures.memory (λ memory. given_feeds memory c.args.session.now)

pub returns-clause-grip : goal.returns-clause-grip
returns-clause-grip c = (free c).grip

pub returns-clause-rests : goal.returns-clause-rests
returns-clause-rests c = (free c).rest
