use Rattle.gateway_session.specs.Inputs as Input
use Rattle.gateway_session.specs.declared.loss.LossWhy.TheVariants as why
use Rattle.gateway_server.specs.Leases.{held_by}
use Rattle.gateway_server.proofs.Feeds.{fed_has}
use Rattle.gateway_server.proofs.Gripping.{IsFree, fault_feeds}
use Rattle.gateway_server.proofs.feeding.feed_fault.Goals as goal

free : (c : goal.After-is_ok) → IsFree (held_by c.on_lost.new.self)
free c =
    fed_has (λ state. IsFree (held_by state)) c.on_lost.result (Input.Lose why.Fault) c.args.session.now c.on_lost.new.self c.on_lost.ensures.ok
    c.on_lost.ensures.memory (λ memory. fault_feeds memory c.args.session.now c.requires.rests)

pub returns-clause-grip : goal.returns-clause-grip
returns-clause-grip c = (free c).grip

pub returns-clause-rests : goal.returns-clause-rests
returns-clause-rests c = (free c).rest
