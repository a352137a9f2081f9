use Rattle.gateway_session.specs.Inputs as Input
use Rattle.gateway_server.specs.Leases.{held_by, grip_of_held}
use Rattle.gateway_server.proofs.Feeds.{fed_has}
use Rattle.gateway_server.proofs.Gripping.{AfterDial, dialled_feeds, says_in}
use Rattle.gateway_server.proofs.feeding.feed_dialled.Goals as goal

after : (c : goal.After-is_ok) → AfterDial c.args.reached (grip_of_held (held_by c.args.session.now)) (held_by c.on_dialled.new.self)
after c =
    fed_has (λ state. AfterDial c.args.reached (grip_of_held (held_by c.args.session.now)) (held_by state)) c.on_dialled.result (Input.Dialled c.args.reached)
    c.args.session.now c.on_dialled.new.self c.on_dialled.ensures.ok c.on_dialled.ensures.memory
    (λ memory. dialled_feeds memory c.args.reached c.args.session.now (says_in c.args.session.now _ c.requires.need) c.requires.rests)

pub returns-clause-reached : goal.returns-clause-reached
returns-clause-reached c = (after c).hits

pub returns-clause-missed : goal.returns-clause-missed
returns-clause-missed c = (after c).misses

pub returns-clause-rests : goal.returns-clause-rests
returns-clause-rests c = (after c).rest
