use Rattle.gateway_session.specs.Inputs as Input
use Rattle.gateway_server.specs.Leases.{held_by, grip_lent}
use Rattle.gateway_server.proofs.Feeds.{fed_has}
use Rattle.gateway_server.specs.Dialling.{AfterLend}
use Rattle.gateway_server.proofs.Dialling.{lend_asks}
use Rattle.gateway_server.proofs.Gripping.{Rests, lend_feeds, says_in}
use Rattle.gateway_server.proofs.feeding.feed_lend.Goals as goal

after : (c : goal.After-is_ok) → Rests (grip_lent c.args.lent) (held_by c.on_lend.new.self)
after c =
    fed_has (λ state. Rests (grip_lent c.args.lent) (held_by state)) c.on_lend.result (Input.Lend c.args.lent) c.args.session.now c.on_lend.new.self
    c.on_lend.ensures.ok c.on_lend.ensures.memory (λ memory. lend_feeds memory c.args.lent c.args.session.now (says_in c.args.session.now _ c.requires.need))

pub returns-clause-grip : goal.returns-clause-grip
returns-clause-grip c = (after c).grip

pub returns-clause-rests : goal.returns-clause-rests
returns-clause-rests c = (after c).rest

pub returns-clause-lent : goal.returns-clause-lent
returns-clause-lent c =
    fed_has (λ state. AfterLend c.args.lent state) c.on_lend.result (Input.Lend c.args.lent) c.args.session.now c.on_lend.new.self c.on_lend.ensures.ok
    c.on_lend.ensures.memory
    (λ memory. lend_asks memory c.args.lent c.args.session.now c.requires.need
    (lend_feeds memory c.args.lent c.args.session.now (says_in c.args.session.now _ c.requires.need)).grip)
