use Rattle.std.proofs.Common.{◌∙◌}
use Rattle.gateway_session.specs.Inputs as Input
use Rattle.gateway_server.proofs.Dialling.{lend_turn, lend_pending}
use Rattle.gateway_server.proofs.calls.ask.Goals as goal

pub returns-clause-balance : goal.returns-clause-balance
returns-clause-balance g c = λ calls.
    lend_turn c.lent_and_lease-lent.result.1 c.lent_and_lease-lent.result.0 calls (g.D.Lender.dials c.args.lender.now) (g.D.Lender.dials c.lend.new.self)
    c.feed_lend-memory.result (Input.Lend c.lent_and_lease-lent.result.0) c.args.session.now c.feed_lend-memory.new.session c.feed_lend-memory.ensures.session
    (lend_pending c.args.session.now c.requires.need) c.feed_lend-memory.ensures.lent c.lent_and_lease-lent.ensures.grip
    (c.lend.ensures.dials ∙ c.lent_and_lease-lent.ensures.dials (g.D.Lender.dials c.args.lender.now))
