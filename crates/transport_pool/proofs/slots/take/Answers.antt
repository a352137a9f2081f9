use Rattle.transport_pool.proofs.Lying.{found_at, leaves_at}
use Rattle.transport_pool.proofs.slots.take.Goals as goal

pub returns-clause-found : goal.returns-clause-found
returns-clause-found g c =
    found_at c.args.number c.in-Some.key c.args.slots.now.slots c.in-Some-exchange.transport c.in-Some.ensures.found c.in-Some-exchange.ensures.was c.requires

pub returns-clause-left : goal.returns-clause-left
returns-clause-left g c =
    leaves_at c.args.number c.in-Some.key c.args.slots.now.slots _ c.in-Some-exchange.transport c.in-Some.ensures.found c.in-Some-exchange.ensures.was
    c.exchange.ensures.slots
