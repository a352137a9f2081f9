use Rattle.transport_pool.proofs.Lying.{gains_at}
use Rattle.transport_pool.proofs.slots.put.Goals as goal

pub returns : goal.returns
returns g c = gains_at c.in-Some.key c.args.slots.now.slots _ c.args.transport c.in-Some.ensures.found c.requires.unused c.exchange.ensures.slots
