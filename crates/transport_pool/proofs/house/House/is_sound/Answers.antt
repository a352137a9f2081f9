use Rattle.transport_pool.proofs.Housing.{order_numbers}
use Rattle.transport_pool.proofs.house.House.is_sound.Goals as goal

pub returns-clause-idle : goal.returns-clause-idle
returns-clause-idle g c = rw (← c.self.view_is) (order_numbers c.self.inside.slots.slots c.self.inside.decisions.pool.idle c.self.invariant.kept.lying)
