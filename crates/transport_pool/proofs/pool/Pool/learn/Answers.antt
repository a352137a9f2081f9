use Rattle.transport_pool.specs.Inside.{state_of}
use Rattle.transport_pool.proofs.Keeps.{keeps_learn}
use Rattle.transport_pool.proofs.pool.Pool.learn.Goals as goal

pub invariant_of-self : goal.invariant_of-self
invariant_of-self c = record {
  lent = c.self.invariant.lent;
  idle = c.self.invariant.idle;
  waiting = c.self.invariant.waiting;
  sound = keeps_learn (state_of c.self.inside) _ c.self.invariant.sound;
}
