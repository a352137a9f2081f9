use Rattle.transport_pool.specs.Inside.{state_of}
use Rattle.transport_pool.proofs.Keeps.{keeps_lose}
use Rattle.transport_pool.proofs.pool.Pool.lose.Goals as goal

pub invariant_of-self : goal.invariant_of-self
invariant_of-self c = record {
  lent = rw c.remove_number.ensures.capacity c.self.invariant.lent;
  idle = c.self.invariant.idle;
  waiting = c.self.invariant.waiting;
  sound = keeps_lose (state_of c.self.inside) _ c.args.number c.remove_number.ensures.items c.self.invariant.sound;
}
