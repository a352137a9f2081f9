use Rattle.transport_pool.specs.Inside.{state_of}
use Rattle.transport_pool.proofs.Keeps.{keeps_leave}
use Rattle.transport_pool.proofs.pool.Pool.leave.Goals as goal

pub invariant_of-self : goal.invariant_of-self
invariant_of-self c = record {
  lent = c.self.invariant.lent;
  idle = c.self.invariant.idle;
  waiting = rw c.remove_session.ensures.capacity c.self.invariant.waiting;
  sound = keeps_leave (state_of c.self.inside) _ c.args.session c.remove_session.ensures.items c.self.invariant.sound;
}
