use Rattle.std.proofs.Common.{refl}
use Rattle.transport_pool.proofs.Keeps.{keeps_made}
use Rattle.transport_pool.proofs.pool.Pool.new.Goals as goal

pub invariant_of-result : goal.invariant_of-result
invariant_of-result c = record {
  lent = c.in_ok-lent.ensures.capacity;
  idle = c.in_ok-idle.ensures.capacity;
  waiting = c.in_ok-waiting.ensures.capacity;
  sound = keeps_made _ c.in_ok-lent.ensures.items c.in_ok-idle.ensures.items c.in_ok-waiting.ensures.items refl c.requires;
}
