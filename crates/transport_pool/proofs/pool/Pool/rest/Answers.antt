use Rattle.std.proofs.Common.{arith}
use Rattle.transport_pool.specs.Inside.{state_of}
use Rattle.transport_pool.proofs.Keeps.{keeps_rest, keeps_exchange}
use Rattle.transport_pool.proofs.pool.Pool.rest.Goals as goal

pub invariant_of-self : goal.invariant_of-self
invariant_of-self c =
    let unused = rw (← c.self.view_is) at c.requires.unused in
    let drawn = rw (← c.self.view_is) at c.requires.drawn in
    record {
      lent = c.self.invariant.lent;
      idle = rw c.push_reserved.ensures.capacity c.self.invariant.idle;
      waiting = c.self.invariant.waiting;
      sound = keeps_rest (state_of c.self.inside) _ c.args.transport c.push_reserved.ensures.items (omega arith) unused drawn c.requires.member
          c.self.invariant.sound;
    }

pub invariant_of-self-2 : goal.invariant_of-self-2
invariant_of-self-2 c =
    let unused = rw (← c.self.view_is) at c.requires.unused in
    let drawn = rw (← c.self.view_is) at c.requires.drawn in
    record {
      lent = c.self.invariant.lent;
      idle = rw c.exchange_oldest-oldest.ensures.capacity c.self.invariant.idle;
      waiting = c.self.invariant.waiting;
      sound = keeps_exchange (state_of c.self.inside) _ c.args.transport c.exchange_oldest-oldest.result c.exchange_oldest-oldest.ensures.items
          (omega arith) unused drawn c.requires.member c.self.invariant.sound;
    }
