use Rattle.std.proofs.Common.{refl, arith}
use Rattle.transport_pool.specs.Inside.{state_of}
use Rattle.transport_pool.proofs.Keeps.{keeps_dial}
use Rattle.transport_pool.proofs.pool.Pool.dial.Goals as goal

pub invariant_of-self : goal.invariant_of-self
invariant_of-self c =
    let room = rw (← c.self.view_is) at c.requires.room in
    record {
      lent = rw c.push_reserved.ensures.capacity c.self.invariant.lent;
      idle = c.self.invariant.idle;
      waiting = c.self.invariant.waiting;
      sound = keeps_dial (state_of c.self.inside) _ _ _ c.push_reserved.ensures.items refl refl (omega arith) room c.requires.member c.self.invariant.sound;
    }
