use Rattle.transport_pool.specs.Inside.{state_of}
use Rattle.transport_pool.proofs.Keeps.{keeps_lend_idle}
use Rattle.transport_pool.proofs.pool.Pool.lend_idle.Goals as goal

pub invariant_of-self : goal.invariant_of-self
invariant_of-self c =
    let room = rw (← c.self.view_is) at c.requires.room in
    let there = rw (← c.self.view_is) at c.requires.there in
    record {
      lent = rw c.push_reserved.ensures.capacity c.self.invariant.lent;
      idle = rw c.remove_number.ensures.capacity c.self.invariant.idle;
      waiting = c.self.invariant.waiting;
      sound = keeps_lend_idle (state_of c.self.inside) _ _ c.args.transport c.push_reserved.ensures.items c.remove_number.ensures.items room there
          c.requires.member c.self.invariant.sound;
    }
