use Rattle.transport_pool.specs.declared.entry.PoolCall.TheVariants as call
use Rattle.transport_pool.proofs.Deciding.{learn_idle}
use Rattle.transport_pool.proofs.Housed.{idle_same, kept_along, order_same, shows, still_along}
use Rattle.transport_pool.proofs.house.House.learn.Goals as goal

pub invariant_of-self : goal.invariant_of-self
invariant_of-self g c =
    let house = c.self.inside in
    let same = idle_same house.decisions _ (call.Learn c.args.list.now) c.decide.ensures.decided (learn_idle house.decisions.pool c.args.list.now) in
    record {
      kept = kept_along house.slots.slots house.decisions.pool.idle _ same c.self.invariant.kept;
      still = still_along _ _ (order_same house.slots.slots house.decisions.pool.idle _ same) c.self.invariant.still;
    }

pub returns : goal.returns
returns g c =
    let house = c.self.inside in
    let same = idle_same house.decisions _ (call.Learn c.args.list.now) c.decide.ensures.decided (learn_idle house.decisions.pool c.args.list.now) in
    rw (← c.self.view_is) (shows _ _ _ _ _ _ c.decide.ensures.decided (order_same house.slots.slots house.decisions.pool.idle _ same))
