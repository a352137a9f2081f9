-- What a pool keeps of plain numbers, each list in a row of fixed size: this project's own.
use Rattle.std.specs.Prelude.{◌≤◌, vec_capacity}
use Rattle.transport_pool.specs.State.{PoolState}
use Rattle.transport_pool.specs.Sound.{IsSound}
use Rattle.transport_pool.specs.declared.pool.Pool.TheInside.{Inside}

abbrev pub state_of : Inside → PoolState
state_of pool = record {
  cap = pool.cap;
  known = pool.known;
  list = pool.list;
  lent = pool.lent.items;
  idle = pool.idle.items;
  waiting = pool.waiting.items;
  drawn = pool.drawn;
}

pub record IsKept (pool : Inside) : Type 0 where
  pub lent : 32 ≤ vec_capacity pool.lent
  pub idle : 32 ≤ vec_capacity pool.idle
  pub waiting : 64 ≤ vec_capacity pool.waiting
  pub sound : IsSound (state_of pool)
