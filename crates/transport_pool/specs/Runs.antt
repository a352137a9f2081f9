-- A pool after a list of calls, each taken as the pool stands then: this project's own.
use Rattle.std.specs.Prelude.{List, fold}
use Rattle.transport_pool.specs.State.{PoolState}
use Rattle.transport_pool.specs.Steps.{pool_step}
use Rattle.transport_pool.specs.declared.entry.PoolCall.{PoolCall}

abbrev pub after_calls : PoolState → List PoolCall → PoolState
after_calls pool calls = fold (λ now call. (pool_step now call).state) pool calls
