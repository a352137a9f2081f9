-- What stays of the order of waiting over calls: this project's own.
use Rattle.std.specs.Prelude.{◌≡◌, ◌≢◌, ℕ, Bool, true, ◌==◌, if◌then◌else◌, List, [], ◌∷◌, filter}
use Rattle.transport_pool.specs.State.{PoolState, is_waiting}
use Rattle.transport_pool.specs.Steps.{pool_step}
use Rattle.transport_pool.specs.Runs.{after_calls}
use Rattle.transport_pool.specs.declared.entry.PoolCall.{PoolCall}
use Rattle.transport_pool.specs.declared.entry.PoolCall.TheVariants.{Lend, Leave}
use Rattle.transport_pool.specs.declared.entry.PoolAnswer.TheVariants.{Queue}

-- the sessions that wait before this one
abbrev pub ahead : ℕ → List ℕ → List ℕ
ahead session [] = []
ahead session (first ∷ others) = if first == session then [] else first ∷ ahead session others

-- The session still waits, and those before it are some of those that were before it, in the same order.
pub record StaysInOrder (session : ℕ) (old new : List ℕ) : Type 0 where
  pub waits : is_waiting session new ≡ true
  pub stays : ℕ → Bool
  pub before : ahead session new ≡ filter stays (ahead session old)

-- the call doesn't serve this session: it is no lend of its own, but for one that is answered Queue, and not its leaving
abbrev pub IsUnserved : ℕ → PoolState → PoolCall → Type 0
IsUnserved session pool (Lend other tried fresh) = other ≡ session → (pool_step pool (Lend other tried fresh)).answer ≡ Queue
IsUnserved session pool (Leave other) = other ≢ session
IsUnserved session pool _ = Unit {0}

-- none of these calls serves it, each as the pool stands then
abbrev pub IsUnservedThrough : ℕ → PoolState → List PoolCall → Type 0
IsUnservedThrough session pool [] = Unit {0}
IsUnservedThrough session pool (call ∷ calls) =
    IsUnserved session pool call × IsUnservedThrough session (pool_step pool call).state calls

-- over these calls a session that waits and that none of them serves stays in order
abbrev pub KeepsOrder : PoolState → List PoolCall → ℕ → Type 0
KeepsOrder pool calls session =
    IsUnservedThrough session pool calls → is_waiting session pool.waiting ≡ true
    → StaysInOrder session pool.waiting (after_calls pool calls).waiting
