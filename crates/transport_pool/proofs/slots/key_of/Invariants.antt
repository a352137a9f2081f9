use Rattle.std.proofs.Common.{◌≡◌, ℕ, ◌<◌, false}
use Rattle.slab.specs.Slab.{get}
use Rattle.transport_pool.specs.Slots.{holds}
use Rattle.transport_pool.proofs.slots.key_of.Given as goal

abbrev pub invariant-loop-key : goal.invariant-loop-key
invariant-loop-key g l = (k : ℕ) → k < l.key → holds l.number (get l.slots k) ≡ false
