use Rattle.std.proofs.Common.{◌≡◌, ℕ, ◌<◌, false}
use Rattle.slab.specs.Slab.{get}
use Rattle.transport_pool.specs.Slots.{is_free}
use Rattle.transport_pool.proofs.slots.free_key.Given as goal

abbrev pub invariant-loop-key : goal.invariant-loop-key
invariant-loop-key g l = (k : ℕ) → k < l.key → is_free (get l.slots k) ≡ false
