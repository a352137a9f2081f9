use Rattle.std.proofs.Common.{◌≡◌, ℕ, ◌≤◌, true}
use Rattle.slab.specs.Slab.{get, slab_len}
use Rattle.transport_pool.specs.Slots.{most_kept, is_blank}
use Rattle.transport_pool.proofs.slots.new_slots.Given as goal

abbrev pub invariant-loop : goal.invariant-loop
invariant-loop g l = record {
  filled : slab_len l.slots ≡ l.counter;
  room : most_kept ≤ l.slots.capacity;
  blank : (k : ℕ) → is_blank (get l.slots k) ≡ true;
}
