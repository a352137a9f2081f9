use Rattle.std.proofs.Common.{◌≡◌, ℕ, ◌≤◌, take, get_or}
use Rattle.transport_pool.specs.State.{counts_of}
use Rattle.transport_pool.proofs.rows.counts_of.Given as goal

abbrev pub invariant-loop-transport : goal.invariant-loop-transport
invariant-loop-transport l = record {
  counts : l.counts ≡ counts_of (take l.transport-index l.transports);
  few : (k : ℕ) → get_or l.counts k 0 ≤ l.transport-index;
}
