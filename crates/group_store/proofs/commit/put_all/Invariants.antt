use Rattle.std.proofs.Common.{◌≡◌, length}
use Rattle.group_store.specs.Rows.{with_writes}
use Rattle.group_store.specs.Commit.{taken_back}
use Rattle.group_store.proofs.commit.put_all.Given as goal

abbrev pub invariant-loop-place : goal.invariant-loop-place
invariant-loop-place l = record {
  so_far : with_writes l.number l.left.entries l.rows.entries ≡ with_writes l.number l.fn.writes.entries l.fn.rows.entries;
  kept : taken_back l.replaced.items l.rows.entries ≡ taken_back l.fn.replaced.items l.fn.rows.entries;
}

abbrev pub decreases-loop-place : goal.decreases-loop-place
decreases-loop-place l = length l.left.entries
