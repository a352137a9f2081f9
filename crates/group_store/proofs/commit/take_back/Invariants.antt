use Rattle.std.proofs.Common.{◌≡◌, length}
use Rattle.group_store.specs.Commit.{taken_back}
use Rattle.group_store.proofs.commit.take_back.Given as goal

abbrev pub invariant-loop-one : goal.invariant-loop-one
invariant-loop-one l = taken_back l.left.items l.rows.entries ≡ taken_back l.fn.replaced.items l.fn.rows.entries

abbrev pub decreases-loop-one : goal.decreases-loop-one
decreases-loop-one l = length l.left.items
