use Rattle.std.proofs.Common.{◌≡◌, ◌++◌}
use Rattle.group_store.specs.Rows.{rows_there}
use Rattle.group_store.proofs.store.Store.rows.Given as goal

abbrev pub invariant-loop-place : goal.invariant-loop-place
invariant-loop-place l = l.rows ++ rows_there l.place-iterator ≡ rows_there l.self.rows
