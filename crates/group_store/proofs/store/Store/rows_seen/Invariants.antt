use Rattle.std.proofs.Common.{◌≡◌}
use Rattle.group_store.specs.Rows.{with_rows, with_own, rows_seen}
use Rattle.group_store.proofs.store.Store.rows_seen.Given as goal

abbrev pub invariant-loop-place : goal.invariant-loop-place
invariant-loop-place l =
    with_own l.schema l.unit.writes (with_rows l.schema l.place-iterator l.seen.entries) ≡ rows_seen l.schema l.self.rows l.unit.writes

abbrev pub invariant-loop-place-2 : goal.invariant-loop-place-2
invariant-loop-place-2 l = with_own l.schema l.place-iterator l.seen.entries ≡ rows_seen l.schema l.self.rows l.unit.writes
