use Rattle.std.proofs.Common.{◌≡◌, ◌+◌, ◌*◌, ◌++◌, take, length}
use Rattle.std.specs.List.{flat_map}
use Rattle.server_list.specs.Layout.{row_bytes}
use Rattle.server_list.proofs.write.put_rows.Given as goal

abbrev pub invariant-loop-row : goal.invariant-loop-row
invariant-loop-row l = record {
  rows : l.bytes ≡ l.initial.bytes ++ flat_map row_bytes (take l.row-index l.row-items);
  size : length l.bytes ≡ length l.initial.bytes + 4 * l.row-index;
}
