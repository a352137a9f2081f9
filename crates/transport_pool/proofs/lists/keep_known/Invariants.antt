use Rattle.std.proofs.Common.{◌≡◌, fold, take}
use Rattle.server_list.specs.Lists.{no_rows}
use Rattle.server_list.specs.Layout.{with_known}
use Rattle.transport_pool.proofs.lists.keep_known.Given as goal

abbrev pub invariant-loop-row : goal.invariant-loop-row
invariant-loop-row l = l.kept ≡ fold (with_known l.known) (record no_rows { number = l.list.number }) (take l.row-index l.row-items)
