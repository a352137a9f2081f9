use Rattle.std.proofs.Common.{◌≡◌, fold, length}
use Rattle.server_list.specs.Lists.{no_rows}
use Rattle.server_list.specs.Layout.{rows_of, with_known}
use Rattle.server_list.proofs.read.known_list.Given as goal

abbrev pub invariant-loop-rest : goal.invariant-loop-rest
invariant-loop-rest l =
    fold (with_known l.known) l.list (rows_of l.rest) ≡ fold (with_known l.known) (record no_rows { number = l.number }) (rows_of l.bytes)

abbrev pub decreases-loop-rest : goal.decreases-loop-rest
decreases-loop-rest l = length l.rest
