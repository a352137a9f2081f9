use Rattle.std.proofs.Common.{◌≡◌, ◌≤◌, ◌+◌, length}
use Rattle.unit_segments.specs.Strip.{end_number, end_number_from}
use Rattle.unit_segments.proofs.stripped.end_number.Given as goal

abbrev pub invariant-loop-command : goal.invariant-loop-command
invariant-loop-command l = record {
  same : end_number_from l.number l.left ≡ end_number l.fn.segment;
  count : l.number + length l.left ≤ 4097;
}

abbrev pub decreases-loop-command : goal.decreases-loop-command
decreases-loop-command l = length l.left
