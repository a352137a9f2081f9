use Rattle.std.proofs.Common.{◌≤◌, drop, length}
use Rattle.unit_segments.specs.Cut.{Cuts}
use Rattle.unit_segments.proofs.segment.cut.Given as goal

abbrev pub invariant-loop-command : goal.invariant-loop-command
invariant-loop-command l = record {
  cuts : Cuts l.command-items (drop l.command-index l.command-items) l.segments l.run;
  size : length l.run ≤ l.command-index;
}
