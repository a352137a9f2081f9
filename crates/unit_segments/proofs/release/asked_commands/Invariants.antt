use Rattle.std.proofs.Common.{◌≡◌, ◌≤◌, ◌+◌, ◌++◌, length, map}
use Rattle.std.specs.List.{AllByRecursion}
use Rattle.unit_segments.specs.Spelling.{numbered}
use Rattle.unit_segments.specs.Release.{asked, FitsAChain}
use Rattle.unit_segments.proofs.release.asked_commands.Given as goal

abbrev pub invariant-loop-command : goal.invariant-loop-command
invariant-loop-command l = record {
  so_far : l.commands ++ numbered l.number (map asked l.left) ≡ numbered 1 (map asked l.fn.segment);
  count : l.number + length l.left ≤ 4097;
  fits : AllByRecursion FitsAChain l.left;
}

abbrev pub decreases-loop-command : goal.decreases-loop-command
decreases-loop-command l = length l.left
