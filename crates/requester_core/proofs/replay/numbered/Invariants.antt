use Rattle.std.proofs.Common.{◌≡◌, ◌≤◌, ◌+◌, ◌++◌, length}
use Rattle.unit_segments.specs.Spelling.{numbered}
use Rattle.requester_core.proofs.replay.numbered.Given as goal

abbrev pub invariant-loop-command : goal.invariant-loop-command
invariant-loop-command l = record {
  so_far : l.all ++ numbered l.number l.left ≡ numbered 1 l.fn.commands;
  count : l.number + length l.left ≤ 4097;
}

abbrev pub decreases-loop-command : goal.decreases-loop-command
decreases-loop-command l = length l.left
