use Rattle.std.proofs.Common.{◌≡◌, ◌≤◌, ◌+◌, ◌++◌, length, map}
use Rattle.unit_segments.specs.Spelling.{numbered}
use Rattle.unit_segments.specs.Handshake.{without_go_on}
use Rattle.requester_core.proofs.replay.stopping.Given as goal

abbrev pub invariant-loop-command : goal.invariant-loop-command
invariant-loop-command l = record {
  so_far : l.all ++ numbered l.number (map without_go_on l.left) ≡ numbered 1 (map without_go_on l.fn.commands);
  count : l.number + length l.left ≤ 4097;
}

abbrev pub decreases-loop-command : goal.decreases-loop-command
decreases-loop-command l = length l.left
