use Rattle.std.proofs.Common.{◌≡◌, ◌++◌, length}
use Rattle.unit_segments.specs.Spelling.{chain_bytes}
use Rattle.unit_segments.proofs.write.write_chain.Given as goal

abbrev pub invariant-loop-command : goal.invariant-loop-command
invariant-loop-command l = l.out ++ chain_bytes l.left ≡ chain_bytes l.fn.commands

abbrev pub decreases-loop-command : goal.decreases-loop-command
decreases-loop-command l = length l.left
