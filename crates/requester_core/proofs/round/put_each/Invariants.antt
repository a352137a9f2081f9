use Rattle.std.proofs.Common.{◌≡◌, ◌++◌, length, map}
use Rattle.unit_segments.specs.Handshake.{each_alone}
use Rattle.requester_core.specs.declared.round.Round.TheVariants.{Access}
use Rattle.requester_core.proofs.round.put_each.Given as goal

abbrev pub invariant-loop-command : goal.invariant-loop-command
invariant-loop-command l = l.rounds.items ++ map Access (each_alone l.left) ≡ l.fn.rounds.items ++ map Access (each_alone l.fn.commands)

abbrev pub decreases-loop-command : goal.decreases-loop-command
decreases-loop-command l = length l.left
