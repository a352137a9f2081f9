use Rattle.std.proofs.Common.{◌≡◌, length}
use Rattle.plain_model.specs.Core.{has_commit}
use Rattle.session_core.proofs.work.has_commit.Given as goal

abbrev pub invariant-loop-command : goal.invariant-loop-command
invariant-loop-command l = has_commit l.left ≡ has_commit l.fn.commands

abbrev pub decreases-loop-command : goal.decreases-loop-command
decreases-loop-command l = length l.left
