use Rattle.std.proofs.Common.{◌≡◌, length}
use Rattle.requester_core.specs.Judging.{give}
use Rattle.requester_core.proofs.judging.give.Given as goal

abbrev pub invariant-loop-command : goal.invariant-loop-command
invariant-loop-command l = give l.typdef l.mechanism l.left l.replies ≡ give l.typdef l.mechanism l.fn.commands l.replies

abbrev pub decreases-loop-command : goal.decreases-loop-command
decreases-loop-command l = length l.left
