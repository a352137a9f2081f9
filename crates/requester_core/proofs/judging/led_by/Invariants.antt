use Rattle.std.proofs.Common.{◌≡◌, length}
use Rattle.requester_core.specs.Judging.{led_by}
use Rattle.requester_core.proofs.judging.led_by.Given as goal

abbrev pub invariant-loop-command : goal.invariant-loop-command
invariant-loop-command l = led_by l.left l.stage ≡ led_by l.fn.commands l.fn.stage

abbrev pub decreases-loop-command : goal.decreases-loop-command
decreases-loop-command l = length l.left
