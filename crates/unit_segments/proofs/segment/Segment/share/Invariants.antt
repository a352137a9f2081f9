use Rattle.std.proofs.Common.{◌≡◌, take}
use Rattle.unit_segments.proofs.segment.Segment.share.Given as goal

abbrev pub invariant-loop-command : goal.invariant-loop-command
invariant-loop-command l = l.commands ≡ take l.command-index l.command-items
