use Rattle.std.proofs.Common.{◌≡◌, take}
use Rattle.unit_segments.proofs.share.share_command.Given as goal

abbrev pub invariant-loop-octets : goal.invariant-loop-octets
invariant-loop-octets l = l.objects ≡ take l.octets-index l.octets-items
