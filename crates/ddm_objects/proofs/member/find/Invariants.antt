use Rattle.std.proofs.Common.{length}
use Rattle.ddm_objects.proofs.Reading.Finding.{Searches}
use Rattle.ddm_objects.proofs.member.find.Given as goal

abbrev pub invariant-loop-next : goal.invariant-loop-next
invariant-loop-next l = Searches l.bytes l.code l.scan l.found

abbrev pub decreases-loop-next : goal.decreases-loop-next
decreases-loop-next l = length l.scan.left
