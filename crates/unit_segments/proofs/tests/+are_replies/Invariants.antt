use Rattle.std.proofs.Common.{length}
use Rattle.unit_segments.proofs.tests.+are_replies.Given as goal

abbrev pub decreases-are_replies : goal.decreases-are_replies
decreases-are_replies l = length l.replies.now
