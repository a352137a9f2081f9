use Rattle.unit_segments.proofs.ReadAgain.{asked_read_again}
use Rattle.unit_segments.proofs.laws.asked_segment_is_read.Goals as goal

pub returns : goal.returns
returns c = asked_read_again
