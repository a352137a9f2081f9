use Rattle.unit_segments.proofs.Segmented.{segments_only}
use Rattle.unit_segments.proofs.laws.segments_are_one_list.Goals as goal

pub returns : goal.returns
returns c = segments_only
