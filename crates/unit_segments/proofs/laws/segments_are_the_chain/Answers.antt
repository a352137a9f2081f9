use Rattle.unit_segments.proofs.Segmented.{segments_are}
use Rattle.unit_segments.proofs.laws.segments_are_the_chain.Goals as goal

pub returns : goal.returns
returns c = segments_are
