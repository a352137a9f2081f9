use Rattle.dss_frame.proofs.Pieces.Pieces.{fed-behind}
use Rattle.dss_frame.proofs.laws.what_was_read_stays.Goals as goal

pub returns : goal.returns
returns c = fed-behind
