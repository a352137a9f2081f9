use Rattle.dss_frame.proofs.Pieces.Pieces.{fed-append}
use Rattle.dss_frame.proofs.laws.pieces_read_as_one.Goals as goal

pub returns : goal.returns
returns c = fed-append
