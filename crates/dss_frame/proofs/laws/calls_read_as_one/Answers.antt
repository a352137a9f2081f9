use Rattle.dss_frame.proofs.Pieces.Calls.{calls_read}
use Rattle.dss_frame.proofs.laws.calls_read_as_one.Goals as goal

pub returns : goal.returns
returns c = calls_read
