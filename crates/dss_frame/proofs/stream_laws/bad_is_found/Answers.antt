use Rattle.dss_frame.proofs.Streams.FaultIsTold.{bad_told}
use Rattle.dss_frame.proofs.stream_laws.bad_is_found.Goals as goal

pub returns : goal.returns
returns c = bad_told
