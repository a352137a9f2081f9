use Rattle.dss_frame.proofs.Streams.FaultIsTold.{beyond_found}
use Rattle.dss_frame.proofs.stream_laws.beyond_is_found.Goals as goal

pub returns : goal.returns
returns c = beyond_found
