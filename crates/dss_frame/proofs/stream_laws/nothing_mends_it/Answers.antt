use Rattle.dss_frame.proofs.Streams.Streams.{none_mends}
use Rattle.dss_frame.proofs.stream_laws.nothing_mends_it.Goals as goal

pub returns : goal.returns
returns c = none_mends
