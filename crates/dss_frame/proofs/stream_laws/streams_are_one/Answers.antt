use Rattle.dss_frame.proofs.Streams.Streams.{one_stream}
use Rattle.dss_frame.proofs.stream_laws.streams_are_one.Goals as goal

pub returns : goal.returns
returns c = one_stream
