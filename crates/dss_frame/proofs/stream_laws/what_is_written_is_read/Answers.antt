use Rattle.dss_frame.proofs.Streams.Written.{written_read}
use Rattle.dss_frame.proofs.stream_laws.what_is_written_is_read.Goals as goal

pub returns : goal.returns
returns c = written_read
