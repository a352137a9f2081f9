use Rattle.dss_frame.proofs.Streams.Told.{whole_read, stream_read}
use Rattle.dss_frame.proofs.stream_laws.stream_is_read.Goals as goal

pub returns-clause-within : goal.returns-clause-within
returns-clause-within c = stream_read

pub returns-clause-whole : goal.returns-clause-whole
returns-clause-whole c = whole_read
