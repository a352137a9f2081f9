use Rattle.dss_frame.proofs.Streams.Places.{stands_at}
use Rattle.dss_frame.proofs.stream_laws.each_stands_at_its_place.Goals as goal

pub returns : goal.returns
returns c = stands_at
