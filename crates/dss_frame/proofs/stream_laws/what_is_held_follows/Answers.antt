use Rattle.dss_frame.proofs.Streams.Held.{holds_rest}
use Rattle.dss_frame.proofs.stream_laws.what_is_held_follows.Goals as goal

pub returns : goal.returns
returns c = holds_rest
