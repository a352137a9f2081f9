use Rattle.dss_frame.proofs.Streams.Told.{beyond_told}
use Rattle.dss_frame.proofs.stream_laws.beyond_is_told.Goals as goal

pub returns : goal.returns
returns c = λ side limit bytes at corr fits e. let f = beyond_told side limit bytes at corr fits e in (f.0, f.1, f.2)
