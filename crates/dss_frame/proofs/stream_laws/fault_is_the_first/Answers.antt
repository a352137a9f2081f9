use Rattle.dss_frame.proofs.Streams.Told.{frame_told}
use Rattle.dss_frame.proofs.stream_laws.fault_is_the_first.Goals as goal

pub returns : goal.returns
returns c = λ side limit bytes at corr why fits e. let f = frame_told side limit bytes at corr why fits e in (f.0, f.1, f.2)
