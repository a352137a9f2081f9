use Rattle.dss_frame.proofs.Streams.Told.{frame_told, beyond_told}
use Rattle.dss_frame.proofs.stream_laws.fault_has_its_number.Goals as goal

pub returns-clause-frame : goal.returns-clause-frame
returns-clause-frame c = frame_told

pub returns-clause-too_long : goal.returns-clause-too_long
returns-clause-too_long c = beyond_told
