use Rattle.dss_frame.proofs.Streams.GoesOn.{goes_on, goes_on_before}
use Rattle.dss_frame.proofs.stream_laws.what_is_not_bad_goes_on.Goals as goal

pub returns-clause-all : goal.returns-clause-all
returns-clause-all c = goes_on

pub returns-clause-before : goal.returns-clause-before
returns-clause-before c = goes_on_before
