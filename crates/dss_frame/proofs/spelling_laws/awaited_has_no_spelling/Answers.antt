use Rattle.dss_frame.proofs.Spellings.OneSpelling.{awaited_none}
use Rattle.dss_frame.proofs.spelling_laws.awaited_has_no_spelling.Goals as goal

pub returns : goal.returns
returns c = λ side bytes d n e s. awaited_none side bytes d n e s
