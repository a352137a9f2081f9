use Rattle.dss_frame.proofs.Spellings.OneSpelling.{read_within, read_spelled}
use Rattle.dss_frame.proofs.spelling_laws.read_is_a_spelling.Goals as goal

pub returns : goal.returns
returns c = λ side bytes count fits e. (read_within side bytes count fits e, read_spelled side bytes count fits e)
