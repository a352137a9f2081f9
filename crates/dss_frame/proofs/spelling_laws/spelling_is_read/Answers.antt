use Rattle.dss_frame.proofs.Spellings.OneSpelling.{spelled_read, spelled_dss}
use Rattle.dss_frame.proofs.spelling_laws.spelling_is_read.Goals as goal

pub returns : goal.returns
returns c = λ side d bytes more s. (spelled_read side d bytes more s, spelled_dss side d bytes s)
