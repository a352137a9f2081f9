use Rattle.dss_frame.proofs.Spellings.OneSpelling.{one_spelling}
use Rattle.dss_frame.proofs.spelling_laws.no_spelling_begins_another.Goals as goal

pub returns : goal.returns
returns c = λ side d e a b x y s t same. one_spelling side d e a b x y s t same
