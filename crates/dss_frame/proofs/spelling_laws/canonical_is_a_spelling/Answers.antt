use Rattle.dss_frame.proofs.Spellings.OneSpelling.{canonical_spells}
use Rattle.dss_frame.proofs.spelling_laws.canonical_is_a_spelling.Goals as goal

pub returns : goal.returns
returns c = λ side d h. canonical_spells side d h
