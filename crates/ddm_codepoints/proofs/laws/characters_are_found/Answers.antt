use Rattle.ddm_codepoints.proofs.WholeTables.{characters_ebcdic, characters_ascii}
use Rattle.ddm_codepoints.proofs.laws.characters_are_found.Goals as goal

pub returns : goal.returns
returns c = record { ebcdic = characters_ebcdic; ascii = characters_ascii }
