use Rattle.ddm_codepoints.proofs.WholeTables.{unknown_is_nameless}
use Rattle.ddm_codepoints.proofs.laws.unknown_has_no_name.Goals as goal

pub returns : goal.returns
returns c = unknown_is_nameless
