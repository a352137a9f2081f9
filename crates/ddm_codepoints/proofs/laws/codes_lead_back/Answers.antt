use Rattle.ddm_codepoints.proofs.WholeTables.{leads_both_ways}
use Rattle.ddm_codepoints.proofs.laws.codes_lead_back.Goals as goal

pub returns : goal.returns
returns c = leads_both_ways
