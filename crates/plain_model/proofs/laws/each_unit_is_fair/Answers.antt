use Rattle.plain_model.proofs.Fair.{each_unit_is_fair}
use Rattle.plain_model.proofs.laws.each_unit_is_fair.Goals as goal

pub returns : goal.returns
returns g c name = each_unit_is_fair g.met.G.Group.laws name
