use Rattle.plain_model.proofs.Going.{each_repeat_succeeds}
use Rattle.plain_model.proofs.laws.each_repeat_succeeds.Goals as goal

pub returns : goal.returns
returns g c name = each_repeat_succeeds g.met.G.Group.laws name
