use Rattle.plain_model.proofs.Repeating.{no_repeat_needs_data}
use Rattle.plain_model.proofs.laws.repeats_need_no_data.Goals as goal

pub returns : goal.returns
returns g c name = no_repeat_needs_data g.met.G.Group.laws name
