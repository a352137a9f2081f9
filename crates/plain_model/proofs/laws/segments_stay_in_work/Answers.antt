use Rattle.plain_model.proofs.Staying.{stays_in_work}
use Rattle.plain_model.proofs.laws.segments_stay_in_work.Goals as goal

pub returns : goal.returns
returns g c name = stays_in_work name g.G.Group.meaning
