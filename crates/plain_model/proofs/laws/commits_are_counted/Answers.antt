use Rattle.plain_model.proofs.Staying.{all_are_counted}
use Rattle.plain_model.proofs.laws.commits_are_counted.Goals as goal

pub returns : goal.returns
returns g c name = all_are_counted name g.G.Group.meaning
