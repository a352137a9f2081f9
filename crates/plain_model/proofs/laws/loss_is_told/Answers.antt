use Rattle.plain_model.proofs.Staying.{loss_is_told}
use Rattle.plain_model.proofs.laws.loss_is_told.Goals as goal

pub returns : goal.returns
returns g c q what t = loss_is_told q what t
