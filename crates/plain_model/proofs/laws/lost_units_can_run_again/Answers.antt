use Rattle.plain_model.proofs.Staying.{can_run_again}
use Rattle.plain_model.proofs.laws.lost_units_can_run_again.Goals as goal

pub returns : goal.returns
returns c = can_run_again
