use Rattle.unit_segments.proofs.ReadAgain.{log_read_again}
use Rattle.unit_segments.proofs.laws.register_chain_is_read.Goals as goal

pub returns : goal.returns
returns c = log_read_again
