use Rattle.unit_segments.proofs.ReadAgain.{access_read_again}
use Rattle.unit_segments.proofs.laws.access_chain_is_read.Goals as goal

pub returns : goal.returns
returns c = access_read_again
