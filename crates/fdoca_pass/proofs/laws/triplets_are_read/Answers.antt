use Rattle.fdoca_pass.proofs.Reading.{spelled_are_read}
use Rattle.fdoca_pass.proofs.laws.triplets_are_read.Goals as goal

pub returns : goal.returns
returns c = λ triplets bytes are. spelled_are_read triplets bytes are
