use Rattle.fdoca_pass.proofs.Reading.{all_triplets}
use Rattle.fdoca_pass.proofs.laws.read_are_triplets.Goals as goal

pub returns : goal.returns
returns c = λ bytes are none. all_triplets bytes are none
