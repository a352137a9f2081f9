use Rattle.ddm_objects.proofs.Reading.Within.{found_within}
use Rattle.ddm_objects.proofs.laws.found_is_within.Goals as goal

pub returns : goal.returns
returns c = λ bytes code object e. found_within bytes code object e
