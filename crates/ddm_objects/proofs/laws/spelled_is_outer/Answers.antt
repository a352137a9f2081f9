use Rattle.ddm_objects.proofs.Reading.Spelled.{outer_again}
use Rattle.ddm_objects.proofs.laws.spelled_is_outer.Goals as goal

pub returns : goal.returns
returns c = λ bytes object is. outer_again bytes object is
