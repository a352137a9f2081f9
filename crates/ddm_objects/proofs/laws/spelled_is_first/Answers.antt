use Rattle.ddm_objects.proofs.Reading.Spelled.{first_again}
use Rattle.ddm_objects.proofs.laws.spelled_is_first.Goals as goal

pub returns : goal.returns
returns c = λ bytes found is. first_again found bytes is
