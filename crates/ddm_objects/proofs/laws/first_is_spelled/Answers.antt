use Rattle.ddm_objects.proofs.Reading.Spelled.{first_takes}
use Rattle.ddm_objects.proofs.laws.first_is_spelled.Goals as goal

pub returns : goal.returns
returns c = λ bytes found all e. first_takes bytes found all e
