use Rattle.ddm_objects.proofs.Reading.Spelled.{outer_takes}
use Rattle.ddm_objects.proofs.laws.outer_is_spelled.Goals as goal

pub returns : goal.returns
returns c = λ bytes object all e. outer_takes bytes object all e
