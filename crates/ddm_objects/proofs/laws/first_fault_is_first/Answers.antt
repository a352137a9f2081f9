use Rattle.ddm_objects.proofs.Reading.Faults.{first_front_fault}
use Rattle.ddm_objects.proofs.laws.first_fault_is_first.Goals as goal

pub returns : goal.returns
returns c = λ bytes fault e. first_front_fault bytes fault e
