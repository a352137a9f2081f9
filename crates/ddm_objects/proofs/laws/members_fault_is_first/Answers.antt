use Rattle.ddm_objects.proofs.Reading.Faults.{members_first_fault}
use Rattle.ddm_objects.proofs.laws.members_fault_is_first.Goals as goal

pub returns : goal.returns
returns c = λ bytes fault all e. members_first_fault bytes fault all e
