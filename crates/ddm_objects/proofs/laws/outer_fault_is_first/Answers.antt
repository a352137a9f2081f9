use Rattle.ddm_objects.proofs.Reading.Faults.{outer_first_fault, outer_none}
use Rattle.ddm_objects.proofs.laws.outer_fault_is_first.Goals as goal

pub returns-clause-first : goal.returns-clause-first
returns-clause-first c = λ bytes fault all e. outer_first_fault bytes fault all e

pub returns-clause-none : goal.returns-clause-none
returns-clause-none c = λ bytes fault object e is. outer_none bytes fault object e is
