use Rattle.fdoca_pass.proofs.Reading.{first_fault}
use Rattle.fdoca_pass.proofs.laws.first_fault_is_told.Goals as goal

pub returns : goal.returns
returns c = λ bytes fault are is. first_fault bytes fault are is
