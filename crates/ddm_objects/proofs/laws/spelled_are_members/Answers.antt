use Rattle.ddm_objects.proofs.Reading.Spelled.{members_again}
use Rattle.ddm_objects.proofs.laws.spelled_are_members.Goals as goal

pub returns : goal.returns
returns c = λ objects bytes are. members_again 0 objects bytes are
