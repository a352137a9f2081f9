use Rattle.std.proofs.Common.{length, arith}
use Rattle.ddm_objects.proofs.Reading.Spelled.{members_take}
use Rattle.ddm_objects.proofs.laws.members_are_spelled.Goals as goal

pub returns : goal.returns
returns c = λ bytes all none. members_take (length bytes) 0 bytes (omega arith) all none
