use Rattle.fdoca_pass.proofs.Reading.{joined_all}
use Rattle.fdoca_pass.proofs.laws.joined_are_the_bytes.Goals as goal

pub returns : goal.returns
returns c = λ bytes. joined_all bytes
