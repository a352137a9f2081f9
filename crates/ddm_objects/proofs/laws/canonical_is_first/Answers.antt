use Rattle.ddm_objects.proofs.Reading.Spelled.{canonical_first}
use Rattle.ddm_objects.proofs.laws.canonical_is_first.Goals as goal

pub returns : goal.returns
returns c = λ object rest has. canonical_first object rest has
