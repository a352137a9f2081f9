use Rattle.ddm_objects.proofs.Reading.Spelled.{canonical_outer}
use Rattle.ddm_objects.proofs.laws.canonical_is_outer.Goals as goal

pub returns : goal.returns
returns c = λ object has. canonical_outer object has
