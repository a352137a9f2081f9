use Rattle.std.specs.List.{flat_map}
use Rattle.ddm_objects.specs.Objects.{canonical_object}
use Rattle.ddm_objects.proofs.Reading.Spelled.{members_again, canonical_members}
use Rattle.ddm_objects.proofs.laws.canonical_are_members.Goals as goal

pub returns : goal.returns
returns c = λ objects each.
    members_again 0 objects (flat_map (λ object. canonical_object object.code object.bytes) objects) (canonical_members objects each)
