-- What a builder has in its fields is the objects that it is writing. No standard speaks of it: this is this project's own.
use Rattle.std.specs.Prelude.{◌≡◌, ℕ, ◌+◌, List, [], ◌∷◌, take, drop, length, reverse}
use Rattle.ddm_objects.specs.Objects.{Member}
use Rattle.ddm_objects.specs.Builder.{Building, building_size}
use Rattle.ddm_objects.specs.declared.builder.BegunObject.{BegunObject}

-- The bytes are what is written, and behind it, from the place where each begun object begins, four bytes for its header
-- and its data. The objects are given with the innermost first.
abbrev pub written_in : List BegunObject → List ℕ → List ℕ
written_in [] bytes = bytes
written_in (object ∷ outer) bytes = written_in outer (take object.at bytes)

abbrev pub begun_in : List BegunObject → List ℕ → List Member
begun_in [] bytes = []
begun_in (object ∷ outer) bytes =
    record { code = object.code; bytes = drop (object.at + 4) bytes } ∷ begun_in outer (take object.at bytes)

abbrev pub building_in : List BegunObject → List ℕ → Building
building_in objects bytes = record { written = written_in objects bytes; begun = begun_in objects bytes }

-- each object has its four bytes, and its data end where the next one begins: so no byte is counted twice, or left out
abbrev pub IsWhole : List BegunObject → List ℕ → Type 0
IsWhole objects bytes = building_size (building_in objects bytes) ≡ length bytes

-- a builder has the innermost object last
abbrev pub building_of : List BegunObject → List ℕ → Building
building_of begun bytes = building_in (reverse begun) bytes
