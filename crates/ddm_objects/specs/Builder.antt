-- Objects that are being written, one within another. No standard speaks of a builder: it is this project's own; what it
-- writes are objects of DRDA, volume 3 (Objects.antt).
use Rattle.std.specs.Prelude.{ℕ, ◌+◌, ◌<◌, ◌≤◌, List, [], ◌∷◌, ◌++◌, length, sum_by}
use Rattle.ddm_objects.specs.Objects.{Member, greatest_extended, greatest_short, canonical_object}

-- what is written whole, and the objects that are begun, each with its data so far, the innermost first
pub record Building : Type 0 where
  pub written : List ℕ
  pub begun : List Member

abbrev pub nothing_built : Building
nothing_built = record { written = []; begun = [] }

-- how many bytes can be built, and how many objects may be begun at a time
abbrev pub greatest_built : ℕ
greatest_built = greatest_extended

abbrev pub greatest_depth : ℕ
greatest_depth = 8

-- how many bytes there are, with a header of four for each object that is begun
abbrev pub begun_size : Member → ℕ
begun_size object = length object.bytes + 4

abbrev pub building_size : Building → ℕ
building_size building = length building.written + sum_by begun_size building.begun

-- so many bytes more can be built
abbrev pub HasRoomFor : ℕ → Building → Type 0
HasRoomFor count building = building_size building + count ≤ greatest_built

-- the data of the innermost object are too many for a short length
abbrev pub IsLong : List Member → Type 0
IsLong [] = ⊥
IsLong (object ∷ outer) = greatest_short < length object.bytes

-- the innermost object can be ended: an extended length takes four bytes more
abbrev pub HasRoomToEnd : Building → Type 0
HasRoomToEnd building = IsLong building.begun → HasRoomFor 4 building

-- an object is begun within the innermost one
abbrev pub after_begin : Building → ℕ → Building
after_begin building code =
    record { written = building.written; begun = record { code = code; bytes = [] } ∷ building.begun }

-- the data of the innermost object have these bytes at their end
abbrev pub with_bytes : List Member → List ℕ → List Member
with_bytes [] bytes = []
with_bytes (object ∷ outer) bytes = record { code = object.code; bytes = object.bytes ++ bytes } ∷ outer

abbrev pub after_put : Building → List ℕ → Building
after_put building bytes = record { written = building.written; begun = with_bytes building.begun bytes }

-- the bytes of an object that is whole, at the end of the data around it, or of what is written
abbrev pub put_around : List ℕ → List Member → List ℕ → Building
put_around written [] bytes = record { written = written ++ bytes; begun = [] }
put_around written (object ∷ outer) bytes = record { written = written; begun = with_bytes (object ∷ outer) bytes }

-- the innermost object is whole: its canonical bytes go where it was begun
abbrev pub ended : List ℕ → List Member → Building
ended written [] = record { written = written; begun = [] }
ended written (object ∷ outer) = put_around written outer (canonical_object object.code object.bytes)

abbrev pub after_end : Building → Building
after_end building = ended building.written building.begun
