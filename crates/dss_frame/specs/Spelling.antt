-- What bytes spell a DSS, a stream of DSSs, or none: DRDA, volume 3, DSS. A DSS has many spellings, since its body may be
-- cut into segments anywhere.
use Rattle.std.specs.Prelude.{◌≡◌, ℕ, ◌+◌, ◌-◌, ◌<◌, ◌≤◌, ◌^◌, IsTrue, true, List, [], ◌∷◌, ◌++◌, map, length, take, slice_index, nat_lt, if◌then◌else◌}
use Rattle.std.specs.List.{flat_map, AllByRecursion}
use Rattle.dss_frame.specs.declared.dss.Kind.{Kind}
use Rattle.dss_frame.specs.declared.dss.Kind.TheVariants.{Request, Reply}
use Rattle.dss_frame.specs.declared.dss.Side.{Side}
use Rattle.dss_frame.specs.declared.dss.Side.TheVariants.{Requests, Replies}
use Rattle.dss_frame.specs.declared.dss.Dss.{Dss}
use Rattle.dss_frame.specs.declared.fault.Why.{Why}
use Rattle.dss_frame.specs.declared.fault.Why.TheVariants.{Short, NoD0, Format, Continue}
use Rattle.dss_frame.specs.Dss.{segment_length, header, format_byte, magic, first_room, further_room}
use Rattle.dss_frame.specs.Segments.{segment_size}

-- DSS: a requester sends requests and objects, a server replies and objects.
abbrev pub IsKindOf : Side → Kind → Type 0
IsKindOf Requests Reply = ⊥
IsKindOf Replies Request = ⊥
IsKindOf _ _ = Unit {0}

-- What has a spelling: a kind of that side, a number of two bytes, and the next DSS has the same number only where there
-- is a next one. DSS.
pub record IsDssOf (side : Side) (d : Dss) : Type 0 where
  pub kind : IsKindOf side d.kind
  pub corr : d.corr < 2 ^ 16
  pub same : IsTrue d.same → IsTrue d.chained

-- DSS: further segments that hold these parts of the body, all but the last with the top bit of the
-- length set
abbrev pub further_spelling : List (List ℕ) → List ℕ
further_spelling [] = []
further_spelling (part ∷ parts) = segment_length (2 + length part) (nat_lt 0 (length parts)) ++ (part ++ further_spelling parts)

-- What a further segment holds: DSS. That it isn't empty is this project's choice.
pub record IsPart (part : List ℕ) : Type 0 where
  pub some : 0 < length part
  pub fits : length part ≤ further_room

-- The bytes are a spelling of the DSS: its body is cut into a first part, behind the header, and further parts, each in a
-- segment of its own. Without further parts this is the spelling in one segment. DSS.
pub record Spells (side : Side) (d : Dss) (bytes : List ℕ) : Type 0 where
  pub first : List ℕ
  pub parts : List (List ℕ)
  pub body : d.body ≡ first ++ flat_map (λ part. part) parts
  pub first_fits : length first ≤ first_room
  pub parts_fit : AllByRecursion IsPart parts
  pub is_dss : IsDssOf side d
  pub spelled : bytes ≡ header d (6 + length first) (nat_lt 0 (length parts)) ++ (first ++ further_spelling parts)

-- a DSS with one of its spellings
pub record Spelled : Type 0 where
  pub dss : Dss
  pub bytes : List ℕ

abbrev pub IsSpelled : Side → Spelled → Type 0
IsSpelled side s = Spells side s.dss s.bytes

-- The bytes are spellings of DSSs one after another, as they are sent, and then a rest. DSS.
pub record Begins (side : Side) (spelled : List Spelled) (rest bytes : List ℕ) : Type 0 where
  pub each : AllByRecursion (IsSpelled side) spelled
  pub all : bytes ≡ flat_map (λ s. s.bytes) spelled ++ rest

-- The bytes are spellings of these DSSs, and then a rest that doesn't begin with a spelling. DSS.
pub record IsStream (side : Side) (dsss : List Dss) (rest bytes : List ℕ) : Type 0 where
  pub spelled : List Spelled
  pub are : map (λ s. s.dss) spelled ≡ dsss
  pub begins : Begins side spelled rest bytes
  pub no_more : (d : Dss) (count : ℕ) → Spells side d (take count rest) → ⊥

-- DSS: segments that aren't the last hold these parts
abbrev pub open_spelling : List (List ℕ) → List ℕ
open_spelling [] = []
open_spelling (part ∷ parts) = segment_length (2 + length part) true ++ (part ++ open_spelling parts)

-- A DSS whose body begins with these parts, each in a segment of its own, has such segments. DSS.
pub record IsOpen (side : Side) (dss : Dss) (first : List ℕ) (parts : List (List ℕ)) : Type 0 where
  pub first_fits : length first ≤ first_room
  pub parts_fit : AllByRecursion IsPart parts
  pub is_dss : IsDssOf side dss

-- its header, the first part, the others, and then the rest
abbrev pub opened : Dss → List ℕ → List (List ℕ) → List ℕ → List ℕ
opened dss first parts rest = header dss (6 + length first) true ++ (first ++ (open_spelling parts ++ rest))

-- The bytes begin with a length that is below 3. DSS: a length counts its own two bytes; that a byte of body follows is
-- this project's choice.
pub record IsLow (bytes : List ℕ) : Type 0 where
  pub came : 2 ≤ length bytes
  pub short : segment_size bytes < 3

-- After these segments of a DSS, none of which is the last, such a length stands.
pub record IsBadFurther (side : Side) (offset : ℕ) (bytes : List ℕ) : Type 0 where
  pub dss : Dss
  pub first : List ℕ
  pub parts : List (List ℕ)
  pub rest : List ℕ
  pub goes_on : IsOpen side dss first parts
  pub bytes_are : bytes ≡ opened dss first parts rest
  pub there : offset ≡ 6 + (length first + length (open_spelling parts))
  pub low : IsLow rest

-- The field at an offset of bytes that begin a DSS is the first that is none of a DSS: the length, D0, the format byte, or
-- a further length. DSS.
abbrev pub IsBadField : Side → List ℕ → ℕ → Why → Type 0
IsBadField side bytes offset Short = (offset ≡ 0) × (2 ≤ length bytes) × (segment_size bytes < 6)
IsBadField side bytes offset NoD0 = (offset ≡ 2) × (3 ≤ length bytes) × (6 ≤ segment_size bytes) × (slice_index bytes 2 ≡ magic → ⊥)
IsBadField side bytes offset Format =
    (offset ≡ 3) × (4 ≤ length bytes) × (6 ≤ segment_size bytes) × (slice_index bytes 2 ≡ magic)
    × ((d : Dss) → IsDssOf side d → slice_index bytes 3 ≡ format_byte d → ⊥)
IsBadField side bytes offset Continue = IsBadFurther side offset bytes

-- The field at a place is the first after which the bytes, however they go on, aren't whole spellings: it stands in what
-- follows the last whole one. The fields are those of DSS; that the first one decides is this project's
-- choice.
pub record IsBad (side : Side) (bytes : List ℕ) (place : ℕ) (why : Why) : Type 0 where
  pub spelled : List Spelled
  pub rest : List ℕ
  pub offset : ℕ
  pub begins : Begins side spelled rest bytes
  pub field : IsBadField side rest offset why
  pub there : place ≡ length (flat_map (λ s. s.bytes) spelled) + offset

-- How many bytes the chain has that goes on after these DSSs, and so many before them. DSS: a chain goes on
-- behind a chained DSS.
abbrev pub chain_after : ℕ → List Spelled → ℕ
chain_after bytes [] = bytes
chain_after bytes (s ∷ others) = chain_after (if s.dss.chained then bytes + length s.bytes else 0) others

-- The byte at a place is the first of its chain beyond the limit: no DSS ends before it behind those that are whole. DRDA
-- has no limit, so this is this project's choice.
pub record IsBeyond (side : Side) (limit : ℕ) (bytes : List ℕ) (place : ℕ) : Type 0 where
  pub spelled : List Spelled
  pub rest : List ℕ
  pub begins : Begins side spelled rest bytes
  pub within : chain_after 0 spelled ≤ limit
  pub came : limit < chain_after 0 spelled + length rest
  pub goes_on : (d : Dss) (count : ℕ) → count ≤ limit - chain_after 0 spelled → Spells side d (take count rest) → ⊥
  pub there : place ≡ length (flat_map (λ s. s.bytes) spelled) + (limit - chain_after 0 spelled)
