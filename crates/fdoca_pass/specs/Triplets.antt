-- FD:OCA triplets as bytes. DRDA, volume 2 (FD:OCA), triplets: a byte of length, which counts itself, a byte of type, and the
-- rest.
use Rattle.std.specs.Prelude.{◌≡◌, ℕ, zero, suc, ◌+◌, ◌-◌, ◌<◌, ◌≤◌, List, [], ◌∷◌, length, take, drop, slice_index_or, nat_lt, if◌then◌else◌}
use Rattle.std.specs.Prelude.{Option, None, Some, Result, Ok, Err}
use Rattle.std.specs.List.{flat_map, AllByRecursion}
use Rattle.fdoca_pass.specs.declared.fault.TripletFault.{TripletFault}
use Rattle.fdoca_pass.specs.declared.fault.TripletWhy.{TripletWhy}
use Rattle.fdoca_pass.specs.declared.fault.TripletWhy.TheVariants.{Short, Past}

-- a triplet without where it lies in memory: its type, and its data
pub record Described : Type 0 where
  pub kind : ℕ
  pub bytes : List ℕ

-- ---- how triplets are spelled

-- the bytes of a triplet: FD:OCA, triplets
abbrev pub spelling : Described → List ℕ
spelling triplet = (2 + length triplet.bytes) ∷ triplet.kind ∷ triplet.bytes

-- what has a spelling: a type of one byte, and no more data than a length of one byte counts. FD:OCA, triplets
pub record HasSpelling (triplet : Described) : Type 0 where
  pub kind : triplet.kind < 256
  pub size : 2 + length triplet.bytes < 256

-- the bytes are these triplets one after another: FD:OCA, triplets
pub record AreTriplets (triplets : List Described) (bytes : List ℕ) : Type 0 where
  pub each : AllByRecursion HasSpelling triplets
  pub all : bytes ≡ flat_map spelling triplets

-- ---- how they are read

-- a triplet, and the bytes after it
pub record Found : Type 0 where
  pub triplet : Described
  pub rest : List ℕ

abbrev pub fault_at : ℕ → TripletWhy → TripletFault
fault_at place why = record { at = place; why = why }

-- the length of the triplet that the bytes begin with: FD:OCA, triplets
abbrev pub length_in : List ℕ → ℕ
length_in bytes = slice_index_or bytes 0 0

-- The triplet that the bytes begin with, which lie at this place, or what is wrong with its length. FD:OCA, triplets; that
-- the lower bound is judged first is this project's choice.
unfoldable pub triplet_at : ℕ → List ℕ → Result Found TripletFault
triplet_at place bytes =
    if nat_lt (length_in bytes) 2 then Err (fault_at place Short)
    else (if nat_lt (length bytes) (length_in bytes) then Err (fault_at place Past)
    else Ok (record {
      triplet = record { kind = slice_index_or bytes 1 0; bytes = drop 2 (take (length_in bytes) bytes) };
      rest = drop (length_in bytes) bytes;
    }))

-- the triplets in order, up to the first fault if there is one: FD:OCA, triplets
pub record Triplets : Type 0 where
  pub triplets : List Described
  pub fault : Option TripletFault

abbrev pub no_triplets : Triplets
no_triplets = record { triplets = []; fault = None }

-- the triplet that was read, and those that the bytes after it are
abbrev pub with_first : Result Found TripletFault → (Found → Triplets) → Triplets
with_first (Ok found) others = record { triplets = found.triplet ∷ (others found).triplets; fault = (others found).fault }
with_first (Err fault) others = record { triplets = []; fault = Some fault }

-- the offset of what comes after the triplet, where the bytes that begin with it are at this place
abbrev pub past : ℕ → List ℕ → Found → ℕ
past place bytes found = place + (length bytes - length found.rest)

-- the triplets from this offset on, at most as many as count: FD:OCA, triplets
unfoldable pub triplets_within : ℕ → ℕ → List ℕ → Triplets
triplets_within zero place bytes = no_triplets
triplets_within (suc count) place [] = no_triplets
triplets_within (suc count) place (byte ∷ bytes) =
    with_first (triplet_at place (byte ∷ bytes)) (λ found. triplets_within count (past place (byte ∷ bytes) found) found.rest)

-- the triplets from this offset on: there are no more of them than bytes
abbrev pub triplets_from : ℕ → List ℕ → Triplets
triplets_from place bytes = triplets_within (length bytes) place bytes

abbrev pub triplets_of : List ℕ → Triplets
triplets_of bytes = triplets_from 0 bytes

-- ---- how far

abbrev pub place_or : ℕ → Option TripletFault → ℕ
place_or end None = end
place_or end (Some fault) = fault.at

-- where reading ends: at the fault, or behind all bytes
abbrev pub read_to : List ℕ → ℕ
read_to bytes = place_or (length bytes) (triplets_of bytes).fault

-- the bytes begin with a length that is wrong so: FD:OCA, triplets
abbrev pub IsWrong : TripletWhy → List ℕ → Type 0
IsWrong Short bytes = length_in bytes < 2
IsWrong Past bytes = (2 ≤ length_in bytes) × (length bytes < length_in bytes)

-- The fault is the first: before its place stand these triplets one after another, and at its place begins none.
pub record IsFirstFault (fault : TripletFault) (triplets : List Described) (bytes : List ℕ) : Type 0 where
  pub before : AreTriplets triplets (take fault.at bytes)
  pub within : fault.at < length bytes
  pub wrong : IsWrong fault.why (drop fault.at bytes)

-- ---- a walk

-- Where a walk over triplets stands: the offset of the next one, and the bytes that are left from there on. A walk is this
-- project's own.
pub record Scan : Type 0 where
  pub at : ℕ
  pub left : List ℕ

abbrev pub triplet_in : Result Found TripletFault → Result Described TripletFault
triplet_in (Ok found) = Ok found.triplet
triplet_in (Err fault) = Err fault

abbrev pub next_at : ℕ → List ℕ → Option (Result Described TripletFault)
next_at place [] = None
next_at place (byte ∷ bytes) = Some (triplet_in (triplet_at place (byte ∷ bytes)))

-- the next triplet, or the fault in its place; none at the end
abbrev pub next_of : Scan → Option (Result Described TripletFault)
next_of scan = next_at scan.at scan.left

abbrev pub past_triplet : ℕ → List ℕ → Result Found TripletFault → Scan
past_triplet place bytes (Ok found) = record { at = past place bytes found; left = found.rest }
past_triplet place bytes (Err fault) = record { at = place; left = [] }

abbrev pub after_at : ℕ → List ℕ → Scan
after_at place [] = record { at = place; left = [] }
after_at place (byte ∷ bytes) = past_triplet place (byte ∷ bytes) (triplet_at place (byte ∷ bytes))

-- the walk after the next triplet; after a fault nothing is left
abbrev pub after_next : Scan → Scan
after_next scan = after_at scan.at scan.left
