-- How many bytes a reader holds, told by the places of its view. No standard speaks of it: this is this project's own.
use Rattle.std.specs.Prelude.{◌≡◌, ℕ, ◌-◌, List, [], ◌∷◌, map, length, Option, Some, None}
use Rattle.dss_frame.specs.declared.dss.Side.{Side}
use Rattle.dss_frame.specs.declared.dss.Placed.{Placed}
use Rattle.dss_frame.specs.declared.fault.StreamFault.{StreamFault}
use Rattle.dss_frame.specs.Fault.{place_of, shown_by}
use Rattle.dss_frame.specs.Reading.{View, further_on}
use Rattle.dss_frame.specs.Spelling.{Spelled, Begins}

-- the place of the first of these DSSs, or with none of them this one
abbrev pub first_place : List Placed → ℕ → ℕ
first_place [] next = next
first_place (placed ∷ others) next = placed.at

-- How many bytes were read from a place on, where a DSS begins that isn't whole: those of it so far, or where a fault
-- ended the reading, those up to the byte that shows it.
abbrev pub read_behind : ℕ → List ℕ → Option StreamFault → ℕ
read_behind begins bytes None = length bytes
read_behind begins bytes (Some fault) = further_on (place_of fault - begins) (shown_by fault)

-- the bytes of the whole DSSs that were not taken, as they are spelled, and those read behind the last whole one
abbrev pub held_of : View → ℕ
held_of v =
    further_on (v.position.at - first_place v.whole v.position.at) (read_behind v.position.at v.open v.fault)

-- The bytes are spellings of the DSSs that were taken, and then what the reader holds, all of it.
pub record HoldsRest (side : Side) (taken : List Placed) (v : View) (bytes : List ℕ) : Type 0 where
  pub spelled : List Spelled
  pub rest : List ℕ
  pub begins : Begins side spelled rest bytes
  pub are : map (λ s. s.dss) spelled ≡ map (λ p. p.dss) taken
  pub held : held_of v ≡ length rest
