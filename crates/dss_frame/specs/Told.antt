-- What a reader tells of bytes that it got, all of them. No standard speaks of a reader: this is this project's own.
use Rattle.std.specs.Prelude.{◌≡◌, ℕ, ◌+◌, ◌-◌, ◌^◌, ◌⊎◌, List, [], ◌∷◌, length, map, min, nat_lt, if◌then◌else◌, Some}
use Rattle.dss_frame.specs.declared.dss.Side.{Side}
use Rattle.std.specs.List.{flat_map}
use Rattle.dss_frame.specs.declared.dss.Dss.{Dss}
use Rattle.dss_frame.specs.declared.dss.Placed.{Placed}
use Rattle.dss_frame.specs.declared.fault.Why.{Why}
use Rattle.dss_frame.specs.declared.fault.StreamFault.TheVariants.{Frame, TooLong}
use Rattle.dss_frame.specs.Segments.{number_at}
use Rattle.dss_frame.specs.Reading.{View, start, fed}
use Rattle.dss_frame.specs.Spelling.{Spelled, Begins, IsBad, IsBeyond}

-- what a reader has that got these bytes
abbrev pub read : Side → ℕ → List ℕ → View
read side limit bytes = fed (start side limit) bytes

-- the DSSs that were read
abbrev pub dsss_of : View → List Dss
dsss_of v = map (λ placed. placed.dss) v.whole

-- how a place is told: those past the greatest one as that one
abbrev pub told : ℕ → ℕ
told place = min place (2 ^ 64 - 1)

-- the fault is told that the field at a place is none of a DSS
abbrev pub TellsFrame : View → ℕ → Why → Type 0
TellsFrame v place why = (corr : ℕ) × (v.fault ≡ Some (Frame (told place) why corr))

-- the fault is told that a chain passes the limit at a place
abbrev pub TellsTooLong : View → ℕ → Type 0
TellsTooLong v place = (corr : ℕ) × (v.fault ≡ Some (TooLong (told place) corr))

-- the fault at a place is told, and it is there
abbrev pub TellsFault : Side → ℕ → List ℕ → ℕ → Type 0
TellsFault side limit bytes place =
    ((why : Why) × IsBad side bytes place why × TellsFrame (read side limit bytes) place why)
    ⊎ (IsBeyond side limit bytes place × TellsTooLong (read side limit bytes) place)

-- the correlation number of the last of these DSSs, where it is chained to what follows, else 0; with none of them, the
-- one given
abbrev pub number_after : ℕ → List Spelled → ℕ
number_after before [] = before
number_after before (s ∷ others) = number_after (if s.dss.chained then s.dss.corr else 0) others

-- The correlation number of a fault that stands at an offset of the rest behind these DSSs: that of the DSS in which it
-- stands, in the fifth and the sixth byte of the rest, or where it stands in these or before them, that of the DSS before
-- it in its chain, or 0.
abbrev pub number_told : List Spelled → List ℕ → ℕ → ℕ
number_told spelled rest offset = if nat_lt offset 6 then number_after 0 spelled else number_at 4 rest

-- these are the DSSs of the spellings, the first of which stands at a place, each with the place of its first byte
abbrev pub AreAt : ℕ → List Spelled → List Placed → Type 0
AreAt place [] [] = Unit {0}
AreAt place (s ∷ spelled) (p ∷ placed) =
    (p.dss ≡ s.dss) × (p.at ≡ told place) × AreAt (place + length s.bytes) spelled placed
AreAt place _ _ = ⊥

-- The DSSs that a reader has read stand where the bytes spell them, and the place at which it goes on is behind them.
pub record StandsAt (side : Side) (bytes : List ℕ) (v : View) : Type 0 where
  pub spelled : List Spelled
  pub rest : List ℕ
  pub begins : Begins side spelled rest bytes
  pub each : AreAt 0 spelled v.whole
  pub next : v.position.at ≡ told (length (flat_map (λ s. s.bytes) spelled))
