-- What the reader's scan over all bytes of the DSSs that have begun comes to, and what a writer leaves behind when it
-- stops. No standard speaks of a scan: it is this project's own.
use Rattle.std.specs.Prelude.{ℕ, ◌≡◌, ◌≤◌, List, length, take, drop, None}
use Rattle.dss_frame.specs.declared.dss.Side.{Side}
use Rattle.dss_frame.specs.declared.dss.Placed.{Placed}
use Rattle.dss_frame.specs.declared.step.Position.{Position}
use Rattle.dss_frame.specs.declared.scan.Scan.{Scan}
use Rattle.dss_frame.specs.Reading.{View, read_all}

-- a reader that has read these DSSs up to a position, where these bytes follow
abbrev pub at_position : Side → ℕ → Position → List Placed → List ℕ → View
at_position side limit position whole bytes =
    record { side = side; limit = limit; whole = whole; position = position; «open» = bytes; fault = None }

abbrev pub left_by : Side → ℕ → List Placed → List ℕ → Scan → View
left_by side limit whole bytes s =
    record { side = side; limit = limit; whole = whole; position = s.position; «open» = drop s.begins bytes; fault = s.fault }

-- the same, where these are the bytes that it left
abbrev pub kept_by : Side → ℕ → List Placed → List ℕ → Scan → View
kept_by side limit whole kept s =
    record { side = side; limit = limit; whole = whole; position = s.position; «open» = kept; fault = s.fault }

pub record Scanned (side : Side) (limit : ℕ) (position : Position) (bytes : List ℕ) (old new : List Placed) (s : Scan) : Type 0 where
  pub within : s.begins ≤ length bytes
  pub reads : left_by side limit new bytes s ≡ read_all (at_position side limit position old bytes)

-- the new list is the old one, and maybe more behind it
abbrev pub Extends : {X : Type 0} → List X → List X → Type 0
Extends old new = take (length old) new ≡ old
