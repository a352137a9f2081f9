-- How far the segments of a DSS are walked that isn't whole yet. No standard speaks of it: this is this project's own.
use Rattle.std.specs.Prelude.{ℕ, zero, suc, ◌≡◌, ◌+◌, ◌≤◌, List, length, drop, nat_lt, if◌then◌else◌}
use Rattle.dss_frame.specs.declared.segments.Extent.{Extent}
use Rattle.dss_frame.specs.declared.segments.Extent.TheVariants.{Awaits, Ends, Fails}
use Rattle.dss_frame.specs.declared.step.Step.{Step}
use Rattle.dss_frame.specs.declared.step.Step.TheVariants.{Waits, Reads, Stops}
use Rattle.dss_frame.specs.Segments.{segment_size, continues, segments_extent}

-- The offset of the first segment that isn't whole, or has a wrong length, or is the last one, of at most count segments
-- from an offset on.
unfoldable pub walked_from : ℕ → ℕ → List ℕ → ℕ
walked_from zero offset bytes = offset
walked_from (suc count) offset bytes =
    if nat_lt (length bytes) 2 then offset
    else (if nat_lt (segment_size bytes) 3 then offset
    else (if nat_lt (length bytes) (segment_size bytes) then offset
    else (if continues bytes then walked_from count (offset + segment_size bytes) (drop (segment_size bytes) bytes)
    else offset)))

-- how far the segments are walked that the bytes begin with
abbrev pub walked_to : List ℕ → ℕ
walked_to bytes = walked_from (length bytes) 0 bytes

-- the walk from an offset on, where these bytes follow, comes to this extent and this offset
pub record ComesTo (offset : ℕ) (rest : List ℕ) (extent : Extent) (walked : ℕ) : Type 0 where
  pub count : ℕ
  pub enough : length rest ≤ count
  pub same : segments_extent count offset rest ≡ extent
  pub there : walked_from count offset rest ≡ walked

-- the walk over the bytes goes through this offset: from it on it comes to the same as from the first byte on
pub record IsWalked (offset : ℕ) (bytes : List ℕ) : Type 0 where
  pub within : offset ≤ length bytes
  pub comes_to : ComesTo offset (drop offset bytes) (segments_extent (length bytes) 0 bytes) (walked_to bytes)

-- a DSS that ends has its last segment, of three bytes at least, behind what was walked
abbrev pub EndsBehind : ℕ → Extent → Type 0
EndsBehind walked Awaits = Unit {0}
EndsBehind walked (Ends count) = walked + 3 ≤ count
EndsBehind walked (Fails offset why) = Unit {0}

abbrev pub ReadsBehind : ℕ → Step → Type 0
ReadsBehind walked Waits = Unit {0}
ReadsBehind walked (Reads count) = walked + 3 ≤ count
ReadsBehind walked (Stops fault) = Unit {0}
