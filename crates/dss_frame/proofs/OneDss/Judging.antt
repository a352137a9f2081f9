-- What is known of a DSS that is whole, and of one that fails.
use Rattle.std.proofs.Common.{◌≡◌, ℕ, ◌<◌, ◌≤◌, List, length, sym, ◌∙◌, arith}
use Rattle.dss_frame.specs.declared.dss.Side.{Side}
use Rattle.dss_frame.specs.declared.fault.Why.{Why}
use Rattle.dss_frame.specs.declared.segments.Extent.TheVariants.{Ends, Fails}
use Rattle.dss_frame.specs.Segments.{segment_size, field_offset, segments_extent, extent_of}
use Rattle.dss_frame.proofs.OneDss.FirstSegment.{IsWhole, segments_end, segments_fail}
use Rattle.dss_frame.proofs.OneDss.Header.{IsHeader, InHeader, InSegments, extent_case}

pub record IsWholeDss (side : Side) (bytes : List ℕ) (count : ℕ) : Type 0 where
  pub header : IsHeader side bytes
  pub first : IsWhole bytes
  pub walk : segments_extent (length bytes) 0 bytes ≡ Ends count
  pub size : 6 ≤ segment_size bytes
  pub least : 6 ≤ count
  pub within : count ≤ length bytes

pub whole_dss : (side : Side) (bytes : List ℕ) (count : ℕ) → extent_of side bytes ≡ Ends count → IsWholeDss side bytes count
whole_dss side bytes count e =
    elim (extent_case side bytes) [
      | InHeader why f within is ↦ absurd (cc)
      | InSegments h is ↦
          let walk = sym is ∙ e in
          let s = segments_end (length bytes) 0 bytes count walk in
          let six = h.least s.whole.long in
          record { header = h; first = s.whole; walk = walk; size = six; least = omega (arith, s.behind); within = omega (arith, s.within) }
    ]

pub fails_within : (side : Side) (bytes : List ℕ) (offset : ℕ) (why : Why) → extent_of side bytes ≡ Fails offset why → offset < length bytes
fails_within side bytes offset why e =
    elim (extent_case side bytes) [
      | InHeader was f within is ↦ let same : field_offset was ≡ offset = cc in omega arith
      | InSegments h is ↦ let s = segments_fail (length bytes) 0 bytes offset why (sym is ∙ e) in omega (arith, s.1)
    ]
