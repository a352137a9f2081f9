-- A field that is none of a DSS is where the reading fails.
use Rattle.std.proofs.Common.{◌≡◌, ℕ, suc, ◌+◌, ◌-◌, ◌<◌, true, false, List, [], ◌++◌, length, get_or, drop, refl, ap, sym, subst, ◌∙◌, arith}
use Rattle.std.proofs.lemmas.Bool.{false≢true, false_from_ne_true}
use Rattle.std.proofs.lemmas.List.{length-append}
use Rattle.dss_frame.specs.declared.fault.Why.{Why}
use Rattle.dss_frame.specs.declared.fault.Why.TheVariants.{Short, NoD0, Format, Continue}
use Rattle.dss_frame.specs.declared.dss.Side.{Side}
use Rattle.dss_frame.specs.declared.dss.Dss.{Dss}
use Rattle.dss_frame.specs.declared.segments.Extent.TheVariants.{Fails}
use Rattle.dss_frame.specs.Dss.{format_byte}
use Rattle.dss_frame.specs.Segments.{segment_size, continues, has_bit, kind_of, is_format_of, field_offset, segments_extent, extent_of}
use Rattle.dss_frame.specs.Spelling.{IsDssOf, open_spelling, IsBadFurther, IsBadField}
use Rattle.link_ends.specs.Bytes.{AreBytes}
use Rattle.link_ends.proofs.Bytes.{byte_at, AreBytes-drop}
use Rattle.dss_frame.proofs.OneDss.Format.{accepted, format_accepted}
use Rattle.dss_frame.proofs.OneDss.Segments.{open_read, open_within}
use Rattle.dss_frame.proofs.OneDss.FirstSegment.{extent_short, extent_cut, extent_goes, extent_last, NoLength, TooShort, Partial, Goes, Last, segment_case}
use Rattle.dss_frame.proofs.OneDss.Header.{IsHeader, IsFault, extent_bad, InHeader, InSegments, extent_case}
use Rattle.dss_frame.proofs.OneDss.Judging.{fails_within}
use Rattle.dss_frame.proofs.Spellings.SpelledReads.{first_segment, first_read}
use Rattle.dss_frame.proofs.Spellings.ReadSpelled.{same_fault, FailsAfter, after_fails, dss_with, first_of_bytes, IsFirst, first_back}

-- ---- a bad field fails

-- what no DSS has as its format byte is refused
refused : (side : Side) (byte : ℕ) → byte < 256 → ((d : Dss) → IsDssOf side d → byte ≡ format_byte d → ⊥) → is_format_of side byte ≡ false
refused side byte lt none =
    false_from_ne_true (is_format_of side byte) (λ e.
    let says = accepted side byte lt e in
    let d : Dss = record { kind = kind_of byte; chained = has_bit 64 byte; same = has_bit 16 byte; go_on = has_bit 32 byte; corr = 0; body = [] } in
    none d (record { kind = says.kind; corr = omega arith; same = says.same }) (sym says.again))

further_fails : (side : Side) (bytes : List ℕ) (offset : ℕ) → IsBadFurther side offset bytes → extent_of side bytes ≡ Fails offset Continue
further_fails side bytes offset bad =
    let before = open_spelling bad.parts in
    let rest = before ++ bad.rest in
    let count = 5 + (length bad.first + length rest) in
    let within = open_within bad.parts bad.goes_on.parts_fit in
    ap (extent_of side) bad.bytes_are
    ∙ first_read side bad.dss bad.first true rest bad.goes_on.is_dss bad.goes_on.first_fits
    ∙ open_read bad.parts count (0 + (6 + length bad.first)) bad.rest bad.goes_on.parts_fit (omega (arith, length-append before bad.rest)) bad.low.came
    bad.low.short
    ∙ ap (λ (n : ℕ). Fails n Continue) (omega (arith, bad.there))

at_offset : (offset there : ℕ) (why : Why) → offset ≡ there → Fails there why ≡ Fails offset why
at_offset offset there why e = ap (λ (n : ℕ). Fails n why) (sym e)

pub bad_field_fails : (side : Side) (bytes : List ℕ) (offset : ℕ) (why : Why) → AreBytes bytes → IsBadField side bytes offset why
    → extent_of side bytes ≡ Fails offset why
bad_field_fails side bytes offset Short fits bad = extent_bad side bytes Short (bad.1, bad.2) ∙ at_offset offset 0 Short bad.0
bad_field_fails side bytes offset NoD0 fits bad = extent_bad side bytes NoD0 (bad.1, bad.2, bad.3) ∙ at_offset offset 2 NoD0 bad.0
bad_field_fails side bytes offset Format fits bad =
    extent_bad side bytes Format (bad.1, bad.2, bad.3, refused side (get_or bytes 3 0) (byte_at bytes fits 3) bad.4) ∙ at_offset offset 3 Format bad.0
bad_field_fails side bytes offset Continue fits bad = further_fails side bytes offset bad

-- ---- what fails is a bad field

same_field : (side : Side) (bytes : List ℕ) (there offset : ℕ) (found_why why : Why) → Fails there found_why ≡ Fails offset why
    → IsBadField side bytes there found_why → IsBadField side bytes offset why
same_field side bytes there offset found_why why e bad =
    let same = same_fault there offset found_why why e in
    subst (λ (n : ℕ). IsBadField side bytes n why) (sym same.0) (subst (λ (w : Why). IsBadField side bytes there w) same.1 bad)

no_format : (side : Side) (byte : ℕ) → is_format_of side byte ≡ false → (d : Dss) → IsDssOf side d → byte ≡ format_byte d → ⊥
no_format side byte e d h same = false≢true (sym e ∙ ap (is_format_of side) same ∙ format_accepted side d h)

-- the field of the header that is none, in the words of the laws
header_bad : (side : Side) (bytes : List ℕ) (why : Why) → IsFault side bytes why → IsBadField side bytes (field_offset why) why
header_bad side bytes Short f = (refl, f.0, f.1)
header_bad side bytes NoD0 f = (refl, f.0, f.1, f.2)
header_bad side bytes Format f = (refl, f.0, f.1, f.2, no_format side (get_or bytes 3 0) f.3)
header_bad side bytes Continue f = absurd f

further_bad : (side : Side) (bytes : List ℕ) (offset : ℕ) (why : Why) → (f : IsFirst side bytes []) → continues bytes ≡ true
    → FailsAfter (0 + segment_size bytes) (drop (segment_size bytes) bytes) offset why
    → IsBadField side bytes offset why
further_bad side bytes offset why f goes r =
    let first = first_of_bytes bytes in
    let d = dss_with bytes [] in
    let bad : IsBadFurther side offset bytes = record {
      dss = d;
      first = first;
      parts = r.parts;
      rest = r.rest;
      goes_on = record { first_fits = f.fits; parts_fit = r.fit; is_dss = f.is_dss };
      bytes_are = f.are ∙ ap (λ more. first_segment d first more (drop (segment_size bytes) bytes)) goes ∙ ap (first_segment d first true) r.are;
      there = omega (arith, r.there, f.size_is);
      low = record { came = r.came; short = r.short };
    } in
    subst (λ (w : Why). IsBadField side bytes offset w) r.why_is bad

segments_bad : (side : Side) (bytes : List ℕ) (offset : ℕ) (why : Why) → AreBytes bytes → IsHeader side bytes → 0 < length bytes
    → segments_extent (length bytes) 0 bytes ≡ Fails offset why
    → IsBadField side bytes offset why
segments_bad side bytes offset why fits h some e =
    let size = segment_size bytes in
    let most = length bytes - 1 in
    let walk : segments_extent (suc most) 0 bytes ≡ Fails offset why = ap (λ (n : ℕ). segments_extent n 0 bytes) (omega arith) ∙ e in
    elim (segment_case bytes) [
      | NoLength none ↦ absurd (cc (extent_short (length bytes) 0 bytes none))
      | TooShort long low ↦ let six = h.least long in absurd (omega arith)
      | Partial long least cut ↦ absurd (cc (extent_cut (length bytes) 0 bytes long least cut))
      | Goes w goes ↦
          further_bad side bytes offset why (first_back side bytes [] fits h w) goes
          (after_fails most (0 + size) (drop size bytes) offset why (AreBytes-drop size bytes fits) (sym (extent_goes most 0 bytes w goes) ∙ walk))
      | Last w last ↦ absurd (cc (extent_last most 0 bytes w last))
    ]

pub fails_at_bad_field : (side : Side) (bytes : List ℕ) (offset : ℕ) (why : Why) → AreBytes bytes → extent_of side bytes ≡ Fails offset why
    → IsBadField side bytes offset why
fails_at_bad_field side bytes offset why fits e =
    elim (extent_case side bytes) [
      | InHeader w f within is ↦ same_field side bytes (field_offset w) offset w why (sym is ∙ e) (header_bad side bytes w f)
      | InSegments h is ↦ segments_bad side bytes offset why fits h (omega (arith, fails_within side bytes offset why e)) (sym is ∙ e)
    ]
