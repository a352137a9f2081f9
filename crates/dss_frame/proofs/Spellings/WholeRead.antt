-- What is read as a DSS is a spelling of it.
use Rattle.std.proofs.Common.{◌≡◌, ℕ, suc, ◌+◌, ◌-◌, Bool, List, ◌++◌, length, take, drop, refl, ap, sym, subst, ◌∙◌, append_assoc, arith}
use Rattle.std.specs.List.{flat_map}
use Rattle.std.proofs.lemmas.List.{take_at}
use Rattle.dss_frame.specs.declared.dss.Side.{Side}
use Rattle.dss_frame.specs.declared.dss.Dss.{Dss}
use Rattle.dss_frame.specs.declared.segments.Extent.TheVariants.{Ends}
use Rattle.dss_frame.specs.Dss.{header}
use Rattle.dss_frame.specs.Segments.{segment_size, continues, segments_extent, extent_of, dss_of}
use Rattle.dss_frame.specs.Spelling.{further_spelling, Spells}
use Rattle.link_ends.specs.Bytes.{AreBytes}
use Rattle.link_ends.proofs.Bytes.{AreBytes-drop}
use Rattle.dss_frame.proofs.OneDss.Segments.{is_some_part}
use Rattle.dss_frame.proofs.OneDss.FirstSegment.{extent_whole}
use Rattle.dss_frame.proofs.OneDss.Judging.{whole_dss}
use Rattle.dss_frame.proofs.Spellings.SpelledReads.{first_segment, first_segment_length, spelled_dss}
use Rattle.dss_frame.proofs.Spellings.ReadSpelled.{EndsAfter, after_ends, dss_with, first_of_bytes, IsFirst, first_back}

-- the first so many bytes are a spelling
record BeginsWith (side : Side) (bytes : List ℕ) (count : ℕ) : Type 0 where
  dss : Dss
  text : List ℕ
  rest : List ℕ
  are : bytes ≡ text ++ rest
  long : length text ≡ count
  spells : Spells side dss text

joined : (side : Side) (bytes : List ℕ) (count : ℕ) → (r : EndsAfter (continues bytes) (0 + segment_size bytes) (drop (segment_size bytes) bytes) count)
    → IsFirst side bytes (first_of_bytes bytes ++ flat_map (λ part. part) r.parts) → BeginsWith side bytes count
joined side bytes count r f =
    let first = first_of_bytes bytes in
    let d = dss_with bytes (first ++ flat_map (λ part. part) r.parts) in
    let head = header d (6 + length first) (is_some_part r.parts) in
    let text = head ++ (first ++ further_spelling r.parts) in
    record {
      dss = d;
      text = text;
      rest = r.rest;
      are =
          f.are
          ∙ ap (λ (b : Bool). first_segment d first b (drop (segment_size bytes) bytes)) (sym r.some)
          ∙ ap (first_segment d first (is_some_part r.parts)) r.are
          ∙ ap (λ (xs : List ℕ). head ++ xs) (sym (append_assoc first (further_spelling r.parts) r.rest))
          ∙ sym (append_assoc head (first ++ further_spelling r.parts) r.rest);
      long = omega (arith, first_segment_length d first (is_some_part r.parts) (further_spelling r.parts), r.ends, f.size_is);
      spells = record { first = first; parts = r.parts; body = refl; first_fits = f.fits; parts_fit = r.fit; is_dss = f.is_dss; spelled = refl };
    }

begins_with : (side : Side) (bytes : List ℕ) (count : ℕ) → AreBytes bytes → extent_of side bytes ≡ Ends count → BeginsWith side bytes count
begins_with side bytes count fits e =
    let w = whole_dss side bytes count e in
    let size = segment_size bytes in
    let most = length bytes - 1 in
    let walk : segments_extent (suc most) 0 bytes ≡ Ends count = ap (λ (n : ℕ). segments_extent n 0 bytes) (omega (arith, w.least, w.within)) ∙ w.walk in
    let r = after_ends most (0 + size) (continues bytes) (drop size bytes) count (AreBytes-drop size bytes fits) (sym (extent_whole most 0 bytes w.first)
    ∙ walk) in
    joined side bytes count r (first_back side bytes (first_of_bytes bytes ++ flat_map (λ part. part) r.parts) fits w.header w.first)

pub ends_spelled : (side : Side) (bytes : List ℕ) (count : ℕ) → AreBytes bytes → extent_of side bytes ≡ Ends count
    → Spells side (dss_of (take count bytes)) (take count bytes)
ends_spelled side bytes count fits e =
    let b = begins_with side bytes count fits e in
    let same : b.text ≡ take count bytes = sym (take_at b.text b.rest count b.long) ∙ ap (take count) (sym b.are) in
    let spells = subst (Spells side b.dss) same b.spells in
    subst (λ (d : Dss). Spells side d (take count bytes)) (sym (spelled_dss side b.dss (take count bytes) spells)) spells
