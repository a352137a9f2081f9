-- What is read is spelled so: the segments that bytes begin with, as they are spelled.
use Rattle.std.proofs.Common.{◌≡◌, ℕ, zero, suc, ◌+◌, ◌-◌, ◌*◌, ◌%◌, ◌<◌, ◌≤◌, Bool, true, false, leb, cond, List, [], ◌∷◌, ◌++◌, length, get_or}
use Rattle.std.proofs.Common.{take, drop, refl, ap, sym, ◌∙◌, arith, inl, inr}
use Rattle.std.specs.Int.{w16, to_be_bytes}
use Rattle.std.specs.List.{AllByRecursion}
use Rattle.std.proofs.lemmas.Bool.{cases_lt, lt-ltb, le-leb, lt-leb}
use Rattle.std.proofs.lemmas.List.{length-take, length-drop, take-append-drop, drop-drop}
use Rattle.dss_frame.specs.declared.fault.Why.{Why}
use Rattle.dss_frame.specs.declared.fault.Why.TheVariants.{Continue}
use Rattle.dss_frame.specs.declared.dss.Side.{Side}
use Rattle.dss_frame.specs.declared.dss.Dss.{Dss}
use Rattle.dss_frame.specs.declared.segments.Extent.TheVariants.{Ends, Fails}
use Rattle.dss_frame.specs.Dss.{flag, segment_length, format_byte}
use Rattle.dss_frame.specs.Segments.{number_at, segment_size, continues, has_bit, kind_of, segments_extent}
use Rattle.dss_frame.specs.Spelling.{IsDssOf, IsPart, further_spelling, open_spelling}
use Rattle.link_ends.specs.Bytes.{AreBytes}
use Rattle.link_ends.proofs.Bytes.{byte_at, AreBytes-drop}
use Rattle.dss_frame.proofs.OneDss.Bytes.{two_bytes}
use Rattle.dss_frame.proofs.OneDss.Format.{accepted}
use Rattle.dss_frame.proofs.OneDss.FirstSegment.{extent_none, extent_short, extent_low, extent_cut, IsWhole, extent_whole, extent_goes, extent_last}
use Rattle.dss_frame.proofs.OneDss.FirstSegment.{NoLength, TooShort, Partial, Goes, Last, segment_case, segments_end}
use Rattle.dss_frame.proofs.OneDss.Segments.{is_some_part, segment, segment_append, segment_long}
use Rattle.dss_frame.proofs.OneDss.Header.{IsHeader}
use Rattle.dss_frame.proofs.Spellings.SpelledReads.{first_segment}

-- ---- a segment that is whole, as it is spelled

same_number : (number : ℕ) → number < 65536 → number % 32768 + flag (leb 32768 number) 32768 ≡ number
same_number number lt =
    elim (cases_lt number 32768) [
      | inl low ↦ ap (λ (b : Bool). number % 32768 + flag b 32768) (lt-leb 32768 number low) ∙ omega arith
      | inr high ↦ ap (λ (b : Bool). number % 32768 + flag b 32768) (le-leb 32768 number high) ∙ omega arith
    ]

length_bytes : (a b size : ℕ) → a < 256 → b < 256 → size ≡ (256 * a + b) % 32768 → segment_length size (leb 32768 (256 * a + b)) ≡ a ∷ b ∷ []
length_bytes a b size fa fb e =
    ap (to_be_bytes w16) (ap (λ (n : ℕ). n + flag (leb 32768 (256 * a + b)) 32768) e ∙ same_number (256 * a + b) (omega arith)) ∙ two_bytes a b fa fb

part_of : List ℕ → List ℕ
part_of bytes = take (segment_size bytes - 2) (drop 2 bytes)

part_length : (bytes : List ℕ) → IsWhole bytes → 2 + length (part_of bytes) ≡ segment_size bytes
unfolding part_of
part_length bytes w = omega (arith, length-take (segment_size bytes - 2) (drop 2 bytes), length-drop 2 bytes, w.least, w.there)

is_part : (bytes : List ℕ) → IsWhole bytes → IsPart (part_of bytes)
is_part bytes w =
    let len = part_length bytes w in
    let lt : segment_size bytes < 32768 = omega arith in
    record { some = omega (arith, w.least); fits = omega arith }

segment_back : (bytes : List ℕ) → AreBytes bytes → IsWhole bytes
    → bytes ≡ segment (segment_size bytes) (continues bytes) (part_of bytes) (drop (segment_size bytes) bytes)
unfolding part_of
segment_back [] fits w = absurd (omega (arith, w.long))
segment_back (a ∷ []) fits w = absurd (omega (arith, w.long))
segment_back (a ∷ b ∷ rest) fits w =
    let bytes = a ∷ b ∷ rest in
    let size = segment_size bytes in
    let after : drop (size - 2) rest ≡ drop size bytes = drop-drop (size - 2) 2 bytes ∙ ap (λ (n : ℕ). drop n bytes) (omega (arith, w.least)) in
    ap (λ (xs : List ℕ). a ∷ b ∷ xs) (sym (take-append-drop (size - 2) rest) ∙ ap (λ (xs : List ℕ). take (size - 2) rest ++ xs) after)
    ∙ ap (λ (xs : List ℕ). xs ++ (take (size - 2) rest ++ drop size bytes)) (sym (length_bytes a b size (byte_at bytes fits 0) (byte_at bytes fits 1) refl))

-- ---- further segments

-- behind a segment that says whether another follows, the last one ends there
pub record EndsAfter (more : Bool) (offset : ℕ) (bytes : List ℕ) (end : ℕ) : Type 0 where
  pub parts : List (List ℕ)
  pub rest : List ℕ
  pub some : is_some_part parts ≡ more
  pub fit : AllByRecursion IsPart parts
  pub are : bytes ≡ further_spelling parts ++ rest
  pub ends : end ≡ offset + length (further_spelling parts)

segment_again : (size : ℕ) (more next : Bool) (part after others rest : List ℕ) → 2 + length part ≡ size → next ≡ more → after ≡ others ++ rest
    → segment size more part after ≡ segment (2 + length part) next part others ++ rest
segment_again size more next part after others rest len same are =
    ap (segment size more part) are
    ∙ ap (λ (n : ℕ). segment n more part (others ++ rest)) (sym len)
    ∙ ap (λ (b : Bool). segment (2 + length part) b part (others ++ rest)) (sym same)
    ∙ sym (segment_append (2 + length part) next part others rest)

same_end : (a b : ℕ) → Ends a ≡ Ends b → b ≡ a
same_end a b e = cc

pub after_ends : (count offset : ℕ) (more : Bool) (bytes : List ℕ) (end : ℕ) → AreBytes bytes
    → cond more (segments_extent count offset bytes) (Ends offset) ≡ Ends end → EndsAfter more offset bytes end
after_ends count offset false bytes end fits e =
    let same = same_end offset end e in
    record { parts = []; rest = bytes; some = refl; fit = tt; are = refl; ends = omega arith }
after_ends zero offset true bytes end fits e = let none = extent_none offset bytes in absurd (cc)
after_ends (suc count) offset true bytes end fits e =
    let w = (segments_end (suc count) offset bytes end e).whole in
    let size = segment_size bytes in
    let r = after_ends count (offset + size) (continues bytes) (drop size bytes) end (AreBytes-drop size bytes fits) (sym (extent_whole count offset bytes w)
    ∙ e) in
    let part = part_of bytes in
    let p = is_part bytes w in
    let len = part_length bytes w in
    record {
      parts = part ∷ r.parts;
      rest = r.rest;
      some = lt-ltb 0 (length (part ∷ r.parts)) (omega arith);
      fit = (p, r.fit);
      are = segment_back bytes fits w
          ∙ segment_again size (continues bytes) (is_some_part r.parts) part (drop size bytes) (further_spelling r.parts) r.rest len r.some r.are;
      ends = omega (arith, r.ends, len, segment_long (is_some_part r.parts) part (further_spelling r.parts) p);
    }

-- behind segments that say that another follows, a length is below 3
pub record FailsAfter (offset : ℕ) (bytes : List ℕ) (end : ℕ) (why : Why) : Type 0 where
  pub why_is : Continue ≡ why
  pub parts : List (List ℕ)
  pub rest : List ℕ
  pub fit : AllByRecursion IsPart parts
  pub are : bytes ≡ open_spelling parts ++ rest
  pub there : end ≡ offset + length (open_spelling parts)
  pub came : 2 ≤ length rest
  pub short : segment_size rest < 3

pub same_fault : (a b : ℕ) (v w : Why) → Fails a v ≡ Fails b w → (b ≡ a) × (v ≡ w)
same_fault a b v w e = (cc, cc)

pub after_fails : (count offset : ℕ) (bytes : List ℕ) (end : ℕ) (why : Why) → AreBytes bytes → segments_extent count offset bytes ≡ Fails end why
    → FailsAfter offset bytes end why
after_fails zero offset bytes end why fits e = absurd (cc (extent_none offset bytes))
after_fails (suc count) offset bytes end why fits e =
    elim (segment_case bytes) [
      | NoLength none ↦ absurd (cc (extent_short (suc count) offset bytes none))
      | TooShort long low ↦
          let same = same_fault offset end Continue why (sym (extent_low count offset bytes long low) ∙ e) in
          record { why_is = same.1; parts = []; rest = bytes; fit = tt; are = refl; there = omega (arith, same.0); came = long; short = low }
      | Partial long least cut ↦ absurd (cc (extent_cut (suc count) offset bytes long least cut))
      | Goes w goes ↦
          let size = segment_size bytes in
          let r = after_fails count (offset + size) (drop size bytes) end why (AreBytes-drop size bytes fits) (sym (extent_goes count offset bytes w goes)
          ∙ e) in
          let part = part_of bytes in
          let p = is_part bytes w in
          let len = part_length bytes w in
          record {
            why_is = r.why_is;
            parts = part ∷ r.parts;
            rest = r.rest;
            fit = (p, r.fit);
            are = segment_back bytes fits w
                ∙ segment_again size (continues bytes) true part (drop size bytes) (open_spelling r.parts) r.rest len (sym goes) r.are;
            there = omega (arith, r.there, len, segment_long true part (open_spelling r.parts) p);
            came = r.came;
            short = r.short;
          }
      | Last w last ↦ absurd (cc (extent_last count offset bytes w last))
    ]

-- ---- the first segment

-- the DSS of these bytes, with this body
abbrev pub dss_with : List ℕ → List ℕ → Dss
dss_with bytes body =
    record {
      kind = kind_of (get_or bytes 3 0);
      chained = has_bit 64 (get_or bytes 3 0);
      same = has_bit 16 (get_or bytes 3 0);
      go_on = has_bit 32 (get_or bytes 3 0);
      corr = number_at 4 bytes;
      body = body;
    }

-- the first segment's part of the body
pub first_of_bytes : List ℕ → List ℕ
first_of_bytes bytes = take (segment_size bytes - 6) (drop 6 bytes)

pub record IsFirst (side : Side) (bytes body : List ℕ) : Type 0 where
  pub size_is : 6 + length (first_of_bytes bytes) ≡ segment_size bytes
  pub fits : length (first_of_bytes bytes) ≤ 32761
  pub is_dss : IsDssOf side (dss_with bytes body)
  pub are : bytes ≡ first_segment (dss_with bytes body) (first_of_bytes bytes) (continues bytes) (drop (segment_size bytes) bytes)

pub first_back : (side : Side) (bytes body : List ℕ) → AreBytes bytes → IsHeader side bytes → IsWhole bytes → IsFirst side bytes body
unfolding first_of_bytes
first_back side [] body fits h w = absurd (omega (arith, w.long))
first_back side (a ∷ []) body fits h w = absurd (omega (arith, w.long))
first_back side (a ∷ b ∷ []) body fits h w = absurd (omega (arith, w.there, h.least w.long))
first_back side (a ∷ b ∷ c ∷ []) body fits h w = absurd (omega (arith, w.there, h.least w.long))
first_back side (a ∷ b ∷ c ∷ f ∷ []) body fits h w = absurd (omega (arith, w.there, h.least w.long))
first_back side (a ∷ b ∷ c ∷ f ∷ k ∷ []) body fits h w = absurd (omega (arith, w.there, h.least w.long))
first_back side (a ∷ b ∷ c ∷ f ∷ k ∷ l ∷ rest) body fits h w =
    let bytes = a ∷ b ∷ c ∷ f ∷ k ∷ l ∷ rest in
    let size = segment_size bytes in
    let least = h.least w.long in
    let first = take (size - 6) rest in
    let after = drop size bytes in
    let d = dss_with bytes body in
    let lt : size < 32768 = omega arith in
    let len : 6 + length first ≡ size = omega (arith, length-take (size - 6) rest, w.there) in
    let says = accepted side f (byte_at bytes fits 3) (h.fourth (omega arith)) in
    let third : c ≡ 208 = h.third (omega arith) in
    let tail : rest ≡ first ++ after =
    sym (take-append-drop (size - 6) rest) ∙ ap (λ (xs : List ℕ). first ++ xs) (drop-drop (size - 6) 6 bytes ∙ ap (λ (n : ℕ). drop n bytes) (omega arith)) in
    record {
      size_is = len;
      fits = omega arith;
      is_dss = record { kind = says.kind; corr = omega (arith, byte_at bytes fits 4, byte_at bytes fits 5); same = says.same };
      are =
          ap (λ (xs : List ℕ). a ∷ b ∷ c ∷ f ∷ k ∷ l ∷ xs) tail
          ∙ ap (λ (xs : List ℕ). a ∷ b ∷ c ∷ f ∷ (xs ++ (first ++ after))) (sym (two_bytes k l (byte_at bytes fits 4) (byte_at bytes fits 5)))
          ∙ ap (λ (x : ℕ). a ∷ b ∷ c ∷ x ∷ (to_be_bytes w16 (256 * k + l) ++ (first ++ after))) (sym says.again)
          ∙ ap (λ (x : ℕ). a ∷ b ∷ x ∷ format_byte d ∷ (to_be_bytes w16 (256 * k + l) ++ (first ++ after))) third
          ∙ ap (λ (xs : List ℕ). xs ++ (208 ∷ format_byte d ∷ (to_be_bytes w16 (256 * k + l) ++ (first ++ after))))
          (sym (length_bytes a b (6 + length first) (byte_at bytes fits 0) (byte_at bytes fits 1) len));
    }
