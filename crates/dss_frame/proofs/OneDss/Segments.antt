-- Segments that are spelled, one after another, are read as what they hold.
use Rattle.std.proofs.Common.{◌≡◌, ℕ, zero, suc, ◌+◌, ◌<◌, ◌≤◌, Bool, true, ltb, List, [], ◌∷◌, ◌++◌, length, take, drop, cond, refl, ap, sym, ◌∙◌}
use Rattle.std.proofs.Common.{append_assoc, arith}
use Rattle.std.specs.List.{flat_map, AllByRecursion}
use Rattle.std.proofs.lemmas.Bool.{cond-true, lt-ltb}
use Rattle.std.proofs.lemmas.List.{length-append, take_at, drop_at}
use Rattle.dss_frame.specs.declared.fault.Why.TheVariants.{Continue}
use Rattle.dss_frame.specs.declared.segments.Extent.TheVariants.{Ends, Fails}
use Rattle.dss_frame.specs.Dss.{segment_length}
use Rattle.dss_frame.specs.Segments.{segment_size, continues, segments_extent, body_of}
use Rattle.dss_frame.specs.Spelling.{IsPart, further_spelling, open_spelling}
use Rattle.dss_frame.proofs.OneDss.Bytes.{field_of}
use Rattle.dss_frame.proofs.OneDss.FirstSegment.{IsWhole, after_whole, extent_whole, extent_low}

-- ---- a segment that is spelled

pub body_next : (count skip : ℕ) (bytes : List ℕ)
    → body_of (suc count) skip bytes ≡ drop skip (take (segment_size bytes) bytes) ++ cond (continues bytes)
    (body_of count 2 (drop (segment_size bytes) bytes)) []
unfolding body_of
body_next count skip bytes = refl

-- a segment with this part, and what follows it
abbrev pub segment : ℕ → Bool → List ℕ → List ℕ → List ℕ
segment size more part rest = segment_length size more ++ (part ++ rest)

segment_parts : (size : ℕ) (more : Bool) (part rest : List ℕ) → segment size more part rest ≡ (segment_length size more ++ part) ++ rest
segment_parts size more part rest = sym (append_assoc (segment_length size more) part rest)

front_length : (size : ℕ) (more : Bool) (part : List ℕ) → size < 32768 → 2 + length part ≡ size → length (segment_length size more ++ part) ≡ size
front_length size more part lt len = omega (arith, length-append (segment_length size more) part, (field_of size more [] lt).two)

pub segment_read : (count offset size : ℕ) (more : Bool) (part rest : List ℕ) → 2 + length part ≡ size → 3 ≤ size → size < 32768
    → segments_extent (suc count) offset (segment size more part rest) ≡ after_whole count offset size more rest
segment_read count offset size more part rest len least lt =
    let bytes = segment size more part rest in
    let f = field_of size more (part ++ rest) lt in
    let front = front_length size more part lt len in
    let total : length bytes ≡ size + length rest = ap length (segment_parts size more part rest) ∙ length-append (segment_length size more ++ part) rest
    ∙ ap (λ (n : ℕ). n + length rest) front in
    let after : drop size bytes ≡ rest = ap (drop size) (segment_parts size more part rest) ∙ drop_at (segment_length size more ++ part) rest size front in
    let w : IsWhole bytes = record { long = omega (arith, total); least = omega (arith, f.size); there = omega (arith, total, f.size) } in
    extent_whole count offset bytes w
    ∙ ap (λ (n : ℕ). after_whole count offset n (continues bytes) (drop n bytes)) f.size
    ∙ ap (λ (b : Bool). after_whole count offset size b (drop size bytes)) f.goes_on
    ∙ ap (after_whole count offset size more) after

pub segment_body : (count skip size : ℕ) (more : Bool) (part rest : List ℕ) → 2 + length part ≡ size → size < 32768
    → body_of (suc count) skip (segment size more part rest) ≡ drop skip (segment_length size more ++ part) ++ cond more (body_of count 2 rest) []
segment_body count skip size more part rest len lt =
    let bytes = segment size more part rest in
    let f = field_of size more (part ++ rest) lt in
    let front = front_length size more part lt len in
    let before : take size bytes ≡ segment_length size more ++ part = ap (take size) (segment_parts size more part rest)
    ∙ take_at (segment_length size more ++ part) rest size front in
    let after : drop size bytes ≡ rest = ap (drop size) (segment_parts size more part rest) ∙ drop_at (segment_length size more ++ part) rest size front in
    body_next count skip bytes
    ∙ ap (λ (n : ℕ). drop skip (take n bytes) ++ cond (continues bytes) (body_of count 2 (drop n bytes)) []) f.size
    ∙ ap (λ (b : Bool). drop skip (take size bytes) ++ cond b (body_of count 2 (drop size bytes)) []) f.goes_on
    ∙ ap (λ (xs : List ℕ). drop skip xs ++ cond more (body_of count 2 (drop size bytes)) []) before
    ∙ ap (λ (xs : List ℕ). drop skip (segment_length size more ++ part) ++ cond more (body_of count 2 xs) []) after

-- ---- further segments

-- where further segments are behind a segment
abbrev pub is_some_part : List (List ℕ) → Bool
is_some_part parts = ltb 0 (length parts)

pub segment_append : (size : ℕ) (more : Bool) (part others rest : List ℕ) → segment size more part others ++ rest ≡ segment size more part (others ++ rest)
segment_append size more part others rest =
    let head = segment_length size more in
    append_assoc head (part ++ others) rest ∙ ap (λ (xs : List ℕ). head ++ xs) (append_assoc part others rest)

pub segment_long : (more : Bool) (part others : List ℕ) → IsPart part → length (segment (2 + length part) more part others) ≡ 2 + length part + length others
segment_long more part others p =
    let f = field_of (2 + length part) more [] (omega (arith, p.fits)) in
    omega (arith, length-append (segment_length (2 + length part) more) (part ++ others), length-append part others, f.two)

pub further_read : (parts : List (List ℕ)) (count offset : ℕ) (more : List ℕ) → AllByRecursion IsPart parts → length parts ≤ count
    → cond (is_some_part parts) (segments_extent count offset (further_spelling parts ++ more)) (Ends offset) ≡ Ends (offset + length (further_spelling parts))
further_read [] count offset more fits fuel = ap (λ (n : ℕ). Ends n) (omega arith)
further_read (part ∷ parts) zero offset more fits fuel = absurd (omega arith)
further_read (part ∷ parts) (suc count) offset more fits fuel =
    let p = fits.0 in
    let size = 2 + length part in
    let ends : offset + size + length (further_spelling parts) ≡ offset + length (further_spelling (part ∷ parts)) =
    omega (arith, segment_long (is_some_part parts) part (further_spelling parts) p) in
    cond-true (is_some_part (part ∷ parts)) _ _ (lt-ltb 0 (length (part ∷ parts)) (omega arith))
    ∙ ap (segments_extent (suc count) offset) (segment_append size (is_some_part parts) part (further_spelling parts) more)
    ∙ segment_read count offset size (is_some_part parts) part (further_spelling parts ++ more) refl (omega (arith, p.some)) (omega (arith, p.fits))
    ∙ further_read parts count (offset + size) more fits.1 (omega arith)
    ∙ ap (λ (n : ℕ). Ends n) ends

pub further_body : (parts : List (List ℕ)) (count : ℕ) (more : List ℕ) → AllByRecursion IsPart parts → length parts ≤ count
    → cond (is_some_part parts) (body_of count 2 (further_spelling parts ++ more)) [] ≡ flat_map (λ part. part) parts
further_body [] count more fits fuel = refl
further_body (part ∷ parts) zero more fits fuel = absurd (omega arith)
further_body (part ∷ parts) (suc count) more fits fuel =
    let p = fits.0 in
    let size = 2 + length part in
    let f = field_of size (is_some_part parts) [] (omega (arith, p.fits)) in
    cond-true (is_some_part (part ∷ parts)) _ _ (lt-ltb 0 (length (part ∷ parts)) (omega arith))
    ∙ ap (body_of (suc count) 2) (segment_append size (is_some_part parts) part (further_spelling parts) more)
    ∙ segment_body count 2 size (is_some_part parts) part (further_spelling parts ++ more) refl (omega (arith, p.fits))
    ∙ ap (λ (xs : List ℕ). xs ++ cond (is_some_part parts) (body_of count 2 (further_spelling parts ++ more)) [])
    (drop_at (segment_length size (is_some_part parts)) part 2 f.two)
    ∙ ap (λ (xs : List ℕ). part ++ xs) (further_body parts count more fits.1 (omega arith))

pub parts_within : (parts : List (List ℕ)) → AllByRecursion IsPart parts → length parts ≤ length (further_spelling parts)
parts_within [] fits = omega arith
parts_within (part ∷ parts) fits = let within = parts_within parts fits.1 in
    omega (arith, segment_long (is_some_part parts) part (further_spelling parts) fits.0)

-- ---- segments that aren't the last, and a length that is none

pub open_within : (parts : List (List ℕ)) → AllByRecursion IsPart parts → length parts ≤ length (open_spelling parts)
open_within [] fits = omega arith
open_within (part ∷ parts) fits = let within = open_within parts fits.1 in omega (arith, segment_long true part (open_spelling parts) fits.0)

pub open_read : (parts : List (List ℕ)) (count offset : ℕ) (rest : List ℕ) → AllByRecursion IsPart parts → length parts < count → 2 ≤ length rest
    → segment_size rest < 3
    → segments_extent count offset (open_spelling parts ++ rest) ≡ Fails (offset + length (open_spelling parts)) Continue
open_read parts zero offset rest fits fuel came low = absurd (omega arith)
open_read [] (suc count) offset rest fits fuel came low = extent_low count offset rest came low ∙ ap (λ (n : ℕ). Fails n Continue) (omega arith)
open_read (part ∷ parts) (suc count) offset rest fits fuel came low =
    let p = fits.0 in
    let size = 2 + length part in
    let ends : offset + size + length (open_spelling parts) ≡ offset + length (open_spelling (part ∷ parts)) =
    omega (arith, segment_long true part (open_spelling parts) p) in
    ap (segments_extent (suc count) offset) (segment_append size true part (open_spelling parts) rest)
    ∙ segment_read count offset size true part (open_spelling parts ++ rest) refl (omega (arith, p.some)) (omega (arith, p.fits))
    ∙ open_read parts count (offset + size) rest fits.1 (omega arith) came low
    ∙ ap (λ (n : ℕ). Fails n Continue) ends
