-- A spelling of a DSS is read as it, whatever follows.
use Rattle.std.proofs.Common.{◌≡◌, ℕ, suc, ◌+◌, ◌≤◌, Bool, List, [], ◌++◌, length, refl, ap, sym, ◌∙◌, append_assoc, arith}
use Rattle.std.proofs.lemmas.List.{append-nil, length-append}
use Rattle.dss_frame.specs.declared.dss.Kind.{Kind}
use Rattle.dss_frame.specs.declared.dss.Side.{Side}
use Rattle.dss_frame.specs.declared.dss.Dss.{Dss}
use Rattle.dss_frame.specs.declared.segments.Extent.TheVariants.{Ends}
use Rattle.dss_frame.specs.Dss.{header}
use Rattle.dss_frame.specs.Segments.{has_bit, kind_of, segments_extent, extent_of, body_of, dss_of}
use Rattle.dss_frame.specs.Spelling.{IsDssOf, further_spelling, Spells}
use Rattle.dss_frame.proofs.OneDss.Format.{format_says}
use Rattle.dss_frame.proofs.OneDss.FirstSegment.{after_whole}
use Rattle.dss_frame.proofs.OneDss.Segments.{is_some_part, segment_read, segment_body, further_read, further_body, parts_within}
use Rattle.dss_frame.proofs.OneDss.Header.{extent_good, first_part, first_length, Header, header_fields, header_passes}

-- ---- the first segment

-- a spelling's first segment, and what follows
abbrev pub first_segment : Dss → List ℕ → Bool → List ℕ → List ℕ
first_segment d first more rest = header d (6 + length first) more ++ (first ++ rest)

pub first_segment_length : (d : Dss) (first : List ℕ) (more : Bool) (rest : List ℕ)
    → length (first_segment d first more rest) ≡ 6 + (length first + length rest)
first_segment_length d first more rest = omega (arith, length-append first rest)

pub first_read : (side : Side) (d : Dss) (first : List ℕ) (more : Bool) (rest : List ℕ) → IsDssOf side d → length first ≤ 32761
    → extent_of side (first_segment d first more rest) ≡ after_whole (5 + (length first + length rest)) 0 (6 + length first) more rest
first_read side d first more rest h fits =
    let size = 6 + length first in
    let bytes = first_segment d first more rest in
    let fields : Header d size bytes = header_fields d size more (first ++ rest) (omega arith) h.corr in
    let count : length bytes ≡ suc (5 + (length first + length rest)) = omega (arith, first_segment_length d first more rest) in
    extent_good side bytes (header_passes side d size bytes h (omega arith) fields)
    ∙ ap (λ (n : ℕ). segments_extent n 0 bytes) count
    ∙ segment_read (5 + (length first + length rest)) 0 size more (first_part d first) rest (first_length d first) (omega arith) (omega arith)

-- ---- the whole

spelled_text : (side : Side) (d : Dss) (bytes more : List ℕ) → (s : Spells side d bytes)
    → bytes ++ more ≡ first_segment d s.first (is_some_part s.parts) (further_spelling s.parts ++ more)
spelled_text side d bytes more s =
    let head = header d (6 + length s.first) (is_some_part s.parts) in
    ap (λ (xs : List ℕ). xs ++ more) s.spelled ∙ append_assoc head (s.first ++ further_spelling s.parts) more
    ∙ ap (λ (xs : List ℕ). head ++ xs) (append_assoc s.first (further_spelling s.parts) more)

pub spelled_read : (side : Side) (d : Dss) (bytes more : List ℕ) → Spells side d bytes → extent_of side (bytes ++ more) ≡ Ends (length bytes)
spelled_read side d bytes more s =
    let rest = further_spelling s.parts ++ more in
    let size = 6 + length s.first in
    let within = parts_within s.parts s.parts_fit in
    let total : length bytes ≡ 0 + size + length (further_spelling s.parts) =
    ap length s.spelled ∙ first_segment_length d s.first (is_some_part s.parts) (further_spelling s.parts) ∙ omega arith in
    ap (extent_of side) (spelled_text side d bytes more s)
    ∙ first_read side d s.first (is_some_part s.parts) rest s.is_dss s.first_fits
    ∙ further_read s.parts (5 + (length s.first + length rest)) (0 + size) more s.parts_fit (omega (arith, length-append (further_spelling s.parts) more))
    ∙ ap (λ (n : ℕ). Ends n) (sym total)

same_dss : (d : Dss) (kind : Kind) (chained same go_on : Bool) (corr : ℕ) (body : List ℕ)
    → kind ≡ d.kind → chained ≡ d.chained → same ≡ d.same → go_on ≡ d.go_on → corr ≡ d.corr → body ≡ d.body
    → ◌≡◌ {A = Dss} (record { kind = kind; chained = chained; same = same; go_on = go_on; corr = corr; body = body }) d
same_dss d kind chained same go_on corr body k c s g n b = rw (k, c, s, g, n, b) refl

spelled_body : (side : Side) (d : Dss) (bytes : List ℕ) → Spells side d bytes → body_of (length bytes) 6 bytes ≡ d.body
spelled_body side d bytes s =
    let rest = further_spelling s.parts ++ [] in
    let size = 6 + length s.first in
    let more = is_some_part s.parts in
    let within = parts_within s.parts s.parts_fit in
    let text = first_segment d s.first more rest in
    let same : bytes ≡ text = sym (append-nil bytes) ∙ spelled_text side d bytes [] s in
    let count : length text ≡ suc (5 + (length s.first + length rest)) = omega (arith, first_segment_length d s.first more rest) in
    ap (λ (xs : List ℕ). body_of (length xs) 6 xs) same
    ∙ ap (λ (n : ℕ). body_of n 6 text) count
    ∙ segment_body (5 + (length s.first + length rest)) 6 size more (first_part d s.first) rest (first_length d s.first) (omega (arith, s.first_fits))
    ∙ ap (λ (xs : List ℕ). s.first ++ xs) (further_body s.parts (5 + (length s.first + length rest)) [] s.parts_fit
    (omega (arith, length-append (further_spelling s.parts) [])))
    ∙ sym s.body

pub spelled_dss : (side : Side) (d : Dss) (bytes : List ℕ) → Spells side d bytes → dss_of bytes ≡ d
unfolding dss_of
spelled_dss side d bytes s =
    let size = 6 + length s.first in
    let more = is_some_part s.parts in
    let fits = s.first_fits in
    let f : Header d size bytes = rw s.spelled (header_fields d size more (s.first ++ further_spelling s.parts) (omega arith) s.is_dss.corr) in
    let says = format_says d in
    same_dss d _ _ _ _ _ _ (ap kind_of f.fourth ∙ says.kind) (ap (has_bit 64) f.fourth ∙ says.chained) (ap (has_bit 16) f.fourth ∙ says.same)
    (ap (has_bit 32) f.fourth ∙ says.go_on) f.corr (spelled_body side d bytes s)
