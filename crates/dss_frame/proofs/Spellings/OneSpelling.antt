-- A spelling of one DSS is read as it, what is read is a spelling, and the field that fails is the first that is none.
use Rattle.std.proofs.Common.{◌≡◌, ℕ, ◌<◌, ◌≤◌, List, ◌++◌, length, take, drop, refl, sym, ap, ◌∙◌}
use Rattle.std.specs.List.{All}
use Rattle.std.proofs.lemmas.List.{take_at, take-append-drop}
use Rattle.dss_frame.specs.declared.dss.Side.{Side}
use Rattle.dss_frame.specs.declared.dss.Dss.{Dss}
use Rattle.dss_frame.specs.declared.fault.Why.{Why}
use Rattle.dss_frame.specs.declared.segments.Extent.TheVariants.{Awaits, Ends, Fails}
use Rattle.dss_frame.proofs.OneDss.Judging.{whole_dss}
pub use Rattle.dss_frame.proofs.Spellings.Canonical.{canonical_spells}
pub use Rattle.dss_frame.proofs.Spellings.SpelledReads.{spelled_read, spelled_dss}
use Rattle.dss_frame.proofs.Spellings.BadFields.{bad_field_fails, fails_at_bad_field}
use Rattle.dss_frame.proofs.Spellings.WholeRead.{ends_spelled}
use Rattle.dss_frame.specs.Segments.{extent_of, dss_of}
use Rattle.dss_frame.specs.Spelling.{Spells, IsBadField}

-- no spelling begins another, and none is of two DSSs
pub one_spelling : (side : Side) (d e : Dss) (a b x y : List ℕ) → Spells side d a → Spells side e b → a ++ x ≡ b ++ y → (a ≡ b) × (d ≡ e)
one_spelling side d e a b x y s t same =
    let ends : Ends (length a) ≡ Ends (length b) = sym (spelled_read side d a x s) ∙ ap (extent_of side) same ∙ spelled_read side e b y t in
    let long : length a ≡ length b = cc in
    let alike : a ≡ b = sym (take_at a x (length a) refl) ∙ ap (take (length a)) same ∙ take_at b y (length a) (sym long) in
    (alike, sym (spelled_dss side d a s) ∙ ap dss_of alike ∙ spelled_dss side e b t)

pub awaited_none : (side : Side) (bytes : List ℕ) (d : Dss) (n : ℕ) → extent_of side bytes ≡ Awaits → Spells side d (take n bytes) → ⊥
awaited_none side bytes d n e s =
    let ends : Ends (length (take n bytes)) ≡ Awaits = sym (spelled_read side d (take n bytes) (drop n bytes) s)
    ∙ ap (extent_of side) (take-append-drop n bytes) ∙ e in
    cc

pub read_within : (side : Side) (bytes : List ℕ) (count : ℕ) → All (λ byte. byte < 256) bytes → extent_of side bytes ≡ Ends count → count ≤ length bytes
read_within side bytes count fits e = (whole_dss side bytes count e).within

pub read_spelled : (side : Side) (bytes : List ℕ) (count : ℕ) → All (λ byte. byte < 256) bytes → extent_of side bytes ≡ Ends count
    → Spells side (dss_of (take count bytes)) (take count bytes)
read_spelled side bytes count fits e = ends_spelled side bytes count fits e

pub bad_fails : (side : Side) (bytes : List ℕ) (offset : ℕ) (why : Why) → All (λ byte. byte < 256) bytes → IsBadField side bytes offset why
    → extent_of side bytes ≡ Fails offset why
bad_fails side bytes offset why fits bad = bad_field_fails side bytes offset why fits bad

pub fails_bad : (side : Side) (bytes : List ℕ) (offset : ℕ) (why : Why) → All (λ byte. byte < 256) bytes → extent_of side bytes ≡ Fails offset why
    → IsBadField side bytes offset why
fails_bad side bytes offset why fits e = fails_at_bad_field side bytes offset why fits e
