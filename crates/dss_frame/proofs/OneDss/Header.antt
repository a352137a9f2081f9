-- The header of a DSS: the first field that is none, what is known of the DSS by it, and its fields as they are spelled.
use Rattle.std.proofs.Common.{◌≡◌, ℕ, ◌+◌, ◌^◌, ◌<◌, ◌≤◌, Bool, true, false, not, eqb, ltb, leb, ◌&&◌, List, ◌∷◌, ◌++◌, length, get_or, Option, Some}
use Rattle.std.proofs.Common.{None, refl, ap, ◌∙◌, arith, inl, inr}
use Rattle.std.specs.Int.{w16, to_be_bytes}
use Rattle.std.proofs.lemmas.Bool.{cases_lt, cases_eq, cases_Bool, cond-true, cond-false, and_from, and_left, and_right, lt-ltb, le-ltb, le-leb}
use Rattle.std.proofs.lemmas.Bool.{lt-leb, eq-eqb, ne_eqb}
use Rattle.dss_frame.specs.declared.fault.Why.{Why}
use Rattle.dss_frame.specs.declared.fault.Why.TheVariants.{Short, NoD0, Format, Continue}
use Rattle.dss_frame.specs.declared.segments.Extent.TheVariants.{Fails}
use Rattle.dss_frame.specs.declared.dss.Side.{Side}
use Rattle.dss_frame.specs.declared.dss.Dss.{Dss}
use Rattle.dss_frame.specs.Dss.{format_byte, header}
use Rattle.dss_frame.specs.Segments.{number_at, segment_size, is_format_of, header_fault, field_offset, segments_extent, extent_by, extent_of}
use Rattle.dss_frame.specs.Spelling.{IsDssOf}
use Rattle.dss_frame.proofs.OneDss.Bytes.{field_of, number_two}
use Rattle.dss_frame.proofs.OneDss.Format.{format_accepted}

-- ---- the first field that is none

-- each field that has come whole is one of a DSS
pub record IsHeader (side : Side) (bytes : List ℕ) : Type 0 where
  pub least : 2 ≤ length bytes → 6 ≤ segment_size bytes
  pub third : 3 ≤ length bytes → get_or bytes 2 0 ≡ 208
  pub fourth : 4 ≤ length bytes → is_format_of side (get_or bytes 3 0) ≡ true

came_and : (count len : ℕ) (test : Bool) → (count ≤ len → test ≡ false) → (leb count len && test) ≡ false
came_and count len test h =
    elim (cases_lt len count) [
      | inl none ↦ and_left (leb count len) test (lt-leb count len none)
      | inr came ↦ and_right (leb count len) test (h came)
    ]

short_passes : (bytes : List ℕ) → (2 ≤ length bytes → 6 ≤ segment_size bytes) → (leb 2 (length bytes) && ltb (segment_size bytes) 6) ≡ false
short_passes bytes h = came_and 2 (length bytes) _ (λ came. le-ltb (segment_size bytes) 6 (h came))

third_passes : (bytes : List ℕ) → (3 ≤ length bytes → get_or bytes 2 0 ≡ 208) → (leb 3 (length bytes) && not (eqb (get_or bytes 2 0) 208)) ≡ false
third_passes bytes h = came_and 3 (length bytes) _ (λ came. ap not (eq-eqb (get_or bytes 2 0) 208 (h came)))

fourth_passes : (side : Side) (bytes : List ℕ) → (4 ≤ length bytes → is_format_of side (get_or bytes 3 0) ≡ true)
    → (leb 4 (length bytes) && not (is_format_of side (get_or bytes 3 0))) ≡ false
fourth_passes side bytes h = came_and 4 (length bytes) _ (λ came. ap not (h came))

-- the field of the header that is none of a DSS, and those before it are
abbrev pub IsFault : Side → List ℕ → Why → Type 0
IsFault side bytes Short = (2 ≤ length bytes) × (segment_size bytes < 6)
IsFault side bytes NoD0 = (3 ≤ length bytes) × (6 ≤ segment_size bytes) × (get_or bytes 2 0 ≡ 208 → ⊥)
IsFault side bytes Format = (4 ≤ length bytes) × (6 ≤ segment_size bytes) × (get_or bytes 2 0 ≡ 208) × (is_format_of side (get_or bytes 3 0) ≡ false)
IsFault side bytes Continue = ⊥

fault_none : (side : Side) (bytes : List ℕ) → IsHeader side bytes → header_fault side bytes ≡ None
unfolding header_fault
fault_none side bytes h =
    cond-false _ _ _ (short_passes bytes h.least) ∙ cond-false _ _ _ (third_passes bytes h.third) ∙ cond-false _ _ _ (fourth_passes side bytes h.fourth)

fault_found : (side : Side) (bytes : List ℕ) (why : Why) → IsFault side bytes why → header_fault side bytes ≡ Some why
unfolding header_fault
fault_found side bytes Short f = cond-true _ _ _ (and_from _ _ (le-leb 2 (length bytes) f.0) (lt-ltb (segment_size bytes) 6 f.1))
fault_found side bytes NoD0 f =
    cond-false _ _ _ (short_passes bytes (λ _. f.1))
    ∙ cond-true _ _ _ (and_from (leb 3 (length bytes)) _ (le-leb 3 (length bytes) f.0) (ap not (ne_eqb (get_or bytes 2 0) 208 f.2)))
fault_found side bytes Format f =
    cond-false _ _ _ (short_passes bytes (λ _. f.1)) ∙ cond-false _ _ _ (third_passes bytes (λ _. f.2))
    ∙ cond-true _ _ _ (and_from (leb 4 (length bytes)) _ (le-leb 4 (length bytes) f.0) (ap not f.3))
fault_found side bytes Continue f = absurd f

pub only_one : (side : Side) (bytes : List ℕ) (why : Why) → IsHeader side bytes → IsFault side bytes why → ⊥
only_one side bytes why h f = cc (fault_none side bytes h, fault_found side bytes why f)

pub extent_bad : (side : Side) (bytes : List ℕ) (why : Why) → IsFault side bytes why → extent_of side bytes ≡ Fails (field_offset why) why
unfolding extent_of
extent_bad side bytes why f = ap (λ (o : Option Why). extent_by o bytes) (fault_found side bytes why f)

pub extent_good : (side : Side) (bytes : List ℕ) → IsHeader side bytes → extent_of side bytes ≡ segments_extent (length bytes) 0 bytes
unfolding extent_of
extent_good side bytes h = ap (λ (o : Option Why). extent_by o bytes) (fault_none side bytes h)

-- what is known of a DSS, by its header
pub data ExtentCase (side : Side) (bytes : List ℕ) : Type 0 where
  InHeader : (why : Why) → IsFault side bytes why → field_offset why < length bytes → extent_of side bytes ≡ Fails (field_offset why) why → ExtentCase side
      bytes
  InSegments : IsHeader side bytes → extent_of side bytes ≡ segments_extent (length bytes) 0 bytes → ExtentCase side bytes

bad_case : (side : Side) (bytes : List ℕ) (why : Why) → IsFault side bytes why → field_offset why < length bytes → ExtentCase side bytes
bad_case side bytes why f within = InHeader why f within (extent_bad side bytes why f)

good_case : (side : Side) (bytes : List ℕ) → IsHeader side bytes → ExtentCase side bytes
good_case side bytes h = InSegments h (extent_good side bytes h)

pub extent_case : (side : Side) (bytes : List ℕ) → ExtentCase side bytes
extent_case side bytes =
    elim (cases_lt (length bytes) 2) [
      | inl none ↦ good_case side bytes (record { least = λ h. absurd (omega arith); third = λ h. absurd (omega arith); fourth = λ h. absurd (omega arith) })
      | inr two ↦ elim (cases_lt (segment_size bytes) 6) [
        | inl low ↦ bad_case side bytes Short (two, low) (omega arith)
        | inr least ↦ elim (cases_lt (length bytes) 3) [
          | inl none ↦ good_case side bytes (record { least = λ _. least; third = λ h. absurd (omega arith); fourth = λ h. absurd (omega arith) })
          | inr three ↦ elim (cases_eq (get_or bytes 2 0) 208) [
            | inr other ↦ bad_case side bytes NoD0 (three, least, other) (omega arith)
            | inl third ↦ elim (cases_lt (length bytes) 4) [
              | inl none ↦ good_case side bytes (record { least = λ _. least; third = λ _. third; fourth = λ h. absurd (omega arith) })
              | inr four ↦ elim (cases_Bool (is_format_of side (get_or bytes 3 0))) [
                | inl accepted ↦ good_case side bytes (record { least = λ _. least; third = λ _. third; fourth = λ _. accepted })
                | inr refused ↦ bad_case side bytes Format (four, least, third, refused) (omega arith)
              ]
            ]
          ]
        ]
      ]
    ]

-- ---- a header that is spelled

-- the first segment behind its length
abbrev pub first_part : Dss → List ℕ → List ℕ
first_part d first = 208 ∷ format_byte d ∷ (to_be_bytes w16 d.corr ++ first)

pub first_length : (d : Dss) (first : List ℕ) → 2 + length (first_part d first) ≡ 6 + length first
first_length d first = omega arith

-- what the bytes say behind a header
pub record Header (d : Dss) (size : ℕ) (bytes : List ℕ) : Type 0 where
  pub size_is : segment_size bytes ≡ size
  pub third : get_or bytes 2 0 ≡ 208
  pub fourth : get_or bytes 3 0 ≡ format_byte d
  pub corr : number_at 4 bytes ≡ d.corr
  pub long : 6 ≤ length bytes

pub header_fields : (d : Dss) (size : ℕ) (more : Bool) (rest : List ℕ) → size < 32768 → d.corr < 2 ^ 16 → Header d size (header d size more ++ rest)
header_fields d size more rest lt fits =
    let f = field_of size more (208 ∷ format_byte d ∷ (to_be_bytes w16 d.corr ++ rest)) lt in
    record { size_is = f.size; third = refl; fourth = refl; corr = number_two d.corr rest fits; long = omega arith }

pub header_passes : (side : Side) (d : Dss) (size : ℕ) (bytes : List ℕ) → IsDssOf side d → 6 ≤ size → Header d size bytes → IsHeader side bytes
header_passes side d size bytes h least b = record {
  least = λ _. omega (arith, b.size_is);
  third = λ _. b.third;
  fourth = λ _. ap (is_format_of side) b.fourth ∙ format_accepted side d h;
}
