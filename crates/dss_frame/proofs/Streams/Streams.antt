-- Spellings one after another: there is one way to see bytes so.
use Rattle.std.proofs.Common.{◌≡◌, ℕ, ◌<◌, List, [], ◌∷◌, ◌++◌, map, length, take, drop, flat_map, All, refl, sym, ap, subst, ◌∙◌, append_assoc}
use Rattle.std.proofs.Common.{append-nil, arith}
use Rattle.std.specs.List.{AllByRecursion}
use Rattle.std.proofs.lemmas.List.{length-append, append_cancel_left, take_at}
use Rattle.std.proofs.lemmas.List.Elements.{All-drop, All-same}
use Rattle.std.proofs.lemmas.List.{drop_at}
use Rattle.dss_frame.specs.declared.dss.Side.{Side}
use Rattle.dss_frame.specs.declared.dss.Dss.{Dss}
use Rattle.dss_frame.specs.declared.fault.Why.{Why}
use Rattle.dss_frame.specs.declared.segments.Extent.TheVariants.{Ends, Fails}
use Rattle.dss_frame.specs.Segments.{extent_of}
use Rattle.dss_frame.specs.Spelling.{Spells, Spelled, IsSpelled, Begins, IsStream, IsBad}
use Rattle.dss_frame.proofs.OneDss.Judging.{whole_dss, fails_within}
use Rattle.dss_frame.proofs.Pieces.Stable.{fails_append}
use Rattle.dss_frame.proofs.Spellings.OneSpelling.{spelled_read, one_spelling, bad_fails}

abbrev pub all_bytes : List Spelled → List ℕ
all_bytes spelled = flat_map (λ s. s.bytes) spelled

-- the bytes behind the front fit where all do
pub rest_fits : (front rest bytes : List ℕ) → bytes ≡ front ++ rest → All (λ byte. byte < 256) bytes → All (λ byte. byte < 256) rest
rest_fits front rest bytes e fits =
    let there = sym (drop_at front rest (length front) refl) ∙ ap (λ (xs : List ℕ). drop (length front) xs) (sym e) in
    All-same (λ byte. byte < 256) rest (drop (length front) bytes) there (All-drop (λ byte. byte < 256) (length front) bytes fits)

pub first_ends : (side : Side) (s : Spelled) (more : List ℕ) → IsSpelled side s → extent_of side (s.bytes ++ more) ≡ Ends (length s.bytes)
first_ends side s more spelled = spelled_read side s.dss s.bytes more spelled

pub some_bytes : (side : Side) (s : Spelled) → IsSpelled side s → 0 < length s.bytes
some_bytes side s spelled = let h = whole_dss side (s.bytes ++ []) (length s.bytes) (first_ends side s [] spelled) in omega (arith, h.least)

same_first : (side : Side) (s t : Spelled) (x y : List ℕ) → IsSpelled side s → IsSpelled side t → s.bytes ++ x ≡ t.bytes ++ y → (s ≡ t) × (x ≡ y)
same_first side s t x y a b same =
    let h = one_spelling side s.dss t.dss s.bytes t.bytes x y a b same in
    let one : s ≡ t = ap (λ (bytes : List ℕ). record { dss = s.dss; bytes = bytes }) h.0 ∙ ap (λ (d : Dss). record { dss = d; bytes = t.bytes }) h.1 in
    (one, append_cancel_left s.bytes x y (same ∙ ap (λ (bytes : List ℕ). bytes ++ y) (sym h.0)))

-- Of two ways to see the bytes, one goes on where the other ends.
pub data Compared (side : Side) (xs ys : List Spelled) (a b : List ℕ) : Type 0 where
  Longer : (zs : List Spelled) → AllByRecursion (IsSpelled side) zs → xs ≡ ys ++ zs → b ≡ all_bytes zs ++ a → Compared side xs ys a b
  Shorter : (z : Spelled) (zs : List Spelled) → AllByRecursion (IsSpelled side) (z ∷ zs) → ys ≡ xs ++ z ∷ zs → a ≡ all_bytes (z ∷ zs) ++ b → Compared side xs
      ys a b

pub compare : (side : Side) (xs ys : List Spelled) (a b : List ℕ) → AllByRecursion (IsSpelled side) xs → AllByRecursion (IsSpelled side) ys
    → all_bytes xs ++ a ≡ all_bytes ys ++ b → Compared side xs ys a b
compare side xs [] a b each_x each_y same = Longer xs each_x refl (sym same)
compare side [] (y ∷ ys) a b each_x each_y same = Shorter y ys each_y refl same
compare side (x ∷ xs) (y ∷ ys) a b each_x each_y same =
    let joined : x.bytes ++ (all_bytes xs ++ a) ≡ y.bytes ++ (all_bytes ys ++ b) =
    sym (append_assoc x.bytes (all_bytes xs) a) ∙ same ∙ append_assoc y.bytes (all_bytes ys) b in
    let h = same_first side x y (all_bytes xs ++ a) (all_bytes ys ++ b) each_x.0 each_y.0 joined in
    elim (compare side xs ys a b each_x.1 each_y.1 h.1) [
      | Longer zs each more rest ↦ Longer zs each (ap (λ (ss : List Spelled). x ∷ ss) more ∙ ap (λ (s : Spelled). s ∷ (ys ++ zs)) h.0) rest
      | Shorter z zs each more rest ↦ Shorter z zs each (ap (λ (ss : List Spelled). y ∷ ss) more ∙ ap (λ (s : Spelled). s ∷ (xs ++ z ∷ zs)) (sym h.0)) rest
    ]

-- where a rest begins with a spelling
pub begins_spelled : (side : Side) (z : Spelled) (zs : List Spelled) (a b : List ℕ) → IsSpelled side z → a ≡ all_bytes (z ∷ zs) ++ b
    → Spells side z.dss (take (length z.bytes) a)
begins_spelled side z zs a b spelled e =
    let joined = e ∙ append_assoc z.bytes (all_bytes zs) b in
    subst (Spells side z.dss) (sym (ap (take (length z.bytes)) joined ∙ take_at z.bytes (all_bytes zs ++ b) (length z.bytes) refl)) spelled

pub begins_ends : (side : Side) (z : Spelled) (zs : List Spelled) (a b : List ℕ) → IsSpelled side z → a ≡ all_bytes (z ∷ zs) ++ b
    → extent_of side a ≡ Ends (length z.bytes)
begins_ends side z zs a b spelled e =
    ap (extent_of side) (e ∙ append_assoc z.bytes (all_bytes zs) b) ∙ first_ends side z (all_bytes zs ++ b) spelled

-- ---- streams

longer_one : (side : Side) (zs ys : List Spelled) (a b : List ℕ) → AllByRecursion (IsSpelled side) zs
    → ((d : Dss) (count : ℕ) → Spells side d (take count b) → ⊥)
    → b ≡ all_bytes zs ++ a → (ys ++ zs ≡ ys) × (a ≡ b)
longer_one side [] ys a b each no_more e = (append-nil ys, sym e)
longer_one side (z ∷ zs) ys a b each no_more e = absurd (no_more z.dss (length z.bytes) (begins_spelled side z zs b a each.0 e))

-- the DSSs and the rest of a stream are determined by its bytes
pub one_stream : (side : Side) (ds es : List Dss) (rest other bytes : List ℕ) → IsStream side ds rest bytes → IsStream side es other bytes
    → (ds ≡ es) × (rest ≡ other)
one_stream side ds es rest other bytes s t =
    elim (compare side s.spelled t.spelled rest other s.begins.each t.begins.each (sym s.begins.all ∙ t.begins.all)) [
      | Longer zs each more e ↦
          let h = longer_one side zs t.spelled rest other each t.no_more e in
          (sym s.are ∙ ap (map (λ (x : Spelled). x.dss)) (more ∙ h.0) ∙ t.are, h.1)
      | Shorter z zs each more e ↦ absurd (s.no_more z.dss (length z.bytes) (begins_spelled side z zs rest other each.0 e))
    ]

-- whatever follows a field that is none of a DSS, the bytes aren't whole spellings
pub none_mends : (side : Side) (bytes : List ℕ) (place : ℕ) (why : Why) → All (λ byte. byte < 256) bytes → IsBad side bytes place why
    → (more : List ℕ) (spelled : List Spelled) → Begins side spelled [] (bytes ++ more) → ⊥
none_mends side bytes place why fits bad more spelled begins =
    let fails = bad_fails side bad.rest bad.offset why (rest_fits (all_bytes bad.spelled) bad.rest bytes bad.begins.all fits) bad.field in
    let within = fails_within side bad.rest bad.offset why fails in
    let same : all_bytes bad.spelled ++ (bad.rest ++ more) ≡ all_bytes spelled ++ [] =
    sym (append_assoc (all_bytes bad.spelled) bad.rest more) ∙ ap (λ (xs : List ℕ). xs ++ more) (sym bad.begins.all) ∙ begins.all in
    elim (compare side bad.spelled spelled (bad.rest ++ more) [] bad.begins.each begins.each same) [
      | Longer zs each grown e ↦
          let none : 0 ≡ length (all_bytes zs ++ (bad.rest ++ more)) = ap length e in
          absurd (omega (arith, length-append (all_bytes zs) (bad.rest ++ more), length-append bad.rest more))
      | Shorter z zs each grown e ↦
          let ends = begins_ends side z zs (bad.rest ++ more) [] each.0 e in
          let still = fails_append side bad.rest more bad.offset why fails in
          let both : Ends (length z.bytes) ≡ Fails bad.offset why = sym ends ∙ still in
          absurd (cc)
    ]
