-- Numbers as they are written: their bytes are digits.
use Rattle.std.proofs.Common.{◌≡◌, ℕ, zero, suc, ◌+◌, ◌<◌, ◌≤◌, ◌^◌, true, List, [], ◌∷◌, refl, ap, sym, subst, arith, inl, inr, ◌⊎◌}
use Rattle.std.proofs.Common.{Bool, false, Option, Some, None}
use Rattle.std.proofs.lemmas.Bool.{and_parts, and_from, cases_eq, true≢false, eqb-true}
use mathlib.Core.Logic.{◌≢◌}
use Rattle.std.specs.Prelude.{◌==◌}
use Rattle.std.specs.List.{list_all, range_with_len}
use Rattle.std.specs.Fmt.{decimal}
use Rattle.std.specs.Str.Parse.{AllDigits}
use Rattle.std.proofs.lemmas.Str.Parse.{digit_from_value}
use Rattle.std.proofs.lemmas.Fmt.{decimal_is_IsNumeral}

module _ (p : ℕ → Bool) where
  one_is : (a n k : ℕ) → list_all p (range_with_len (a + 1) n) ≡ true → (a + 1 ≤ k → k < (a + 1) + n → p k ≡ true) → p a ≡ true → a ≤ k → k < a + suc n
      → (a ≡ k) ⊎ (a ≢ k) → p k ≡ true
  one_is a n k all more here least most (inl e) = subst (λ i. p i ≡ true) e here
  one_is a n k all more here least most (inr l) = more (omega arith) (omega arith)

  pub one_in : (a n k : ℕ) → list_all p (range_with_len a n) ≡ true → a ≤ k → k < a + n → p k ≡ true
  one_in a zero k all least most = absurd (omega arith)
  one_in a (suc n) k all least most =
      let parts = and_parts (p a) (list_all p (range_with_len (a + 1) n)) all in
      one_is a n k parts.1 (one_in (a + 1) n k parts.1) parts.0 least most (cases_eq a k)

all_digits_pass : (p : ℕ → Bool) → list_all p (range_with_len 48 10) ≡ true → (ds : List ℕ) → AllDigits 10 ds → list_all p ds ≡ true
all_digits_pass p ten [] d = refl
all_digits_pass p ten (c ∷ cs) d =
    let k = digit_from_value c d.0 in
    and_from (p c) (list_all p cs) (one_in p 48 10 c ten (omega (arith, k)) (omega (arith, k))) (all_digits_pass p ten cs d.1)

-- what all digits pass, each written number passes
pub decimal_passes : (p : ℕ → Bool) → list_all p (range_with_len 48 10) ≡ true → (n : ℕ) → n < 2 ^ 64 → list_all p (decimal n) ≡ true
decimal_passes p ten n small = all_digits_pass p ten (decimal n) (decimal_is_IsNumeral n small).0.1

-- ---- what is tried of a number that may have been read

abbrev pub is_number : ℕ → Option ℕ → Bool
is_number number None = false
is_number number (Some other) = other == number

pub number_is : (number : ℕ) (found : Option ℕ) → is_number number found ≡ true → found ≡ Some number
number_is number None e = absurd (true≢false (sym e))
number_is number (Some other) e = ap Some (eqb-true other number e)
