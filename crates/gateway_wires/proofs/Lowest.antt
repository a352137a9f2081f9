-- The lowest number in several sets, found one set after another.
use Rattle.std.proofs.Common.{◌≡◌, ◌<◌, ◌≤◌, ◌+◌, ℕ, zero, suc, Bool, true, false, if◌then◌else◌, List, [], ◌∷◌, length, Option, Some}
use Rattle.std.proofs.Common.{None, refl, ap, ◌∙◌, arith}
use Rattle.std.specs.Prelude.{nat_lt, slice_get, IfSome}
use Rattle.std.specs.Option.{IsSome, option_copied}
use Rattle.std.specs.Borrow.{Bor}
use Rattle.std.specs.BTreeSet.{BTreeSet, contains, IsLowerBound}
use Rattle.std.proofs.lemmas.Map.Keys.{le_from_not_gt}
use Rattle.std.specs.Ordering.{nat_cmp}
use Rattle.std.proofs.lemmas.Bool.{false≢true}
use Rattle.std.proofs.lemmas.Bool.Decides.{nat_tests}
use Rattle.plain_model.proofs.Puts.{by_equal}
use Rattle.gateway_wires.specs.Inside.{is_in, is_in_set, lower, IsLowest}
use Rattle.gateway_wires.proofs.Falling.{empty_of}

-- of the sets of the first members
abbrev pub IsLowestIn : ℕ → List (BTreeSet ℕ) → Option ℕ → Type 0
IsLowestIn count flying None = (member number : ℕ) → member < count → is_in flying member number ≡ false
IsLowestIn count flying (Some lowest) =
    ((member : ℕ) × (is_in flying member lowest ≡ true))
    × ((member number : ℕ) → member < count → number < lowest → is_in flying member number ≡ false)

-- of one set
abbrev pub IsFirstOf : BTreeSet ℕ → Option ℕ → Type 0
IsFirstOf numbers None = (number : ℕ) → contains nat_cmp numbers number ≡ false
IsFirstOf numbers (Some first) = (contains nat_cmp numbers first ≡ true) × ((number : ℕ) → number < first → contains nat_cmp numbers number ≡ false)

no_keys : (keys : List ℕ) → (0 < length keys → false ≡ true) → keys ≡ []
no_keys [] there = refl
no_keys (key ∷ keys) there = absurd (false≢true (there (omega arith)))

-- what the set tells as its first number
pub first_is : (numbers : BTreeSet ℕ) (first : Option (Bor ℕ)) → (0 < length numbers.keys → IsSome first)
    → IfSome first (λ k. contains nat_cmp numbers k.now ≡ true) → IfSome first (λ k. IsLowerBound nat_cmp numbers k.now)
    → IsFirstOf numbers (option_copied first)
first_is numbers None there member least = λ number. empty_of numbers (no_keys numbers.keys there) number
first_is numbers (Some k) there member least = (member, λ number lt. off number lt (contains nat_cmp numbers number) refl)
  where
    off : (number : ℕ) → number < k.now → (b : Bool) → contains nat_cmp numbers number ≡ b → contains nat_cmp numbers number ≡ false
    off number lt true e = let le = le_from_not_gt k.now number (least number e) in absurd (omega (arith, le, lt))
    off number lt false e = e

pub lowest_none : (flying : List (BTreeSet ℕ)) → IsLowestIn 0 flying None
lowest_none flying member number lt = absurd (omega arith)

module _ (flying : List (BTreeSet ℕ)) (count : ℕ) (numbers : BTreeSet ℕ) (there : slice_get flying count ≡ Some numbers) where
  here : (number : ℕ) → is_in flying count number ≡ contains nat_cmp numbers number
  here number = ap (λ (o : Option (BTreeSet ℕ)). is_in_set o number) there

  -- one of the sets before, or this one
  off : (member number : ℕ) → member < count + 1 → (member < count → is_in flying member number ≡ false) → contains nat_cmp numbers number ≡ false
      → is_in flying member number ≡ false
  off member number lt before this = by_equal member count
      (λ e. ap (λ (m : ℕ). is_in flying m number) e ∙ here number ∙ this)
      (λ ne. before (omega (arith, lt, ne)))

  pub lowest_next : (low first : Option ℕ) → IsLowestIn count flying low → IsFirstOf numbers first → IsLowestIn (count + 1) flying (lower low first)
  lowest_next None None before this = λ member number lt. off member number lt (before member number) (this number)
  lowest_next None (Some first) before this =
      ((count, here first ∙ this.0), λ member number lt below. off member number lt (before member number) (this.1 number below))
  lowest_next (Some low) None before this =
      (before.0, λ member number lt below. off member number lt (λ earlier. before.1 member number earlier below) (this number))
  lowest_next (Some low) (Some first) before this = go (nat_lt first low) refl
    where
      go : (b : Bool) → nat_lt first low ≡ b → IsLowestIn (count + 1) flying (if b then Some first else Some low)
      go true e = (
        (count, here first ∙ this.0),
        λ member number lt below.
            let less : first < low = grind (arith, nat_tests) in
            off member number lt (λ earlier. before.1 member number earlier (omega (arith, below, less))) (this.1 number below),
      )
      go false e = (
        before.0,
        λ member number lt below.
            let most : low ≤ first = grind (arith, nat_tests) in
            off member number lt (λ earlier. before.1 member number earlier below) (this.1 number (omega (arith, below, most))),
      )

beyond : (flying : List (BTreeSet ℕ)) (member number : ℕ) → length flying ≤ member → is_in flying member number ≡ false
beyond [] member number le = refl
beyond (s ∷ flying) zero number le = absurd (omega arith)
beyond (s ∷ flying) (suc member) number le = beyond flying member number (omega (arith, le))

-- of all of them
pub lowest_of_all : (flying : List (BTreeSet ℕ)) (count : ℕ) (low : Option ℕ) → length flying ≤ count → IsLowestIn count flying low → IsLowest flying low
lowest_of_all flying count None all low = λ member number. within member number (nat_lt member count) refl
  where
    within : (member number : ℕ) (b : Bool) → nat_lt member count ≡ b → is_in flying member number ≡ false
    within member number true e = low member number (grind (arith, nat_tests))
    within member number false e = beyond flying member number (grind (arith, nat_tests))
lowest_of_all flying count (Some lowest) all low = (low.0, λ member number below. within member number below (nat_lt member count) refl)
  where
    within : (member number : ℕ) → number < lowest → (b : Bool) → nat_lt member count ≡ b → is_in flying member number ≡ false
    within member number below true e = low.1 member number (grind (arith, nat_tests)) below
    within member number below false e = beyond flying member number (grind (arith, nat_tests))
