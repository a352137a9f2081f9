-- How many bytes stand before the next cut: no more than there are, and one at least where there is one.
use Rattle.std.proofs.Common.{◌≡◌, refl, ℕ, ◌<◌, ◌≤◌, ◌-◌, min, nat_lt, if◌then◌else◌, true, false, List, [], ◌∷◌, arith}
use Rattle.std.proofs.lemmas.Bool.Decides.{nat_tests}
use Rattle.link_ends.specs.Prepared.{up_to_cut}

pub at_most : (place : ℕ) (cuts : List ℕ) (count : ℕ) → up_to_cut place cuts count ≤ count
at_most place [] count = omega arith
at_most place (cut ∷ cuts) count = elim (nat_lt place cut) as (λ b. up_to_cut place cuts (if b then min count (cut - place) else count) ≤ count) [
  | true ↦ let rest = at_most place cuts (min count (cut - place)) in omega arith
  | false ↦ at_most place cuts count
]

pub at_least_one : (place : ℕ) (cuts : List ℕ) (count : ℕ) → 0 < count → 0 < up_to_cut place cuts count
at_least_one place [] count some = some
at_least_one place (cut ∷ cuts) count some =
    elim (nat_lt place cut) as (λ b. nat_lt place cut ≡ b → 0 < up_to_cut place cuts (if b then min count (cut - place) else count)) [
      | true ↦ λ before. at_least_one place cuts (min count (cut - place)) (grind (arith, nat_tests))
      | false ↦ λ _. at_least_one place cuts count some
    ] refl
