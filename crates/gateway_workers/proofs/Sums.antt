-- Lists that are gone through, with what was counted of them so far.
use Rattle.std.proofs.Common.{◌≡◌, ℕ, ◌+◌, ◌≤◌, min, Bool, true, false, ◌||◌, List, [], ◌∷◌, ◌++◌, map, length, ◌∙◌, ap, sym, refl, arith, append_assoc, sum_by}
use Rattle.std.proofs.lemmas.List.{append-nil}
use Rattle.std.proofs.lemmas.List.Sums.{sum_by-append}
use Rattle.std.specs.List.{list_any}
use Rattle.link_ends.specs.Counts.{greatest}

pub sum_first : {E : Type 0} (f : E → ℕ) (x : E) (xs : List E) → sum_by f (x ∷ xs) ≡ f x + sum_by f xs
sum_first f x xs = omega (arith, sum_by-append f (x ∷ []) xs)

or_assoc : (a b c : Bool) → ((a || b) || c) ≡ (a || (b || c))
or_assoc true b c = refl
or_assoc false b c = refl

pub or_false : (a : Bool) → (a || false) ≡ a
or_false true = refl
or_false false = refl

module _ {E : Type 0} (rest rest' : List E) (x : E) (e : rest ≡ x ∷ rest') where
  -- one item more was mapped
  pub map_step : {W : Type 0} (f : E → W) (ys ys' all : List W) → ys' ≡ ys ++ f x ∷ [] → ys ++ map f rest ≡ all → ys' ++ map f rest' ≡ all
  map_step f ys ys' all p h = ap (λ zs. zs ++ map f rest') p ∙ (append_assoc ys (f x ∷ []) (map f rest') ∙ (ap (λ zs. ys ++ map f zs) (sym e) ∙ h))

  -- one item more was added
  pub sum_step : (f : E → ℕ) (a a' all : ℕ) → a' ≡ a + f x → a + sum_by f rest ≡ all → a' + sum_by f rest' ≡ all
  sum_step f a a' all p h = let q = ap (sum_by f) e in let r = sum_first f x rest' in omega (arith, q, r)

  -- the same, up to the greatest value of a u64
  pub capped_step : (f : E → ℕ) (a a' all : ℕ) → a' ≡ min (a + f x) greatest → min (a + sum_by f rest) greatest ≡ min all greatest
      → min (a' + sum_by f rest') greatest ≡ min all greatest
  capped_step f a a' all p h = let q = ap (sum_by f) e in let r = sum_first f x rest' in omega (arith, q, r)

  pub count_step : (a a' all : ℕ) → a' ≡ a + 1 → a + length rest ≡ all → a' + length rest' ≡ all
  count_step a a' all p h = let q = ap (length {A = E}) e in omega (arith, q)

  pub any_step : (f : E → Bool) (a a' all : Bool) → a' ≡ (a || f x) → (a || list_any f rest) ≡ all → (a' || list_any f rest') ≡ all
  any_step f a a' all p h = ap (λ b. b || list_any f rest') p ∙ (or_assoc a (f x) (list_any f rest') ∙ (ap (λ zs. a || list_any f zs) (sym e) ∙ h))

module _ {E : Type 0} (rest all : List E) (e : rest ≡ all) where
  -- before the first item
  pub map_none : {W : Type 0} (f : E → W) (ys : List W) → ys ≡ [] → ys ++ map f rest ≡ map f all
  map_none f ys n = ap (λ zs. zs ++ map f rest) n ∙ ap (map f) e

  pub sum_none : (f : E → ℕ) (a : ℕ) → a ≡ 0 → a + sum_by f rest ≡ sum_by f all
  sum_none f a n = let q = ap (sum_by f) e in omega (arith, q)

  pub capped_none : (f : E → ℕ) → min (0 + sum_by f rest) greatest ≡ min (sum_by f all) greatest
  capped_none f = let q = ap (sum_by f) e in omega (arith, q)

  pub count_none : (a : ℕ) → a + length rest ≡ a + length all
  count_none a = ap (λ (zs : List E). a + length zs) e

  pub any_none : (f : E → Bool) → list_any f rest ≡ list_any f all
  any_none f = ap (list_any f) e

module _ {E : Type 0} (rest : List E) (e : rest ≡ []) where
  -- after the last
  pub any_all : (f : E → Bool) (a all : Bool) → (a || list_any f rest) ≡ all → a ≡ all
  any_all f a all h = sym (or_false a) ∙ (ap (λ zs. a || list_any f zs) (sym e) ∙ h)

  pub capped_all : (f : E → ℕ) (a all : ℕ) → a ≤ greatest → min (a + sum_by f rest) greatest ≡ min all greatest → a ≡ min all greatest
  capped_all f a all fits h = let q = ap (sum_by f) e in omega (arith, q)

  pub map_all : {W : Type 0} (f : E → W) (ys all : List W) → ys ++ map f rest ≡ all → ys ≡ all
  map_all f ys all h = sym (append-nil ys) ∙ (ap (λ zs. ys ++ map f zs) (sym e) ∙ h)
