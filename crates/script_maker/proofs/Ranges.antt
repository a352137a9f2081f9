-- Ranges of numbers that grow by one, what is written for each of their numbers, and one draw more.
use Rattle.std.proofs.Common.{◌≡◌, ℕ, zero, suc, ◌+◌, List, [], ◌∷◌, ◌++◌, ap, sym, ◌∙◌, arith}
use Rattle.std.specs.List.{flat_map, range_with_len}
use Rattle.std.proofs.lemmas.List.{flat_map_more}
use Rattle.script_maker.specs.Draw.{drawn, after_draws}

next_number : (n : ℕ) → suc n + 1 ≡ suc (n + 1)
next_number n = omega arith

last_number : (a n : ℕ) → (a + 1) + n ≡ a + suc n
last_number a n = omega arith

first_number : (a : ℕ) → a ≡ a + 0
first_number a = omega arith

-- one number more
range_more : (a n : ℕ) → range_with_len a (n + 1) ≡ range_with_len a n ++ (a + n) ∷ []
range_more a zero = ap (λ k. k ∷ []) (first_number a)
range_more a (suc n) =
    ap (range_with_len a) (next_number n)
    ∙ ap (λ ks. a ∷ ks) (range_more (a + 1) n ∙ ap (λ k. range_with_len (a + 1) n ++ k ∷ []) (last_number a n))

-- what is written for one number more
pub written_more : (f : ℕ → List ℕ) (front : List ℕ) (a n k : ℕ) → a + n ≡ k →
    (front ++ flat_map f (range_with_len a n)) ++ f k ≡ front ++ flat_map f (range_with_len a (n + 1))
written_more f front a n k e =
    ap (λ j. (front ++ flat_map f (range_with_len a n)) ++ f j) (sym e)
    ∙ flat_map_more f front (range_with_len a n) (a + n)
    ∙ ap (λ ks. front ++ flat_map f ks) (sym (range_more a n))

-- one draw more
pub draws_more : (n seed : ℕ) → after_draws (n + 1) seed ≡ drawn (after_draws n seed)
draws_more n seed = let e : n + 1 ≡ suc n = omega arith in ap (λ k. after_draws k seed) e
