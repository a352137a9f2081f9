-- A list of known length is its elements: so what is written round such a list computes.
use Rattle.std.proofs.Common.{◌≡◌, ℕ, zero, suc, List, [], ◌∷◌, length, drop, get_or, refl, ap, arith}

-- so many elements from the front of a list
abbrev pub spread : ℕ → List ℕ → List ℕ
spread zero elements = []
spread (suc count) elements = get_or elements 0 0 ∷ spread count (drop 1 elements)

pub spread_is : (count : ℕ) (elements : List ℕ) → length elements ≡ count → spread count elements ≡ elements
spread_is zero [] e = refl
spread_is zero (first ∷ elements) e = absurd (omega (arith, e))
spread_is (suc count) [] e = absurd (omega (arith, e))
spread_is (suc count) (first ∷ elements) e = ap (λ rest. first ∷ rest) (spread_is count elements (omega (arith, e)))
