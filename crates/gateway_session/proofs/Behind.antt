-- Bytes behind a place.
use Rattle.std.proofs.Common.{◌≡◌, ◌≤◌, ◌<◌, ℕ, zero, suc, ◌+◌, List, length, drop, refl, sym, arith, length-drop, drop-drop}

pub fits_behind : (said n : ℕ) (xs : List ℕ) → said < length xs → n ≤ length (drop said xs) → said + n ≤ length xs
fits_behind said n xs before few = omega (arith, length-drop said xs)

pub behind : (said n : ℕ) (xs : List ℕ) → drop (said + n) xs ≡ drop n (drop said xs)
behind said n xs = sym (drop-drop n said xs)

pub at_end : (said n : ℕ) (xs : List ℕ) → length xs ≤ said → n ≤ length (drop said xs) → drop said xs ≡ drop n (drop said xs)
at_end said zero xs past few = refl
at_end said (suc n) xs past few = absurd (omega (arith, length-drop said xs))
