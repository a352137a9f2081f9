-- Bytes behind a place.
use Rattle.std.proofs.Common.{◌≡◌, ◌≤◌, ℕ, ◌+◌, List, ◌++◌, [], length, drop, sym, arith, length-drop}
use Rattle.std.proofs.lemmas.List.{drop-drop, drop-append-le, drop_all, length-append}

pub place_within : (place count : ℕ) (bytes : List ℕ) → place ≤ length bytes → count ≤ length (drop place bytes) → place + count ≤ length bytes
place_within place count bytes within few = omega (arith, length-drop place bytes)

-- some of them were passed
pub drop_passed : (place count : ℕ) (bytes : List ℕ) → drop (place + count) bytes ≡ drop count (drop place bytes)
drop_passed place count bytes = sym (drop-drop count place bytes)

-- there are more
pub drop_joined : (place : ℕ) (bytes more : List ℕ) → place ≤ length bytes → drop place (bytes ++ more) ≡ drop place bytes ++ more
drop_joined place bytes more within = drop-append-le place bytes more within

pub within_joined : (place : ℕ) (bytes more : List ℕ) → place ≤ length bytes → place ≤ length (bytes ++ more)
within_joined place bytes more within = omega (arith, length-append bytes more)

-- there are none
pub drop_past : (place : ℕ) (bytes : List ℕ) → length bytes ≤ place → [] ≡ drop place bytes
drop_past place bytes past = sym (drop_all place bytes past)
