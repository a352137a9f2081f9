-- How great the number of a key is: each digit adds one place to it.
use Rattle.std.specs.Prelude.{ℕ, ◌≡◌, ◌+◌, ◌-◌, ◌*◌, ◌^◌, ◌<◌, ◌≤◌, IsTrue, List, length}
use Rattle.std.proofs.Common.{arith}
use Rattle.std.proofs.Math.Nat.{pow-le-pow_right}
use Rattle.std.proofs.Math.ListN.{get_or}
use Rattle.std.proofs.lemmas.List.Folds.{list_all_at}
use Rattle.member_statements.specs.Statement.{is_digit, is_key}

-- a key has at most nine digits
pub key_length : (digits : List ℕ) → IsTrue (is_key digits) → length digits ≤ 9
key_length digits is = grind (arith, is)

-- a number of at most eight digits stays small with one more
pub one_digit_more : (number place count : ℕ) → number < 10 ^ place → place < count → count ≤ 9 → number * 10 + 9 < 2 ^ 32
one_digit_more number place count below before most =
    let few : place ≤ 8 = omega arith in let ten : 0 < 10 = omega arith in omega (arith, below, pow-le-pow_right {n = 10} ten few)

-- each of its bytes is a digit
pub digit_at : (digits : List ℕ) (place : ℕ) → IsTrue (is_key digits) → place < length digits → get_or digits place 0 ≤ 57
digit_at digits place is below = grind (arith, is, list_all_at is_digit digits place 0 below)
