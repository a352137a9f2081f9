-- Numbers of a script: plain decimal without leading zeros, below 2 ^ 64. They are this project's choice.
use Rattle.std.specs.Prelude.{ℕ, List, [], ◌∷◌, ◌+◌, ◌-◌, ◌*◌, ◌^◌, ◌==◌, ◌&&◌, nat_lt, nat_le, if◌then◌else◌, Option, Some, None, option_and_then}

-- one digit more, where that is a digit and the number stays below 2 ^ 64
abbrev pub digit_onto : ℕ → ℕ → Option ℕ
digit_onto number digit =
    if nat_le 48 digit && nat_le digit 57 && nat_lt (number * 10 + (digit - 48)) (2 ^ 64)
    then Some (number * 10 + (digit - 48))
    else None

abbrev pub digits_onto : ℕ → List ℕ → Option ℕ
digits_onto number [] = Some number
digits_onto number (digit ∷ digits) = option_and_then (λ more. digits_onto more digits) (digit_onto number digit)

-- 0 alone begins with the digit 0
abbrev pub number_of : List ℕ → Option ℕ
number_of [] = None
number_of (digit ∷ []) = digits_onto 0 (digit ∷ [])
number_of (digit ∷ next ∷ digits) = if digit == 48 then None else digits_onto 0 (digit ∷ next ∷ digits)

abbrev pub number_within : ℕ → ℕ → List ℕ → Option ℕ
number_within least most word =
    option_and_then (λ number. if nat_le least number && nat_le number most then Some number else None) (number_of word)
