-- The special registers of the small member and how statements name them. DRDA, volume 3, EXCSQLSET; the registers CURRENT
-- SCHEMA, CURRENT DEGREE and CURRENT PATH are those of SQL, and R1 to R99 are this project's own.
use Rattle.std.specs.Prelude.{ℕ, ◌+◌, ◌/◌, ◌%◌, ◌≤◌, ◌≡◌, nat_lt, if◌then◌else◌, List, [], ◌∷◌, ◌++◌, codes}
use Rattle.member_statements.specs.declared.register.Register.{Register}
use Rattle.member_statements.specs.declared.register.Register.TheVariants.{Schema, Degree, Path, Numbered}

-- a register's number is from 1 to 99
abbrev pub IsRegister : Register → Type 0
IsRegister (Numbered number) = (1 ≤ number) × (number ≤ 99)
IsRegister _ = Unit {0}

-- a digit as a character of ASCII
abbrev pub digit : ℕ → ℕ
digit number = 48 + number

-- a number below 100 in decimal, without leading zeros
abbrev pub decimal : ℕ → List ℕ
decimal number = if nat_lt number 10 then digit number ∷ [] else digit (number / 10) ∷ digit (number % 10) ∷ []

abbrev pub register_name : Register → List ℕ
register_name Schema = codes "CURRENT SCHEMA"
register_name Degree = codes "CURRENT DEGREE"
register_name Path = codes "CURRENT PATH"
register_name (Numbered number) = codes "R" ++ decimal number

-- the statement that gives a register this value
abbrev pub set_text : Register → List ℕ → List ℕ
set_text register value = codes "SET " ++ register_name register ++ codes " = '" ++ value ++ codes "'"
