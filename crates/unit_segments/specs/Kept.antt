-- How a log of registers is kept: in a map from keys to the data of the SQLSTTs that set them, in order. No standard speaks of
-- it: this is this project's own.
use Rattle.std.specs.Prelude.{ℕ, ◌+◌, ◌≤◌, nat_eq, List, map, length}
use Rattle.std.specs.List.{AllByRecursion, IsDistinct}
use Rattle.std.specs.Map.{keys_of}
use Rattle.std.specs.Cmp.Lexicographic.{pointwise}
use Rattle.unit_segments.specs.Registers.{Register, most_registers, most_text}

abbrev pub register_of : List ℕ × List ℕ → Register
register_of entry = record { key = entry.0; statement = entry.1 }

abbrev pub registers_of : List (List ℕ × List ℕ) → List Register
registers_of entries = map register_of entries

-- how many bytes the data of a SQLSTT have at most whose texts are short enough: two texts, each behind five bytes
abbrev pub most_statement : ℕ
most_statement = most_text + 10

abbrev pub IsShort : List ℕ × List ℕ → Type 0
IsShort entry = length entry.1 ≤ most_statement

pub record IsKept (entries : List (List ℕ × List ℕ)) : Type 0 where
  pub few : length entries ≤ most_registers
  pub short : AllByRecursion IsShort entries
  pub distinct : IsDistinct (pointwise nat_eq) (keys_of entries)
