-- Tests of lines and words. They are this project's choice.
use Rattle.std.specs.Prelude.{ℕ, List, ◌&&◌, ◌||◌, nat_le, length, Bool}
use Rattle.std.specs.List.{list_all}

-- printable ASCII
abbrev pub is_printable : ℕ → Bool
is_printable byte = nat_le 32 byte && nat_le byte 126

-- A to Z, 0 to 9
abbrev pub is_name_byte : ℕ → Bool
is_name_byte byte = (nat_le 65 byte && nat_le byte 90) || (nat_le 48 byte && nat_le byte 57)

-- 1 to most such bytes
abbrev pub is_name : ℕ → List ℕ → Bool
is_name most word = nat_le 1 (length word) && nat_le (length word) most && list_all is_name_byte word
