-- What an RDB name is. DDM, volume 3, RDBNAM; that it has 1 to 18 of A to Z and 0 to 9 is this project's choice.
use Rattle.std.specs.Prelude.{ℕ, Bool, ◌&&◌, ◌||◌, List, length, nat_le}
use Rattle.std.specs.List.{list_all}

-- A to Z or 0 to 9, in ASCII
abbrev pub is_name_character : ℕ → Bool
is_name_character byte = nat_le 65 byte && nat_le byte 90 || nat_le 48 byte && nat_le byte 57

abbrev pub is_rdb_name : List ℕ → Bool
is_rdb_name name = nat_le 1 (length name) && nat_le (length name) 18 && list_all is_name_character name
