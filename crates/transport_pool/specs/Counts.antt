-- Counts that stand still at the greatest value of a u64: this project's own.
use Rattle.std.specs.Prelude.{ℕ, ◌+◌, min}

abbrev pub rose : ℕ → ℕ
rose count = min (count + 1) 18446744073709551615
