-- Bytes with a place in them, as contracts see them. No standard speaks of it: it is this project's own.
use Rattle.std.specs.Prelude.{ℕ, List, [], ◌++◌, take, drop}

-- what stands before the place, and what stands behind it
pub record Tape : Type 0 where
  pub taken : List ℕ
  pub left : List ℕ

-- nothing is taken yet
abbrev pub whole_tape : List ℕ → Tape
whole_tape bytes = record { taken = []; left = bytes }

-- these bytes are appended
abbrev pub after_append : Tape → List ℕ → Tape
after_append tape bytes = record tape { left = tape.left ++ bytes }

-- the next so many bytes are taken
abbrev pub after_take : Tape → ℕ → Tape
after_take tape count = record { taken = tape.taken ++ take count tape.left; left = drop count tape.left }
