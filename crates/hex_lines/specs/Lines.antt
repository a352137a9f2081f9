-- How a text is cut into lines, and which lines say nothing. Such texts are this project's choice.
use Rattle.std.specs.Prelude.{ℕ, List, [], ◌∷◌, ◌==◌, Bool, true, if◌then◌else◌}
use Rattle.std.specs.List.{onto_first}

-- the longest text that is read, in bytes
abbrev pub most_bytes : ℕ
most_bytes = 16777216

-- what ends a line
abbrev pub line_end : List ℕ
line_end = 10 ∷ []

-- A line ends with a line feed; the last may lack it.
abbrev pub lines_of : List ℕ → List (List ℕ)
lines_of [] = []
lines_of (byte ∷ bytes) = if byte == 10 then [] ∷ lines_of bytes else onto_first byte (lines_of bytes)

-- a line that is empty, or begins with #
abbrev pub is_skipped : List ℕ → Bool
is_skipped [] = true
is_skipped (first ∷ rest) = first == 35
