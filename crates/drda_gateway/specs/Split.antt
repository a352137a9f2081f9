-- How a line is cut into words. Scripts and their grammar are this project's choice.
use Rattle.std.specs.Prelude.{ℕ, List, [], ◌==◌, slice_index_or}
use Rattle.std.specs.List.{slice_split}

-- Words are what stands between single spaces: two spaces, or one at the end, make an empty word.
abbrev pub words_of : List ℕ → List (List ℕ)
words_of line = slice_split (λ byte. byte == 32) line

-- a word by its place from 0, empty where there are fewer
abbrev pub word : ℕ → List (List ℕ) → List ℕ
word place words = slice_index_or words place []
