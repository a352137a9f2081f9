-- How a line is cut into words. Words are what stands between single spaces: two spaces, or one at the end, make an empty
-- word. This project's choice.
use Rattle.std.specs.Prelude.{ℕ, zero, suc, ◌+◌, ◌==◌, Bool, List, count_by}
use Rattle.std.specs.List.{before_first, after_first, slice_split}

abbrev pub is_space : ℕ → Bool
is_space byte = byte == 32

-- what stands behind so many words of a line
abbrev pub behind : ℕ → List ℕ → List ℕ
behind zero line = line
behind (suc count) line = behind count (after_first is_space line)

-- a word by its place from 0, empty where there are fewer
abbrev pub word : ℕ → List ℕ → List ℕ
word place line = before_first is_space (behind place line)

abbrev pub word_count : List ℕ → ℕ
word_count line = count_by is_space line + 1

-- all words
abbrev pub words_of : List ℕ → List (List ℕ)
words_of line = slice_split is_space line
