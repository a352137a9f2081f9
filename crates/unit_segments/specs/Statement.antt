-- The text of an SQL statement: DRDA, volume 3, SQLSTT, SQLATTR: a text in mixed bytes, and then one in single bytes, each of
-- which may be absent. The four bytes of a length have the high byte first: this project's choice.
use Rattle.std.specs.Prelude.{ℕ, ◌+◌, ◌==◌, nat_lt, if◌then◌else◌, List, [], ◌∷◌, length, take, drop}
use Rattle.std.specs.Prelude.{Option, Some, None, unwrap_or}
use Rattle.byteorder.specs.Endian.{big_number}

-- a text, if it is there, and the bytes after it
pub record Text : Type 0 where
  pub text : Option (List ℕ)
  pub rest : List ℕ

-- a text of this length, and the bytes after it
abbrev pub text_of : ℕ → List ℕ → Option Text
text_of count bytes =
    if nat_lt (length bytes) count then None else Some (record { text = Some (take count bytes); rest = drop count bytes })

-- behind the byte that says that a text is there: four bytes of length, and the text
abbrev pub sized_text : List ℕ → Option Text
sized_text bytes = if nat_lt (length bytes) 4 then None else text_of (big_number 4 bytes) (drop 4 bytes)

-- FF where there is none, 00 before one; None where the bytes are neither
abbrev pub text_at : List ℕ → Option Text
text_at [] = None
text_at (byte ∷ bytes) =
    if byte == 0xFF then Some (record { text = None; rest = bytes })
    else (if byte == 0 then sized_text bytes else None)

-- the text that counts, and how many bytes both texts have together
pub record Statement : Type 0 where
  pub text : List ℕ
  pub size : ℕ

abbrev pub text_or : Option (List ℕ) → List ℕ → List ℕ
text_or None other = other
text_or (Some text) other = text

-- Of two texts the one in mixed bytes counts, and where there is none the text is empty: this project's choice.
abbrev pub with_second : Option (List ℕ) → Option Text → Option Statement
with_second mixed None = None
with_second mixed (Some single) =
    if length single.rest == 0
    then Some (record {
      text = text_or mixed (unwrap_or single.text []);
      size = length (unwrap_or mixed []) + length (unwrap_or single.text []);
    })
    else None

abbrev pub with_first : Option Text → Option Statement
with_first None = None
with_first (Some mixed) = with_second mixed.text (text_at mixed.rest)

-- the statement that the data of SQLSTT or SQLATTR are: two texts, and nothing after them
unfoldable pub statement_of : List ℕ → Option Statement
statement_of bytes = with_first (text_at bytes)
