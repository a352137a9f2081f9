-- What a text says as a script, or its first bad line. This grammar is this project's choice.
use Rattle.std.specs.Prelude.{ℕ, List, [], ◌∷◌, ◌+◌, nat_lt, if◌then◌else◌, length, Result, Ok, Err, ok_or}
use Rattle.std.specs.List.{list_all}
use Rattle.drda_gateway.specs.declared.script.ScriptWhy.{ScriptWhy}
use Rattle.drda_gateway.specs.declared.script.ScriptWhy.TheVariants.{Word, Order, Field, Long}
use Rattle.drda_gateway.specs.declared.script.draft.Draft.{Draft}
use Rattle.drda_gateway.specs.declared.script.draft.Stage.TheVariants.{Start}
use Rattle.drda_gateway.specs.Content.{fields_read}
use Rattle.drda_gateway.specs.Field.{is_printable}
use Rattle.drda_gateway.specs.Keyword.{keyword_of, stage_after, is_whole}
use Rattle.drda_gateway.specs.Refusal.{Refusal}
use Rattle.drda_gateway.specs.ScriptText.{ScriptText, empty_text}
use Rattle.drda_gateway.specs.Split.{words_of, word}
use Rattle.hex_lines.specs.Lines.{lines_of, is_skipped, most_bytes}

infixl 10 ◌>>=◌
abbrev pub ◌>>=◌ : {A B : Type 0} → Result A ScriptWhy → (A → Result B ScriptWhy) → Result B ScriptWhy
(Ok value) >>= f = f value
(Err why) >>= f = Err why

-- no line was read yet
abbrev pub start : Draft
start = record { stage = Start; script = empty_text }

-- The words are judged first, then the order of the lines, and then the fields.
unfoldable pub words_added : Draft → List (List ℕ) → Result Draft ScriptWhy
words_added draft words = do
  keyword ← ok_or (keyword_of words) Word
  stage ← ok_or (stage_after draft.stage keyword) Order
  text ← ok_or (fields_read keyword draft.script (length words) (word 1 words) (word 2 words)) Field
  Ok (record { stage = stage; script = text })

-- Empty lines and comments are skipped, whatever bytes they have.
unfoldable pub line_added : Draft → List ℕ → Result Draft ScriptWhy
line_added draft line =
    if is_skipped line then Ok draft
    else (if list_all is_printable line then words_added draft (words_of line)
    else Err Word)

-- what the lines after this one say, and where this one is bad its refusal
abbrev pub after_line : ℕ → Result Draft ScriptWhy → (Draft → Result ScriptText Refusal) → Result ScriptText Refusal
after_line number (Ok draft) rest = rest draft
after_line number (Err why) rest = Err (record { line = number; why = why })

-- What the draft and these lines say, the first of which has this number. The first bad line is refused,
-- and the line after the last where the header isn't whole.
unfoldable pub lines_added : ℕ → Draft → List (List ℕ) → Result ScriptText Refusal
lines_added number draft [] = if is_whole draft.stage then Ok draft.script else Err (record { line = number; why = Order })
lines_added number draft (line ∷ lines) = after_line number (line_added draft line) (λ next. lines_added (number + 1) next lines)

-- the script of a text, or its first bad line
unfoldable pub script_of : List ℕ → Result ScriptText Refusal
script_of text = if nat_lt most_bytes (length text) then Err (record { line = 0; why = Long }) else lines_added 1 start (lines_of text)
