-- What a text says as a script, or its first bad line. This grammar is this project's choice.
use Rattle.std.specs.Prelude.{ℕ, List, [], ◌∷◌, ◌+◌, nat_lt, ◌&&◌, not, Bool, if◌then◌else◌, length, Result, Ok, Err, ok_or}
use Rattle.std.specs.List.{list_all}
use Rattle.hex_lines.specs.Lines.{lines_of, is_skipped, most_bytes}
use Rattle.reply_texts.specs.Name.{is_rdb_name}
use Rattle.script_words.specs.declared.keyword.Keyword.{Keyword}
use Rattle.script_words.specs.declared.keyword.Keyword.TheVariants as keyword
use Rattle.script_reader.specs.declared.script.ScriptWhy.{ScriptWhy}
use Rattle.script_reader.specs.declared.script.ScriptWhy.TheVariants.{Word, Order, Field, Long}
use Rattle.script_words.specs.Field.{is_printable}
use Rattle.script_words.specs.Words.{word, word_count}
use Rattle.script_words.specs.Keyword.{keyword_of, fits_count}
use Rattle.script_words.specs.Stage.{stage_after, is_whole}
use Rattle.script_reader.specs.ScriptText.{ScriptText}
use Rattle.script_reader.specs.Draft.{DraftText, start, some_goes_on}
use Rattle.script_reader.specs.Header.{with_text, header_read}
use Rattle.script_reader.specs.Body.{◌>>=◌, app_read, start_read, command_added, settle_read}
use Rattle.script_reader.specs.Body.{with_event, move_read, act_read, drop_read, step_read, down_read, up_read}
use Rattle.script_reader.specs.Refusal.{Refusal}

-- what line this is, where it may have so many words
unfoldable pub words_read : List ℕ → Result Keyword ScriptWhy
words_read line = do
  keyword ← ok_or (keyword_of (word 0 line)) Word
  if fits_count keyword (word_count line) then Ok keyword else Err Word

-- the fields of a line with this first word
unfoldable pub fields_read : Keyword → DraftText → List ℕ → Result DraftText ScriptWhy
fields_read (keyword.Header kind) draft line = with_text draft (header_read kind draft.text line)
fields_read (keyword.Command kind goes_on) draft line = ok_or (command_added draft kind goes_on line) Field
fields_read keyword.App draft line = app_read draft line
fields_read keyword.Start draft line = start_read draft line
fields_read (keyword.Move kind) draft line = with_event draft (move_read kind line)
fields_read keyword.Act draft line = with_event draft (act_read line)
fields_read keyword.Drop draft line = with_event draft (drop_read line)
fields_read (keyword.Step kind) draft line = with_event draft (step_read kind line)
fields_read keyword.Down draft line = with_event draft (down_read draft.text.list.rows line)
fields_read keyword.Up draft line = with_event draft (up_read draft.text.list.rows line)
fields_read keyword.Settle draft line = ok_or (settle_read draft line) Field

-- The words are judged first, then the order of the lines, and then the fields.
unfoldable pub words_added : DraftText → List ℕ → Result DraftText ScriptWhy
words_added draft line = do
  first ← words_read line
  stage ← ok_or (stage_after draft.stage first) Order
  fields_read first (record draft { stage = stage }) line

-- Empty lines and comments are skipped, whatever bytes they have.
unfoldable pub line_added : DraftText → List ℕ → Result DraftText ScriptWhy
line_added draft line =
    if is_skipped line then Ok draft
    else (if list_all is_printable line then words_added draft line
    else Err Word)

-- what the lines after this one say, and where this one is bad its refusal
abbrev pub after_line : ℕ → Result DraftText ScriptWhy → (DraftText → Result ScriptText Refusal) → Result ScriptText Refusal
after_line number (Ok draft) rest = rest draft
after_line number (Err why) rest = Err (record { line = number; why = why })

-- the header is whole, with the name of the database, and no chain goes on
abbrev pub is_finished : DraftText → Bool
is_finished draft = is_whole draft.stage && is_rdb_name draft.text.rdb && not (some_goes_on draft.chains)

-- What the draft and these lines say, the first of which has this number. The first bad line is refused, and the line after
-- the last where the header isn't whole or a chain goes on.
unfoldable pub lines_added : ℕ → DraftText → List (List ℕ) → Result ScriptText Refusal
lines_added number draft [] = if is_finished draft then Ok draft.text else Err (record { line = number; why = Order })
lines_added number draft (line ∷ lines) = after_line number (line_added draft line) (λ next. lines_added (number + 1) next lines)

-- the script of a text, or its first bad line
unfoldable pub script_of : List ℕ → Result ScriptText Refusal
script_of text = if nat_lt most_bytes (length text) then Err (record { line = 0; why = Long }) else lines_added 1 start (lines_of text)
