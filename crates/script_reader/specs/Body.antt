-- What the lines of a body add. This grammar is this project's choice.
use Rattle.std.specs.Prelude.{ℕ, ◌==◌, ◌&&◌, Bool, if◌then◌else◌, List, [], Option, Some, option_map, option_and_then, Result, Ok, Err, ok_or}
use Rattle.hex_lines.specs.Hex.{bytes_of_hex}
use Rattle.server_list.specs.declared.list.ServerRow.{ServerRow}
use Rattle.gateway_setup.specs.declared.event.Event.{Event}
use Rattle.gateway_setup.specs.declared.event.Event.TheVariants as event
use Rattle.script_commands.specs.Commands.{command_bytes}
use Rattle.script_commands.specs.Start.{start_bytes}
use Rattle.script_words.specs.declared.keyword.CommandWord.{CommandWord}
use Rattle.script_words.specs.declared.keyword.MoveWord.{MoveWord}
use Rattle.script_words.specs.declared.keyword.MoveWord.TheVariants as move
use Rattle.script_words.specs.declared.keyword.StepWord.{StepWord}
use Rattle.script_words.specs.declared.keyword.StepWord.TheVariants as step
use Rattle.script_reader.specs.declared.script.Line.TheVariants as line
use Rattle.script_reader.specs.declared.script.ScriptWhy.{ScriptWhy}
use Rattle.script_reader.specs.declared.script.ScriptWhy.TheVariants.{Order, Field}
use Rattle.script_words.specs.Number.{number_of, number_within}
use Rattle.script_words.specs.Field.{is_name}
use Rattle.script_words.specs.Words.{word, word_count}
use Rattle.script_reader.specs.Weights.{listed_member}
use Rattle.script_reader.specs.Command.{command_read}
use Rattle.script_reader.specs.Draft.{DraftText, with_line, goes_on, next_number, chains_after}

infixl 10 ◌>>=◌
abbrev pub ◌>>=◌ : {A B : Type 0} → Result A ScriptWhy → (A → Result B ScriptWhy) → Result B ScriptWhy
(Ok value) >>= f = f value
(Err why) >>= f = Err why

-- an application
abbrev pub app_of : List ℕ → Option ℕ
app_of words = number_within 1 64 (word 1 words)

-- what two fields make, where both are as said
abbrev pub option_zip : {X : Type 0} → (ℕ → ℕ → X) → Option ℕ → Option ℕ → Option X
option_zip make first second = option_and_then (λ x. option_map (make x) second) first

-- how many bytes an event moves at most
abbrev pub count_of : List ℕ → Option ℕ
count_of words = number_within 1 65536 (word 2 words)

-- ---- what an application sends

-- an application whose chain doesn't go on
unfoldable pub idle_app : DraftText → List ℕ → Result ℕ ScriptWhy
idle_app draft words = do
  app ← ok_or (app_of words) Field
  if goes_on draft.chains app then Err Order else Ok app

-- the bytes that the third word spells, and none where there are but two words
unfoldable pub bytes_read : List ℕ → Option (List ℕ)
bytes_read words = if word_count words == 2 then Some [] else bytes_of_hex (word 2 words)

-- app I, app I HEX
unfoldable pub app_read : DraftText → List ℕ → Result DraftText ScriptWhy
app_read draft words = do
  app ← idle_app draft words
  bytes ← ok_or (bytes_read words) Field
  Ok (with_line draft (line.Bytes app bytes))

-- start I USER PASSWORD
unfoldable pub start_read : DraftText → List ℕ → Result DraftText ScriptWhy
start_read draft words = do
  app ← idle_app draft words
  if is_name (word 2 words) && is_name (word 3 words)
      then Ok (with_line draft (line.Bytes app (start_bytes draft.text.rdb (word 2 words) (word 3 words))))
      else Err Field

-- a command, whose chain goes on behind it or doesn't
unfoldable pub command_added : DraftText → CommandWord → Bool → List ℕ → Option DraftText
command_added draft command_word more words =
    option_and_then (λ app. option_map (λ command.
    record (with_line draft (line.Bytes app (command_bytes more command))) {
      chains = chains_after draft.chains app (next_number draft.chains app) more;
    })
    (command_read command_word (next_number draft.chains app) draft.text.rdb words))
    (app_of words)

-- ---- events

abbrev pub moved : MoveWord → ℕ → ℕ → Event
moved move.Take app n = event.Take app n
moved move.Send app n = event.Send app n
moved move.Back app n = event.Back app n
moved move.Say app n = event.Say app n

-- take I N, send I N, back I N, say I N
unfoldable pub move_read : MoveWord → List ℕ → Option Event
move_read kind words = option_zip (moved kind) (app_of words) (count_of words)

-- act T N
unfoldable pub act_read : List ℕ → Option Event
act_read words = option_zip event.Act (number_of (word 1 words)) (count_of words)

-- drop T
unfoldable pub drop_read : List ℕ → Option Event
drop_read words = option_map event.Drop (number_of (word 1 words))

abbrev pub stepped : StepWord → ℕ → Event
stepped step.End app = event.End app
stepped step.Lend app = event.Lend app
stepped step.Dial app = event.Dial app
stepped step.Cut app = event.Cut app
stepped step.Give app = event.Give app

-- end I, lend I, dial I, cut I, give I
unfoldable pub step_read : StepWord → List ℕ → Option Event
step_read kind words = option_map (stepped kind) (app_of words)

-- down M
unfoldable pub down_read : List ServerRow → List ℕ → Option Event
down_read members words = option_map event.Down (listed_member members (word 1 words))

-- up M
unfoldable pub up_read : List ServerRow → List ℕ → Option Event
up_read members words = option_map event.Up (listed_member members (word 1 words))

-- a line of the body that is this event, or whose fields aren't as said
abbrev pub with_event : DraftText → Option Event → Result DraftText ScriptWhy
with_event draft event = ok_or (option_map (λ read. with_line draft (line.Event read)) event) Field

-- settle N: at most so many events
unfoldable pub settle_read : DraftText → List ℕ → Option DraftText
settle_read draft words = option_map (λ budget. with_line draft (line.Settle budget)) (number_within 1 1000000 (word 1 words))
