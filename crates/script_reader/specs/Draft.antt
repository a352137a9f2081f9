-- What was read of a script so far, and of each application the chain that goes on. Scripts are this project's own.
use Rattle.std.specs.Prelude.{ℕ, ◌+◌, ◌-◌, ◌%◌, ◌^◌, ◌++◌, ◌∷◌, Bool, is_some, List, [], Option, Some, None, unwrap_or}
use Rattle.std.specs.Prelude.{replicate, slice_index_or, slice_set, if◌then◌else◌}
use Rattle.std.specs.List.{list_any}
use Rattle.reply_texts.specs.RdbName.{characters_of}
use Rattle.reply_texts.specs.declared.rdb_name.RdbName.{RdbName}
use Rattle.gateway_setup.specs.Sent.{nothing_sent}
use Rattle.server_list.specs.Lists.{no_rows}
use Rattle.script_reader.specs.declared.script.Line.{Line}
use Rattle.script_words.specs.declared.stage.Stage.{Stage}
use Rattle.script_words.specs.declared.stage.Stage.TheVariants.{Start}
use Rattle.script_reader.specs.ScriptText.{ScriptText}

-- The number of the next command of each application's chain that goes on, None where none does; the applications stand in
-- the order of their numbers, from 1 to 64.
pub record DraftText : Type 0 where
  pub stage : Stage
  pub text : ScriptText
  pub chains : List (Option ℕ)

-- no line was read yet
abbrev pub start : DraftText
start = record {
  stage = Start;
  text = record { rdb = []; cap = 0; list = no_rows; sent = nothing_sent; users = []; rows = []; lines = [] };
  chains = replicate 64 None;
}

-- the characters of a name, none where there is no name yet
abbrev pub name_of : Option RdbName → List ℕ
name_of None = []
name_of (Some name) = characters_of name

-- a line more in the body
abbrev pub with_line : DraftText → Line → DraftText
with_line draft line = record draft { text = record draft.text { lines = draft.text.lines ++ line ∷ [] } }

-- the chain of this application goes on
abbrev pub goes_on : List (Option ℕ) → ℕ → Bool
goes_on chains app = is_some (slice_index_or chains (app - 1) None)

-- some chain goes on
abbrev pub some_goes_on : List (Option ℕ) → Bool
some_goes_on chains = list_any is_some chains

-- the number of the next command: those of a chain are numbered from 1
abbrev pub next_number : List (Option ℕ) → ℕ → ℕ
next_number chains app = unwrap_or (slice_index_or chains (app - 1) None) 1

-- the chains after a command with this number, whose chain goes on or doesn't: numbers have two bytes, and the low ones of
-- the count are kept
abbrev pub chains_after : List (Option ℕ) → ℕ → ℕ → Bool → List (Option ℕ)
chains_after chains app number goes_on =
    slice_set chains (app - 1) (if goes_on then Some ((number + 1) % 2 ^ 16) else None)
