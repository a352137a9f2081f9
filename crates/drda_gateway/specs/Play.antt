-- What each status of play says. No standard speaks of it.
use Rattle.std.specs.Prelude.{ℕ, List, [], ◌∷◌, ◌++◌, ◌≡◌, Result, Ok, Err, codes}
use Rattle.std.specs.Fmt.{decimal}
use Rattle.drda_gateway.specs.declared.script.ScriptWhy.{ScriptWhy}
use Rattle.drda_gateway.specs.declared.script.ScriptWhy.TheVariants.{Word, Order, Field, Long}
use Rattle.drda_gateway.specs.declared.script.ScriptFault.{ScriptFault}
use Rattle.drda_gateway.specs.declared.script.ScriptFault.TheVariants.{Refused, NoMemory}
use Rattle.link_ends.specs.Source.{SourceState}
use Rattle.link_ends.specs.Sink.{SinkState}
use Rattle.drda_gateway.specs.Refusal.{Refusal}
use Rattle.drda_gateway.specs.ScriptText.{ScriptText}
use Rattle.drda_gateway.specs.Script.{script_of}
use Rattle.program_ends.specs.Command.{WroteAll, WroteSome, WroteRefusal}
use Rattle.drda_gateway.specs.World.{world_of}
use Rattle.drda_gateway.specs.Report.{report_of}
use Rattle.hex_lines.specs.Lines.{line_end}
use Rattle.drda_gateway.specs.Dedicated.{AreDedicated}

-- the words that play is called by
abbrev pub play_words : List (List ℕ)
play_words = codes "play" ∷ []

abbrev pub usage_text : List ℕ
usage_text = codes "usage: drda_gateway play" ++ line_end

abbrev pub why_word : ScriptWhy → List ℕ
why_word Word = codes "word"
why_word Order = codes "order"
why_word Field = codes "field"
why_word Long = codes "long"

abbrev pub refusal_text : Refusal → List ℕ
refusal_text refusal = codes "script refused: line " ++ (decimal refusal.line ++ (codes " " ++ (why_word refusal.why ++ line_end)))

-- what is shown of a script: the report of its world
abbrev pub script_report : ScriptText → List ℕ
script_report script = report_of (world_of script.lines)

-- The report of the script that a text is, or why it is refused; nothing is said where memory ran out.
abbrev pub Reports : Result (List ℕ) ScriptFault → List ℕ → Type 0
Reports (Ok report) text = (script : ScriptText) × (script_of text ≡ Ok script) × (report ≡ script_report script)
Reports (Err (Refused line why)) text = script_of text ≡ Err (record { line = line; why = why })
Reports (Err NoMemory) text = Unit {0}

-- The whole report of a script was written, and each application of the script was sent what a dedicated session sends.
pub record Played (source source_now : SourceState) (sink sink_now : SinkState) : Type 0 where
  pub wrote : WroteAll script_of script_report source source_now sink sink_now
  pub dedicated : AreDedicated (world_of wrote.said.lines)

abbrev pub RefusedScript : SourceState → SourceState → SinkState → SinkState → Type 0
RefusedScript source source_now sink sink_now = WroteRefusal script_of refusal_text source source_now sink sink_now

abbrev pub BegunReport : SourceState → SourceState → SinkState → SinkState → Type 0
BegunReport source source_now sink sink_now = WroteSome script_of script_report source source_now sink sink_now
