-- What each status of make says. No standard speaks of it.
use Rattle.std.specs.Prelude.{ℕ, List, ◌++◌, ◌≡◌, Some, codes}
use Rattle.link_ends.specs.Sink.{SinkState}
use Rattle.hex_lines.specs.Lines.{line_end}
use Rattle.script_maker.specs.declared.words.Asked.{Asked}
use Rattle.script_maker.specs.Asked.{asked_of}
use Rattle.script_maker.specs.Made.{made}
use Rattle.program_ends.specs.Ends.{Took, BrokeOff}

abbrev pub usage_text : List ℕ
usage_text = codes "usage: drda_gateway make SEED APPS UNITS" ++ line_end

abbrev pub script_asked : Asked → List ℕ
script_asked asked = made asked.seed asked.apps asked.units

-- the sink took the script that the words ask for
pub record WroteScript (words : List (List ℕ)) (old new : SinkState) : Type 0 where
  pub asked : Asked
  pub says : asked_of words ≡ Some asked
  pub took : Took old new (script_asked asked)

-- it took fewer bytes than that script has
pub record BegunScript (words : List (List ℕ)) (old new : SinkState) : Type 0 where
  pub asked : Asked
  pub says : asked_of words ≡ Some asked
  pub begun : BrokeOff old new (script_asked asked)
