-- The commands that an application of a script sends: DDM, volume 3. Each SQLSTT and SQLATTR stands in an object DSS of its
-- own: this project's choice.
use Rattle.std.specs.Prelude.{ℕ, Bool, false, List, [], ◌∷◌, if◌then◌else◌}
use Rattle.std.specs.List.{flat_map}
use Rattle.dss_frame.specs.Dss.{canonical}
use Rattle.ddm_objects.specs.Objects.{canonical_object}
use Rattle.ddm_codepoints.specs.CodePoint.{prpsqlstt}
use Rattle.unit_segments.specs.declared.command.Command.{Command}
use Rattle.unit_segments.specs.Spelling.{command_dsss}
use Rattle.script_commands.specs.Objects.{sqlstt_object, held_object, section_object}

-- a command with this number, whose chain doesn't go on after an error
abbrev pub command : ℕ → ℕ → List ℕ → List (List ℕ) → Command
command code corr parameters objects = record {
  code = code;
  corr = corr;
  go_on = false;
  at = 0;
  body = canonical_object code parameters;
  objects = objects;
}

-- EXCSQLIMM or EXCSQLSET with a statement
abbrev pub statement_command : ℕ → ℕ → List ℕ → Command
statement_command code corr text = command code corr [] (sqlstt_object text ∷ [])

-- the objects of PRPSQLSTT: SQLATTR comes before SQLSTT
abbrev pub prepared_objects : Bool → List ℕ → List (List ℕ)
prepared_objects hold text = if hold then held_object ∷ sqlstt_object text ∷ [] else sqlstt_object text ∷ []

-- PRPSQLSTT of a section
abbrev pub prepare_command : ℕ → List ℕ → ℕ → Bool → List ℕ → Command
prepare_command corr rdb section hold text = command prpsqlstt corr (section_object rdb section) (prepared_objects hold text)

-- OPNQRY, CNTQRY or CLSQRY of a section
abbrev pub section_command : ℕ → ℕ → List ℕ → ℕ → Command
section_command code corr rdb section = command code corr (section_object rdb section) []

-- RDBCMM or RDBRLLBCK
abbrev pub unit_end_command : ℕ → ℕ → Command
unit_end_command code corr = command code corr [] []

-- The bytes of a command, which others of its chain follow or don't. That a DSS is written in its canonical spelling is this
-- project's choice.
unfoldable pub command_bytes : Bool → Command → List ℕ
command_bytes followed c = flat_map canonical (command_dsss followed c)
