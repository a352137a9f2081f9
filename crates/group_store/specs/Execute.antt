-- Statements that are run at once. DRDA, volume 3, EXCSQLIMM, EXCSQLSET; what the statements do is this project's own.
use Rattle.std.specs.Prelude.{ℕ, if◌then◌else◌, List, [], ◌∷◌, is_some, Option, Some, None}
use Rattle.std.specs.List.{list_any}
use Rattle.std.specs.BTreeMap.{insert_entry}
use Rattle.ddm_codepoints.specs.declared.typdef.TypDef.{TypDef}
use Rattle.ddm_codepoints.specs.CodePoint.{sqlstt}
use Rattle.unit_segments.specs.declared.command.Command.{Command}
use Rattle.member_statements.specs.declared.register.Register.{Register}
use Rattle.member_statements.specs.declared.statement.Statement.{Statement}
use Rattle.member_statements.specs.declared.statement.Statement.TheVariants.{Insert, Update, Delete, Set}
use Rattle.group_store.specs.declared.rows.Place.{Place}
use Rattle.member_replies.specs.declared.sql_outcome.SqlOutcome.{SqlOutcome}
use Rattle.member_replies.specs.declared.sql_outcome.SqlOutcome.TheVariants.{Success, NotFound, NoStatement, Duplicate}
use Rattle.group_store.specs.Rows.{Rows, seen_at, with_write}
use Rattle.group_store.specs.Unit.{Registers, register_order, UnitState, schema_of}
use Rattle.member_replies.specs.Reply.{card_said}
use Rattle.group_store.specs.Answered.{Answered, says}
use Rattle.group_store.specs.Statement.{is_object_with, data_with, statement_in, first_statement}

-- ---- statements on rows: commits is the number of commits that are done

-- the row with this key in the current schema
abbrev pub place_in : UnitState → ℕ → Place
place_in unit key = record { schema = schema_of unit; key = key }

-- the row as the unit sees it
abbrev pub sees : Rows → UnitState → ℕ → Option (List ℕ)
sees rows unit key = seen_at (place_in unit key) rows unit.writes

-- the unit writes this text, or that the row goes
abbrev pub writes : ℕ → UnitState → ℕ → Option (List ℕ) → UnitState
writes commits unit key text = record unit { writes = with_write commits (place_in unit key) text unit.writes }

-- a row that isn't there yet
abbrev pub inserted : Rows → ℕ → UnitState → ℕ → List ℕ → Answered
inserted rows commits unit key text =
    if is_some (sees rows unit key)
    then says unit (card_said Duplicate)
    else says (writes commits unit key (Some text)) (card_said Success)

-- a row that is there is written, or goes
abbrev pub replaced : Rows → ℕ → UnitState → ℕ → Option (List ℕ) → Answered
replaced rows commits unit key text =
    if is_some (sees rows unit key)
    then says (writes commits unit key text) (card_said Success)
    else says unit (card_said NotFound)

-- ---- registers

abbrev pub with_value : Register → List ℕ → Registers → Registers
with_value register value registers = insert_entry register_order registers register value

-- the registers after SET statements, and the outcome of the first that isn't one, where they stop
pub record AfterSets : Type 0 where
  pub registers : Registers
  pub outcome : SqlOutcome

abbrev pub set_by : Option Statement → Registers → (Registers → AfterSets) → AfterSets
set_by (Some (Set register value)) registers others = others (with_value register value registers)
set_by _ registers others = record { registers = registers; outcome = NoStatement }

-- the SQLSTTs with these data, in order
abbrev pub after_sets : TypDef → List (List ℕ) → Registers → AfterSets
after_sets typdef [] registers = record { registers = registers; outcome = Success }
after_sets typdef (bytes ∷ sets) registers = set_by (statement_in typdef bytes) registers (after_sets typdef sets)

-- ---- EXCSQLIMM: its first SQLSTT is any statement but a SELECT

abbrev pub statement_done : Rows → ℕ → UnitState → Option Statement → Answered
statement_done rows commits unit (Some (Insert key text)) = inserted rows commits unit key text
statement_done rows commits unit (Some (Update key text)) = replaced rows commits unit key (Some text)
statement_done rows commits unit (Some (Delete key)) = replaced rows commits unit key None
statement_done rows commits unit (Some (Set register value)) =
    says (record unit { registers = with_value register value unit.registers }) (card_said Success)
statement_done rows commits unit _ = says unit (card_said NoStatement)

unfoldable pub excsqlimm_answered : Rows → ℕ → UnitState → Command → Answered
excsqlimm_answered rows commits unit c = statement_done rows commits unit (first_statement unit.typdef c)

-- ---- EXCSQLSET: its SQLSTTs are SET statements

abbrev pub with_sets : UnitState → AfterSets → Answered
with_sets unit after = says (record unit { registers = after.registers }) (card_said after.outcome)

-- one at least
unfoldable pub excsqlset_answered : UnitState → Command → Answered
excsqlset_answered unit c =
    if list_any (is_object_with sqlstt) c.objects
    then with_sets unit (after_sets unit.typdef (data_with sqlstt c.objects) unit.registers)
    else says unit (card_said NoStatement)
