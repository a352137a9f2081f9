-- Prepared statements and cursors. DRDA, volume 3, PRPSQLSTT, OPNQRY, CNTQRY, CLSQRY; that a cursor has the rows of the moment
-- when it was opened, and is fetched row by row, is this project's own.
use Rattle.std.specs.Prelude.{ℕ, Bool, true, false, if◌then◌else◌, List, [], ◌∷◌, Option, Some, None}
use Rattle.std.specs.Ordering.{nat_cmp}
use Rattle.std.specs.Map.{lookup, remove_entry}
use Rattle.std.specs.BTreeMap.{is_at, insert_entry}
use Rattle.unit_segments.specs.declared.command.Command.{Command}
use Rattle.member_statements.specs.declared.statement.Statement.{Statement}
use Rattle.member_statements.specs.declared.statement.Statement.TheVariants.{Select}
use Rattle.member_replies.specs.declared.sql_outcome.SqlOutcome.TheVariants.{Success, NotFound, NoStatement, CursorOpen, NotPrepared}
use Rattle.group_store.specs.Rows.{Rows, rows_seen}
use Rattle.group_store.specs.Unit.{CursorState, UnitState, schema_of}
use Rattle.member_replies.specs.Reply.{message, reply_data, card_said}
use Rattle.group_store.specs.Answered.{Answered, says}
use Rattle.member_replies.specs.Reply.{opnqryrm_object, qrydsc_object, qrydta_object, endqryrm_object, qrynoprm_object}
use Rattle.group_store.specs.Statement.{first_statement, is_held, section_of}

-- what a section has
abbrev pub in_section : {X : Type 0} → ℕ → List (ℕ × X) → Option X
in_section section entries = lookup (is_at (nat_cmp section)) entries

abbrev pub with_section : {X : Type 0} → ℕ → X → List (ℕ × X) → List (ℕ × X)
with_section section x entries = insert_entry nat_cmp entries section x

abbrev pub without_section : {X : Type 0} → ℕ → List (ℕ × X) → List (ℕ × X)
without_section section entries = remove_entry (is_at (nat_cmp section)) entries

-- ---- PRPSQLSTT: its first SQLSTT is the SELECT

abbrev pub is_select : Option Statement → Bool
is_select (Some Select) = true
is_select _ = false

abbrev pub prepared : UnitState → Command → UnitState
prepared unit c = record unit { prepared = with_section (section_of c) (is_held unit.typdef c) unit.prepared }

unfoldable pub prpsqlstt_answered : UnitState → Command → Answered
prpsqlstt_answered unit c =
    if is_select (first_statement unit.typdef c)
    then says (prepared unit c) (card_said Success)
    else says unit (card_said NoStatement)

-- ---- OPNQRY

-- a cursor with the rows that the unit sees now in the current schema
abbrev pub cursor_on : Rows → UnitState → Bool → CursorState
cursor_on rows unit held = record { held = held; rows = rows_seen (schema_of unit) rows unit.writes }

-- of a section that is prepared, WITH HOLD or without, and has a cursor or none
abbrev pub opens : Rows → UnitState → ℕ → Option Bool → Option CursorState → Answered
opens rows unit section None cursor = says unit (card_said NotPrepared)
opens rows unit section (Some held) (Some _) = says unit (card_said CursorOpen)
opens rows unit section (Some held) None = record {
  unit = record unit { cursors = with_section section (cursor_on rows unit held) unit.cursors };
  said = message opnqryrm_object ∷ reply_data qrydsc_object ∷ [];
}

unfoldable pub opnqry_answered : Rows → UnitState → Command → Answered
opnqry_answered rows unit c =
    opens rows unit (section_of c) (in_section (section_of c) unit.prepared) (in_section (section_of c) unit.cursors)

-- ---- CNTQRY: the next row; behind the last one the cursor is closed

abbrev pub closed : UnitState → ℕ → UnitState
closed unit section = record unit { cursors = without_section section unit.cursors }

-- the cursor's place is taken by one with the rows that are left
abbrev pub left_open : UnitState → ℕ → CursorState → UnitState
left_open unit section cursor = record unit { cursors = with_section section cursor (without_section section unit.cursors) }

abbrev pub fetched : UnitState → ℕ → Bool → List (ℕ × List ℕ) → Answered
fetched unit section held [] = record { unit = closed unit section; said = message endqryrm_object ∷ card_said NotFound ∷ [] }
fetched unit section held (row ∷ rows) =
    says (left_open unit section (record { held = held; rows = rows })) (reply_data (qrydta_object row))

abbrev pub fetches : UnitState → ℕ → Option CursorState → Answered
fetches unit section None = says unit (message qrynoprm_object)
fetches unit section (Some cursor) = fetched unit section cursor.held cursor.rows

unfoldable pub cntqry_answered : UnitState → Command → Answered
cntqry_answered unit c = fetches unit (section_of c) (in_section (section_of c) unit.cursors)

-- ---- CLSQRY

abbrev pub closes : UnitState → ℕ → Option CursorState → Answered
closes unit section None = says unit (message qrynoprm_object)
closes unit section (Some cursor) = says (closed unit section) (card_said Success)

unfoldable pub clsqry_answered : UnitState → Command → Answered
clsqry_answered unit c = closes unit (section_of c) (in_section (section_of c) unit.cursors)
