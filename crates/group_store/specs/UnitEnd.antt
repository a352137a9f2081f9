-- The end of a unit of work. DDM, volume 3, RDBCMM, RDBRLLBCK, ENDUOWRM; DRDA, volume 3, RLSCONV, RTNSETSTT.
use Rattle.std.specs.Prelude.{ℕ, Bool, ◌&&◌, if◌then◌else◌, [], ◌∷◌, length, ◌==◌}
use Rattle.ddm_codepoints.specs.CodePoint.{rlsconv, rtnsetstt}
use Rattle.ddm_codepoints.specs.Value.{committed, rolled_back, release, return_sets}
use Rattle.access_handshake.specs.declared.stage.Stage.TheVariants.{Attached}
use Rattle.access_handshake.specs.Parameter.{parameter}
use Rattle.unit_segments.specs.declared.command.Command.{Command}
use Rattle.unit_segments.specs.Command.{data_of}
use Rattle.unit_segments.specs.Accepts.{is_data}
use Rattle.member_replies.specs.declared.sql_outcome.SqlOutcome.{SqlOutcome}
use Rattle.member_replies.specs.declared.sql_outcome.SqlOutcome.TheVariants.{Success, Conflict}
use Rattle.group_store.specs.Rows.{Rows, conflicts}
use Rattle.group_store.specs.Unit.{UnitState, nothing_at, after_commit, after_roll_back}
use Rattle.member_replies.specs.Reply.{message, card_said, ended_object, sets_said}
use Rattle.group_store.specs.Answered.{Answered}

-- ---- what is asked

abbrev pub asks_release : Command → Bool
asks_release c = is_data (release ∷ []) (parameter (data_of c.body) rlsconv)

abbrev pub asks_sets : Command → Bool
asks_sets c = is_data (return_sets ∷ []) (parameter (data_of c.body) rtnsetstt)

-- ---- what is granted and said

-- no cursor is left
abbrev pub has_no_cursor : UnitState → Bool
has_no_cursor unit = length unit.cursors == 0

-- The unit ended in this way, with this outcome. Where release is asked and no cursor is left it is granted: the conversation is
-- at Attached, where nothing is kept.
abbrev pub ends_with : ℕ → SqlOutcome → UnitState → Bool → Bool → Answered
ends_with disposition outcome unit granted sets = record {
  unit = if granted then nothing_at Attached else unit;
  said = message (ended_object disposition granted) ∷ card_said outcome ∷ (if sets then sets_said unit.typdef unit.registers else []);
}

abbrev pub ended : ℕ → SqlOutcome → UnitState → Command → Answered
ended disposition outcome unit c = ends_with disposition outcome unit (asks_release c && has_no_cursor unit) (asks_sets c)

-- ---- RDBCMM: where a place that it wrote was committed by another in between, the unit is rolled back

unfoldable pub rdbcmm_answered : Rows → UnitState → Command → Answered
rdbcmm_answered rows unit c =
    if conflicts rows unit.writes
    then ended rolled_back Conflict (after_roll_back unit) c
    else ended committed Success (after_commit unit) c

-- ---- RDBRLLBCK

unfoldable pub rdbrllbck_answered : UnitState → Command → Answered
rdbrllbck_answered unit c = ended rolled_back Success (after_roll_back unit) c
