-- The group's data, and what each command does and is answered. DDM, volume 3, the commands; DRDA, volume 3, EXCSQLSET. Which
-- commands the small member knows is this project's choice.
use Rattle.std.specs.Prelude.{ℕ, ◌==◌, Bool, not, ◌&&◌, ◌||◌, if◌then◌else◌, List, [], is_none, is_some}
use Rattle.link_ends.specs.Counts.{one_more}
use Rattle.dss_frame.specs.declared.dss.Dss.{Dss}
use Rattle.ddm_codepoints.specs.CodePoint.{excsat, accsec, secchk, accrdb, rdbcmm, rdbrllbck, excsqlimm, excsqlset, prpsqlstt, opnqry, cntqry, clsqry}
use Rattle.reply_texts.specs.Reply.{cmdnsp_object, prccnv_object}
use Rattle.access_handshake.specs.declared.access.Access.{Access}
use Rattle.access_handshake.specs.declared.stage.Stage.{Stage}
use Rattle.access_handshake.specs.declared.stage.Stage.TheVariants.{New, Attached, Chosen, Checked, Accessed}
use Rattle.access_handshake.specs.Stage.{next_stage}
use Rattle.unit_segments.specs.declared.command.Command.{Command}
use Rattle.unit_segments.specs.Command.{data_of}
use Rattle.unit_segments.specs.Registers.{Register, set_command}
use Rattle.plain_model.specs.Standing.{Standing, register_typdef}
use Rattle.plain_model.specs.Group.{Meaning}
use Rattle.group_store.specs.Rows.{Rows, Writes, conflicts, with_writes}
use Rattle.group_store.specs.Unit.{UnitState, nothing_at, checked_as, accessed_as}
use Rattle.member_replies.specs.Reply.{dsss_of}
use Rattle.group_store.specs.Answered.{Answered, refuses}
use Rattle.group_store.specs.Access.{Users, user_in, excsat_answered, accsec_answered, secchk_answered, accrdb_answered}
use Rattle.group_store.specs.Execute.{excsqlimm_answered, excsqlset_answered}
use Rattle.group_store.specs.Query.{prpsqlstt_answered, opnqry_answered, cntqry_answered, clsqry_answered}
use Rattle.group_store.specs.UnitEnd.{rdbcmm_answered, rdbrllbck_answered}

-- ---- the data that all conversations share

pub record StoreState : Type 0 where
  pub users : Users
  pub rows : Rows
  -- how many units were committed
  pub commits : ℕ

abbrev pub empty_store : StoreState
empty_store = record { users = []; rows = []; commits = 0 }

-- ---- which commands are done

abbrev pub is_known : ℕ → Bool
is_known code =
    code == excsat || code == accsec || code == secchk || code == accrdb || code == rdbcmm || code == rdbrllbck || code == excsqlimm
    || code == excsqlset || code == prpsqlstt || code == opnqry || code == cntqry || code == clsqry

-- what a command is answered that is known and that the stage allows
abbrev pub done : StoreState → UnitState → Command → Answered
done s unit c =
    if c.code == excsat then excsat_answered unit (data_of c.body)
    else (if c.code == accsec then accsec_answered unit (data_of c.body)
    else (if c.code == secchk then secchk_answered s.users unit (data_of c.body)
    else (if c.code == accrdb then accrdb_answered unit (data_of c.body)
    else (if c.code == rdbcmm then rdbcmm_answered s.rows unit c
    else (if c.code == rdbrllbck then rdbrllbck_answered unit c
    else (if c.code == excsqlimm then excsqlimm_answered s.rows s.commits unit c
    else (if c.code == excsqlset then excsqlset_answered unit c
    else (if c.code == prpsqlstt then prpsqlstt_answered unit c
    else (if c.code == opnqry then opnqry_answered s.rows unit c
    else (if c.code == cntqry then cntqry_answered unit c
    else clsqry_answered unit c))))))))))

-- One that isn't known is answered CMDNSPRM at every stage, and then one that the stage doesn't allow PRCCNVRM.
unfoldable pub answered : StoreState → UnitState → Command → Answered
answered s unit c =
    if not (is_known c.code) then refuses unit (cmdnsp_object c.code)
    else (if is_none (next_stage unit.stage c.code) then refuses unit prccnv_object
    else done s unit c)

-- ---- what it does

-- a commit is done
abbrev pub commits_now : StoreState → UnitState → Command → Bool
commits_now s unit c = c.code == rdbcmm && is_some (next_stage unit.stage c.code) && not (conflicts s.rows unit.writes)

-- all writes at once, with the number of this commit
abbrev pub with_commit : StoreState → Writes → StoreState
with_commit s writes =
    record { users = s.users; rows = with_writes (one_more s.commits) writes s.rows; commits = one_more s.commits }

unfoldable pub data_after : StoreState → UnitState → Command → StoreState
data_after s unit c = if commits_now s unit c then with_commit s unit.writes else s

unfoldable pub unit_after : StoreState → UnitState → Command → UnitState
unit_after s unit c = (answered s unit c).unit

unfoldable pub replies : StoreState → UnitState → Command → List Dss
replies s unit c = dsss_of c.corr (answered s unit c).said

-- ---- units that did nothing yet

-- nothing was said
abbrev pub fresh : UnitState
fresh = nothing_at New

-- the database was accessed, and the one command was done that sets these registers
abbrev pub with_log : UnitState → List Register → UnitState
with_log unit log = (excsqlset_answered unit (set_command log)).unit

abbrev pub base_at : Stage → Access → List Register → UnitState
base_at New access log = nothing_at Attached
base_at Attached access log = nothing_at Attached
base_at Chosen access log = nothing_at Chosen
base_at Checked access log = checked_as (user_in (data_of access.secchk))
base_at Accessed access log = with_log (accessed_as (user_in (data_of access.secchk)) (register_typdef access)) log

-- the unit of a conversation that was led to where a session stands
unfoldable pub base : Standing → UnitState
base st = base_at st.stage st.access st.log

-- ---- what the commands mean: a group of members

abbrev pub store_meaning : Meaning StoreState UnitState
store_meaning = record { fresh = fresh; base = base; data_after = data_after; unit_after = unit_after; replies = replies }
