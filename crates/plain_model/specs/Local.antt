-- What the gateway itself answers, without a server. DDM, volume 3, EXCSAT, ACCSEC, ACCRDB, CMDNSPRM, PRCCNVRM, MGRLVLRM,
-- RDBNFNRM. Which commands these are is this project's own.
use Rattle.std.specs.Prelude.{ℕ, Bool, true, false, not, ◌==◌, ◌||◌, if◌then◌else◌, List, [], ◌∷◌, Option, Some, None, is_some, is_none}
use Rattle.dss_frame.specs.declared.dss.Dss.{Dss}
use Rattle.dss_frame.specs.declared.dss.Kind.TheVariants.{Reply, Object}
use Rattle.ddm_codepoints.specs.CodeClass.{class_of, is_command}
use Rattle.ddm_codepoints.specs.CodePoint.{excsat, accsec, accrdb}
use Rattle.reply_texts.specs.Reply.{cmdnsp_object, prccnv_object}
use Rattle.reply_texts.specs.Closing.{last}
use Rattle.access_handshake.specs.declared.excsat.ExcsatAnswer.{ExcsatAnswer}
use Rattle.access_handshake.specs.declared.excsat.ExcsatAnswer.TheVariants as excsat_is
use Rattle.access_handshake.specs.declared.accsec.AccsecAnswer.{AccsecAnswer}
use Rattle.access_handshake.specs.declared.accsec.AccsecAnswer.TheVariants as accsec_is
use Rattle.access_handshake.specs.Stage.{next_stage}
use Rattle.access_handshake.specs.Excsat.{excsat_answer}
use Rattle.access_handshake.specs.Accsec.{accsec_answer}
use Rattle.access_handshake.specs.Rdbnam.{rdbnam_answer}
use Rattle.unit_segments.specs.declared.command.Command.{Command}
use Rattle.unit_segments.specs.Command.{data_of}
use Rattle.plain_model.specs.Standing.{Standing, attached, chosen}

-- ---- one command

pub data LocalAnswer : Type 0 where
  -- a reply message, which tells an error
  Refuses : (object : List ℕ) → LocalAnswer
  -- reply data; the session stays where it stands
  Offers : (object : List ℕ) → LocalAnswer
  -- reply data; the session stands there now
  Moves : (object : List ℕ) (to : Standing) → LocalAnswer

abbrev pub to_excsat : ExcsatAnswer → LocalAnswer
to_excsat (excsat_is.Granted object) = Moves object attached
to_excsat (excsat_is.TooLow object) = Refuses object

abbrev pub to_accsec : AccsecAnswer → LocalAnswer
to_accsec (accsec_is.Chosen mechanism object) = Moves object (chosen mechanism)
to_accsec (accsec_is.Offer object) = Offers object

abbrev pub to_rdbnam : Option (List ℕ) → Option LocalAnswer
to_rdbnam None = None
to_rdbnam (Some object) = Some (Refuses object)

-- A command that the stage allows. None where a server answers it.
abbrev pub allowed_answer : List ℕ → Command → Option LocalAnswer
allowed_answer name command =
    if command.code == excsat then Some (to_excsat (excsat_answer (data_of command.body)))
    else (if command.code == accsec then Some (to_accsec (accsec_answer (data_of command.body)))
    else (if command.code == accrdb then to_rdbnam (rdbnam_answer (data_of command.body) name)
    else None))

-- what a command is answered of a session that stands so, by a gateway whose database has this name; None where a server
-- answers it
unfoldable pub local_answer : List ℕ → Standing → Command → Option LocalAnswer
local_answer name st command =
    if not (is_command (class_of command.code)) then Some (Refuses (cmdnsp_object command.code))
    else (if is_none (next_stage st.stage command.code) then Some (Refuses prccnv_object)
    else allowed_answer name command)

-- ---- a segment

abbrev pub is_local : List ℕ → Standing → List Command → Bool
is_local name st [] = false
is_local name st (command ∷ commands) = is_some (local_answer name st command)

-- what is answered to a segment, and where the session stands then
pub record Locally : Type 0 where
  pub replies : List Dss
  pub standing : Standing
  -- the session was led to the base of where it stands
  pub moved : Bool
  -- an error was told of a command after which the chain doesn't go on
  pub stopped : Bool

abbrev pub before : Dss → Bool → Locally → Locally
before d moved others = record { replies = d ∷ others.replies; standing = others.standing; moved = moved || others.moved; stopped = others.stopped }

abbrev pub locally_by : Standing → Command → Option LocalAnswer → (Standing → Locally) → Locally
locally_by st command None others = record { replies = []; standing = st; moved = false; stopped = false }
locally_by st command (Some (Refuses object)) others =
    if command.go_on
    then before (last Reply command.corr object) false (others st)
    else record { replies = last Reply command.corr object ∷ []; standing = st; moved = false; stopped = true }
locally_by st command (Some (Offers object)) others = before (last Object command.corr object) false (others st)
locally_by st command (Some (Moves object to)) others = before (last Object command.corr object) true (others to)

-- the commands of a segment in order, up to an error after which the chain doesn't go on
unfoldable pub answered_locally : List ℕ → List Command → Standing → Locally
answered_locally name [] st = record { replies = []; standing = st; moved = false; stopped = false }
answered_locally name (command ∷ commands) st =
    locally_by st command (local_answer name st command) (answered_locally name commands)
