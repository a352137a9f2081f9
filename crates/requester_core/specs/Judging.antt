-- Whether the reply to a round gives access or refuses it: DDM, volume 3, EXCSATRD, ACCSECRD, SECCHKRM, ACCRDBRM, SQLCARD. What each
-- reply has to be stands in Accepts.antt of unit_segments; that it is judged when the reply to the chain is whole is this project's own.
use Rattle.std.specs.Prelude.{ℕ, Bool, ◌==◌, not, ◌||◌, is_some, if◌then◌else◌, List}
use Rattle.std.specs.Prelude.{[], ◌∷◌, find, Option, Some, None, option_and_then, unwrap_or}
use Rattle.std.specs.List.{list_all}
use Rattle.dss_frame.specs.declared.dss.Dss.{Dss}
use Rattle.ddm_codepoints.specs.declared.typdef.TypDef.{TypDef}
use Rattle.ddm_codepoints.specs.CodePoint.{accrdbrm, secchk, accrdb}
use Rattle.access_handshake.specs.declared.accepted.Accepted.{Accepted}
use Rattle.access_handshake.specs.declared.stage.Stage.{Stage}
use Rattle.access_handshake.specs.declared.stage.Stage.TheVariants.{Attached, Checked, Accessed}
use Rattle.access_handshake.specs.Accepted.{accepted_of}
use Rattle.access_handshake.specs.Stage.{next_stage}
use Rattle.unit_segments.specs.declared.command.Command.{Command}
use Rattle.unit_segments.specs.declared.stripped.Stripped.{Stripped}
use Rattle.unit_segments.specs.Command.{data_of}
use Rattle.unit_segments.specs.Strip.{is_object_of, replies_to, is_granted, stripped}
use Rattle.unit_segments.specs.Accepts.{accepts, are_readable, sets_only, gives_admission, has_accrdbrm}
use Rattle.requester_core.specs.declared.round.Round.{Round}
use Rattle.requester_core.specs.declared.round.Round.TheVariants as round

-- ---- the type definition

abbrev pub typdef_in : Option Accepted → TypDef → TypDef
typdef_in None typ = typ
typdef_in (Some accepted) typ = accepted.typdef

-- what ACCRDBRM tells of its sender's data, or this where it isn't among these replies: DDM, volume 3, ACCRDBRM, TYPDEFNAM
abbrev pub told_typdef : TypDef → List Dss → TypDef
told_typdef typ replies = typdef_in (option_and_then (λ d. accepted_of (data_of d.body)) (find (is_object_of accrdbrm) replies)) typ

-- ---- the reply to a round

-- the reply, where there is just one
abbrev pub only_of : List Dss → Option Dss
only_of (d ∷ []) = Some d
only_of _ = None

-- it says what it has to, where it is ACCRDBRM
abbrev pub is_readable : Dss → Bool
is_readable d = not (is_object_of accrdbrm d) || is_some (accepted_of (data_of d.body))

-- each command of access, by the replies that have its number
abbrev pub give : TypDef → ℕ → List Command → List Dss → Bool
give typ mechanism commands replies = list_all (λ command. accepts typ mechanism command.code (replies_to command.corr replies)) commands

-- Access isn't refused: by a chain of access, by what runs again, or by an ACCRDBRM that can't be read in the reply to a segment.
abbrev pub admits : TypDef → ℕ → Round → List Dss → Bool
admits typ mechanism (round.Access commands) replies = give (told_typdef typ replies) mechanism commands replies
admits typ mechanism (round.Again commands) replies = sets_only typ commands replies
admits typ mechanism (round.Work segment) replies = are_readable replies

-- ---- where the conversation stands then

-- these commands succeeded: DDM, volume 3, EXCSAT, ACCSEC, SECCHK, ACCRDB
abbrev pub led_by : List Command → Stage → Stage
led_by [] stage = stage
led_by (command ∷ commands) stage = led_by commands (unwrap_or (next_stage stage command.code) stage)

-- A segment was answered: of SECCHK and ACCRDB their replies say where it leads, and a server that released the conversation at the end
-- of a unit of work keeps nothing of it. DDM, volume 3, SECCHKRM, ACCRDBRM; DRDA, volume 3, RLSCONV.
abbrev pub answered_stage : List Command → List Dss → Stage → Stage
answered_stage [] replies stage = stage
answered_stage (command ∷ commands) replies stage =
    if command.code == secchk then (if gives_admission replies then Checked else Attached)
    else (if command.code == accrdb then (if has_accrdbrm replies then Accessed else stage)
    else (if is_granted (command ∷ commands) replies then Attached else stage))

abbrev pub stage_after : Round → List Dss → Stage → Stage
stage_after (round.Access commands) replies stage = led_by commands stage
stage_after (round.Again commands) replies stage = led_by commands stage
stage_after (round.Work segment) replies stage = answered_stage segment replies stage

-- what the reply comes to, where the round was the segment in work
abbrev pub stripped_by : Round → List Dss → Option Stripped
stripped_by (round.Access commands) replies = None
stripped_by (round.Again commands) replies = None
stripped_by (round.Work segment) replies = Some (stripped segment replies)
