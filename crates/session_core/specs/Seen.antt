-- What code has for the parts of a session, as the plain model has them. No standard speaks of it: this is this project's own.
use Rattle.std.specs.Prelude.{◌==◌, ◌||◌, Bool, true, false, if◌then◌else◌, List, [], ◌∷◌, ◌++◌, Option, Some, None}
use Rattle.dss_frame.specs.declared.dss.Dss.{Dss}
use Rattle.ddm_codepoints.specs.CodePoint.{secchk, accrdb}
use Rattle.unit_segments.specs.declared.command.Command.{Command}
use Rattle.unit_segments.specs.declared.stripped.Stripped.{Stripped}
use Rattle.requester_core.specs.declared.lost.Owed.{Owed as OwedError}
use Rattle.requester_core.specs.declared.lost.Owed.TheVariants as owed_error
use Rattle.unit_segments.specs.Spelling.{join}
use Rattle.plain_model.specs.Core.{Core, After, Owed, Nothing, Rerouted, Unknown, LimitKind, End, first}
use Rattle.plain_model.specs.Core as core
use Rattle.plain_model.specs.Standing.{Standing, after_secchk, after_accrdb}
use Rattle.plain_model.specs.Group.{told_typdef}
use Rattle.plain_model.specs.Answered.{joins_again, left_after}
use Rattle.session_core.specs.declared.end.LimitKind.{LimitKind as Kind}
use Rattle.session_core.specs.declared.end.LimitKind.TheVariants as kind
use Rattle.session_core.specs.declared.end.CoreEnd.{CoreEnd}
use Rattle.session_core.specs.declared.end.CoreEnd.TheVariants as core_end

abbrev pub seen_owed : Option OwedError → Owed
seen_owed None = Nothing
seen_owed (Some owed_error.Rerouted) = Rerouted
seen_owed (Some owed_error.Unknown) = Unknown

abbrev pub seen_kind : Kind → LimitKind
seen_kind kind.Request = core.Request
seen_kind kind.Reply = core.Reply
seen_kind kind.Registers = core.Registers
seen_kind kind.Set = core.Set
seen_kind kind.Numbers = core.Numbers

abbrev pub seen_end : CoreEnd → End
seen_end core_end.AppEnded = core.AppEnded
seen_end core_end.AppFault = core.AppFault
seen_end (core_end.Refused place) = core.Refused place
seen_end core_end.NoMember = core.NoMember
seen_end (core_end.Limit which) = core.Limit (seen_kind which)

-- The number of the unit in work is counted by the plain model alone: nothing that a session does depends on it.
abbrev pub unnumbered : Core → Core
unnumbered k = record k { unit = 0 }

-- the session ends, and the replies that are kept are its last
abbrev pub ends_kept : End → Core → After
ends_kept end k = record { core = record k { kept = []; end = Some end }; said = join k.kept; moved = false }

-- ---- the parts of an answer

-- Whether replies to these commands lead the session by its access alone, and by no unit of work: DDM, volume 3, SECCHK, ACCRDB.
abbrev pub stands_by_access : List Command → Bool
stands_by_access [] = true
stands_by_access (command ∷ commands) = command.code == secchk || command.code == accrdb

-- a command of access that its server answered
abbrev pub standing_by_access : Standing → List Command → List Dss → Standing
standing_by_access st [] replies = st
standing_by_access st (command ∷ commands) replies =
    if command.code == secchk then after_secchk st command replies
    else (if command.code == accrdb then after_accrdb st command replies
    else st)

-- a segment of a unit of work was answered so
abbrev pub work_done : List Dss → Core → Core
work_done replies k = if joins_again replies k then record k { again = k.again ++ first k.segments } else record k { spoken = true }

-- the segment leaves with these replies
abbrev pub segment_left : Stripped → Core → Core
segment_left r k = record k {
  typdef = told_typdef k.typdef r.replies;
  segments = left_after r k.segments;
  kept = k.kept ++ r.replies;
  sent = false;
}
