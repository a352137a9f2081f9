-- What the replies to one command say of its unit of work: DDM, volume 3, ENDUOWRM, UOWDSP; DRDA, volume 3, RLSCONV, SQLSTT. All
-- of them have the command's correlation number.
use Rattle.std.specs.Prelude.{ℕ, Bool, false, not, ◌==◌, ◌&&◌, if◌then◌else◌, List, map, filter, find, Option, is_some}
use Rattle.dss_frame.specs.declared.dss.Dss.{Dss}
use Rattle.ddm_objects.specs.Objects.{canonical_object}
use Rattle.ddm_codepoints.specs.CodeClass.{class_of}
use Rattle.ddm_codepoints.specs.CodePoint.{enduowrm, rlsconv, uowdsp, rdbcmm}
use Rattle.ddm_codepoints.specs.Value.{committed, release}
use Rattle.unit_segments.specs.declared.command.Command.{Command}
use Rattle.unit_segments.specs.Command.{ends_unit, code_of, data_of}
use Rattle.unit_segments.specs.Release.{is_asking, kept_members}
use Rattle.unit_segments.specs.Strip.{is_object_of, end_says, marked_from, without_lists}

-- ---- what is asked

-- A command without asking for release and for SET statements; how it asks is said by `asked` of unit_segments. DRDA, volume
-- 3, RLSCONV, RTNSETSTT.
abbrev pub unasked : Command → Command
unasked command =
    if ends_unit (class_of command.code)
    then record command { body = canonical_object (code_of command.body) (kept_members is_asking (data_of command.body)) }
    else command

-- ---- what is answered

-- the first message that says how the unit of work ended
abbrev pub end_of : List Dss → Option Dss
end_of replies = find (is_object_of enduowrm) replies

-- the unit of work has ended
abbrev pub ends : List Dss → Bool
ends replies = is_some (end_of replies)

-- it was committed
abbrev pub says_committed : List Dss → Bool
says_committed replies = end_says uowdsp committed (end_of replies)

-- the conversation was released
abbrev pub releases : List Dss → Bool
releases replies = end_says rlsconv release (end_of replies)

-- a commit was asked and done
abbrev pub commits : Command → List Dss → Bool
commits command replies = command.code == rdbcmm && says_committed replies

-- the data of the SET statements that were asked for
abbrev pub sets_in : Command → List Dss → List (List ℕ)
sets_in command replies = map (λ m. data_of m.reply.body) (filter (λ m. m.is_set) (marked_from command.corr false replies))

-- the replies without what was asked for, and without lists of members
abbrev pub without_asked : Command → List Dss → List Dss
without_asked command replies =
    map (λ m. without_lists m.reply) (filter (λ m. not m.is_set) (marked_from command.corr false replies))
