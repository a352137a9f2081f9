-- What a session's application is told of the end of its unit of work: DDM, volume 3, ENDUOWRM, UOWDSP, ABNUOWRM; and who it is:
-- DDM, volume 3, USRID. How the ends are called is this project's own.
use Rattle.std.specs.Prelude.{ℕ, Bool, true, false, ◌&&◌, nat_le, if◌then◌else◌, List, [], length, map, Option, Some, None}
use Rattle.std.specs.List.{list_all}
use Rattle.access_handshake.specs.declared.stage.Stage.{Stage}
use Rattle.access_handshake.specs.declared.stage.Stage.TheVariants.{New, Attached, Chosen, Checked, Accessed}
use Rattle.access_handshake.specs.declared.access.Access.{Access}
use Rattle.access_handshake.specs.Parameter.{parameter}
use Rattle.ddm_codepoints.specs.CodePoint.{usrid}
use Rattle.ddm_codepoints.specs.declared.typdef.TypDef.TheVariants.{Sql370}
use Rattle.reply_texts.specs.Text.{is_character_in, ascii_in}
use Rattle.unit_segments.specs.declared.stripped.Stripped.{Stripped}
use Rattle.unit_segments.specs.Command.{data_of}
use Rattle.unit_ledger.specs.declared.outcome.Outcome.{Outcome}
use Rattle.unit_ledger.specs.declared.outcome.Outcome.TheVariants as told
use Rattle.plain_model.specs.Core.{Owed, Nothing, Rerouted, Unknown}
use Rattle.gateway_session.specs.Session.{Session}

-- ---- the end of a unit of work

abbrev pub disposition : Bool → Outcome
disposition true = told.Committed
disposition false = told.RolledBack

-- by the replies to the segment in work
abbrev pub end_outcome : Stripped → Option Outcome
end_outcome r = if r.ended then Some (disposition r.committed) else None

-- by an owed error
abbrev pub owed_outcome : Owed → Option Outcome
owed_outcome Nothing = None
owed_outcome Rerouted = Some told.Rerouted
owed_outcome Unknown = Some told.Unknown

-- where no member is left: before access nothing is told of a unit
abbrev pub last_outcome : Owed → Outcome
last_outcome Nothing = told.Rerouted
last_outcome Rerouted = told.Rerouted
last_outcome Unknown = told.Unknown

abbrev pub none_left_outcome : Stage → Owed → Option Outcome
none_left_outcome New owed = None
none_left_outcome Attached owed = None
none_left_outcome Chosen owed = None
none_left_outcome Checked owed = None
none_left_outcome Accessed owed = Some (last_outcome owed)

-- it wasn't asked for yet
abbrev pub with_outcome : Option Outcome → Session → Session
with_outcome None s = s
with_outcome (Some outcome) s = record s { unasked = record s.unasked { outcome = Some outcome } }

-- ---- the user

-- how many characters the name of a user has at most: this project's own
abbrev pub most_name : ℕ
most_name = 32

-- a name that is too long, or not all of characters, is none
abbrev pub name_in : Option (List ℕ) → List ℕ
name_in None = []
name_in (Some codes) = if nat_le (length codes) most_name && list_all (is_character_in Sql370) codes then codes else []

-- the name that was given for access, as it came
abbrev pub user_codes : Access → List ℕ
user_codes access = name_in (parameter (data_of access.secchk) usrid)

-- the same in ASCII
abbrev pub user_of : Access → List ℕ
user_of access = map (ascii_in Sql370) (user_codes access)
