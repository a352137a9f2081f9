-- Sessions that end by their application. This project's own.
use Rattle.std.specs.Prelude.{Bool, true, false, not, ◌||◌, Option, Some, None}
use Rattle.plain_model.specs.Core as core
use Rattle.gateway_session.specs.Memory.{State, Runs, Closes}

-- the application ended it, or failed
abbrev pub is_left : Option core.End → Bool
is_left None = false
is_left (Some core.AppEnded) = true
is_left (Some core.AppFault) = true
is_left (Some (core.Refused place)) = false
is_left (Some core.NoMember) = false
is_left (Some (core.Limit kind)) = false

-- a session that its application ended has nobody to say anything to
abbrev pub is_gone : State → Bool
is_gone (Runs s) = not (is_left s.core.end) || s.gone
is_gone (Closes closing) = true
