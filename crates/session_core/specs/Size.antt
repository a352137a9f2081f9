-- How many bytes replies have as one chain: DRDA, volume 3, DSS.
use Rattle.std.specs.Prelude.{ℕ, ◌+◌, ◌*◌, ◌-◌, List, [], ◌∷◌, length, nat_le, if◌then◌else◌, Option, Some, None}
use Rattle.dss_frame.specs.declared.dss.Dss.{Dss}
use Rattle.dss_frame.specs.Dss.{first_room, further_count}

-- the canonical spelling of a DSS whose body has so many bytes: a header of six bytes, and two in front of each further segment
abbrev pub spelled_size : ℕ → ℕ
spelled_size bytes = bytes + 6 + 2 * further_count (bytes - first_room)

-- how much room is left behind these replies; None where they don't fit
abbrev pub room_behind : ℕ → List Dss → Option ℕ
room_behind room [] = Some room
room_behind room (d ∷ replies) =
    if nat_le (spelled_size (length d.body)) room then room_behind (room - spelled_size (length d.body)) replies else None
