-- The grammar of a reply: DRDA, volume 3, DSS: chaining. DSSs of a server, chained but for the last, whose correlation numbers never
-- fall, each that of a command of the chain that they answer; these are numbered from 1. That another number, or a byte behind
-- the last DSS, leaves it at once is this project's own.
use Rattle.std.specs.Prelude.{ℕ, ◌+◌, ◌-◌, ◌*◌, ◌||◌, ◌&&◌, ◌==◌, Bool, if◌then◌else◌, List, [], ◌∷◌, length, nat_le, slice_get, slice_index}
use Rattle.std.specs.Prelude.{Option, Some, None, is_some}
use Rattle.dss_frame.specs.declared.dss.Dss.{Dss}
use Rattle.dss_frame.specs.declared.dss.Placed.{Placed}
use Rattle.dss_frame.specs.declared.fault.Why.{Why}
use Rattle.dss_frame.specs.declared.fault.Why.TheVariants.{Short, NoD0, Format, Continue}
use Rattle.dss_frame.specs.declared.fault.StreamFault.{StreamFault}
use Rattle.dss_frame.specs.declared.fault.StreamFault.TheVariants.{Frame, TooLong}
use Rattle.dss_frame.specs.Segments.{number_at}
use Rattle.dss_frame.specs.Reading.{View, further_on, fed}
use Rattle.requester_core.specs.declared.reply.Rest.{Rest}
use Rattle.requester_core.specs.declared.reply.Judged.{Judged}
use Rattle.requester_core.specs.declared.reply.Judged.TheVariants.{GoesOn, Leaves, Passes, Ends}

-- how many bytes a reply has at most: this project's choice
abbrev pub most_reply_bytes : ℕ
most_reply_bytes = 33554432

-- ---- numbers

-- a number that may come next, where these are the least one and how many commands were sent
abbrev pub may_come : ℕ → ℕ → ℕ → Bool
may_come count least number = nat_le least number && nat_le number count

abbrev pub number_of : Option Dss → ℕ
number_of None = 1
number_of (Some d) = d.corr

-- the least number that may come behind these DSSs of a reply: that of the last
abbrev pub least_after : List Dss → ℕ
least_after replies = number_of (slice_get replies (length replies - 1))

-- DSS: the correlation number stands behind four bytes
abbrev pub number_place : ℕ → ℕ
number_place at = further_on at 4

-- ---- what stands behind the whole DSSs

abbrev pub number_in : List ℕ → Option ℕ
number_in bytes = if nat_le 6 (length bytes) then Some (number_at 4 bytes) else None

-- The DSS that isn't whole, as far as it came.
abbrev pub rest_of : View → Rest
rest_of v = record { place = v.position.at; begun = nat_le 1 (length v.open); number = number_in v.open; fault = v.fault }

-- its number leaves the grammar, or else this
abbrev pub by_number : ℕ → ℕ → ℕ → ℕ → Judged → Judged
by_number count least place number judged = if may_come count least number then judged else Leaves (number_place place)

-- the same of a number that may not have come
abbrev pub by_told : ℕ → ℕ → ℕ → Option ℕ → Judged → Judged
by_told count least place None judged = judged
by_told count least place (Some number) judged = by_number count least place number judged

-- A length of a further segment stands behind the number, every other field that is none of a DSS before it.
abbrev pub by_field : ℕ → ℕ → ℕ → ℕ → Why → ℕ → Judged
by_field count least place at Short number = Leaves at
by_field count least place at NoD0 number = Leaves at
by_field count least place at Format number = Leaves at
by_field count least place at Continue number = by_number count least place number (Leaves at)

-- The lower of two places decides.
abbrev pub by_fault : ℕ → ℕ → ℕ → StreamFault → Judged
by_fault count least place (Frame at why number) = by_field count least place at why number
by_fault count least place (TooLong at number) = by_number count least place number Passes

abbrev pub by_rest : ℕ → ℕ → ℕ → Option ℕ → Option StreamFault → Judged
by_rest count least place number None = by_told count least place number GoesOn
by_rest count least place number (Some fault) = by_fault count least place fault

abbrev pub judged_rest : ℕ → ℕ → Rest → Judged
judged_rest count least rest = by_rest count least rest.place rest.number rest.fault

-- ---- all of it

-- behind the last DSS of a reply no byte stands
abbrev pub judged_end : List Placed → Rest → Judged
judged_end (placed ∷ others) rest = Leaves placed.at
judged_end [] rest = if rest.begun || is_some rest.fault then Leaves rest.place else Ends

-- What was read of a reply to so many commands, behind DSSs whose last number is the least that may come: it goes on, or leaves the
-- grammar at a place, or passes the limit, or is whole.
unfoldable pub judged : ℕ → ℕ → List Placed → Rest → Judged
judged count least [] rest = judged_rest count least rest
judged count least (placed ∷ others) rest =
    if may_come count least placed.dss.corr
    then (if placed.dss.chained then judged count placed.dss.corr others rest else judged_end others rest)
    else Leaves (number_place placed.at)

-- ---- the first byte beyond the limit

-- the number that a byte completes behind the first bytes of a DSS: DSS, the fifth and the sixth byte
abbrev pub completed : List ℕ → ℕ → Option ℕ
completed bytes byte = if length bytes == 5 then Some (256 * slice_index bytes 4 + byte) else None

-- A field that this byte completes begins before it. So where it is none of a reply, its place is the lower one.
abbrev pub by_field_beyond : ℕ → ℕ → ℕ → Option ℕ → Option StreamFault → Judged
by_field_beyond count least place number (Some (Frame at why corr)) = by_field count least place at why corr
by_field_beyond count least place number _ = by_told count least place number Passes

-- What the first byte beyond the limit comes to, behind what a reader read of a reply that goes on.
abbrev pub judged_byte : ℕ → ℕ → View → ℕ → Judged
judged_byte count least v byte =
    by_field_beyond count least v.position.at (completed v.open byte) (fed v (byte ∷ [])).fault
