-- The gateway's end of a conversation with a server: what is still to be sent, and what was read of the reply to the chain in work. No
-- standard speaks of it: this is this project's own.
use Rattle.std.specs.Prelude.{ℕ, ◌+◌, ◌-◌, Bool, false, List, [], ◌∷◌, ◌++◌, map, length, take, drop, nat_lt, if◌then◌else◌, Option, Some, None}
use Rattle.dss_frame.specs.declared.dss.Dss.{Dss}
use Rattle.dss_frame.specs.declared.dss.Placed.{Placed}
use Rattle.dss_frame.specs.declared.dss.Side.TheVariants.{Replies}
use Rattle.dss_frame.specs.Reading.{View, start, fed}
use Rattle.ddm_codepoints.specs.declared.typdef.TypDef.{TypDef}
use Rattle.ddm_codepoints.specs.declared.typdef.TypDef.TheVariants.{Sql370}
use Rattle.access_handshake.specs.declared.access.Access.{Access}
use Rattle.access_handshake.specs.declared.stage.Stage.{Stage}
use Rattle.access_handshake.specs.declared.stage.Mark.{Mark}
use Rattle.unit_segments.specs.declared.command.Command.{Command}
use Rattle.unit_segments.specs.declared.stripped.Stripped.{Stripped}
use Rattle.unit_segments.specs.Registers.{Register}
use Rattle.requester_core.specs.declared.round.Round.{Round}
use Rattle.requester_core.specs.declared.got.Got.{Got}
use Rattle.requester_core.specs.declared.got.Got.TheVariants.{More, Refused, Broken, TooLong, Ready, Whole}
use Rattle.requester_core.specs.declared.reply.Judged.{Judged}
use Rattle.requester_core.specs.declared.reply.Judged.TheVariants.{GoesOn, Leaves, Passes, Ends}
use Rattle.requester_core.specs.Replay.{given}
use Rattle.requester_core.specs.Round.{commands_of, bytes_of, is_work, needed, work}
use Rattle.requester_core.specs.Reply.{most_reply_bytes, least_after, rest_of, judged, judged_byte}
use Rattle.requester_core.specs.Judging.{told_typdef, admits, stage_after, stripped_by}

pub record Talking : Type 0 where
  -- the name of the gateway's database
  pub name : List ℕ
  -- where the conversation stands, behind the rounds that are done
  pub stage : Stage
  -- the mechanism of the session's access, and how its server represents data
  pub mechanism : ℕ
  pub typdef : TypDef
  -- the rounds still to be done, the first of them in work, and how many bytes of its chain were taken
  pub rounds : List Round
  pub taken : ℕ
  -- how its reply is read; the DSSs of it that are whole; and how many bytes of it came, up to the limit
  pub reader : View
  pub replies : List Dss
  pub unread : ℕ

-- a conversation that stands at a stage, with nothing to send
abbrev pub quiet : List ℕ → Stage → Talking
quiet name stage = record {
  name = name;
  stage = stage;
  mechanism = 0;
  typdef = Sql370;
  rounds = [];
  taken = 0;
  reader = start Replies most_reply_bytes;
  replies = [];
  unread = 0;
}

abbrev pub mark_of : Talking → Mark
mark_of t = record { stage = t.stage; unread = t.unread }

-- ---- what is sent

-- what runs again: nothing without a segment, since an error is owed then
abbrev pub again_for : Option (List Command) → List Command → List Command
again_for None again = []
again_for (Some segment) again = again

-- The rounds that lead to where the session stands, and then the segment, where one is given.
unfoldable pub begun : Stage → ℕ → Option Access → List Register → List Command → Option (List Command) → Talking → Talking
begun stage mechanism access log again segment t = record t {
  mechanism = mechanism;
  rounds = needed t.stage t.name stage (given mechanism access) log (again_for segment again) ++ work segment;
  taken = 0;
  replies = [];
  unread = 0;
}

abbrev pub left_by : List Round → ℕ → List ℕ
left_by [] taken = []
left_by (round ∷ rounds) taken = drop taken (bytes_of round)

-- the bytes of the chain in work that weren't taken yet
abbrev pub to_send : Talking → List ℕ
to_send t = left_by t.rounds t.taken

-- so many more bytes of it were taken
abbrev pub sent : ℕ → Talking → Talking
sent count t = record t { taken = t.taken + count }

abbrev pub is_first_work : List Round → Bool
is_first_work [] = false
is_first_work (round ∷ rounds) = is_work round

-- a byte of the segment was taken
abbrev pub is_in_segment : Talking → Bool
is_in_segment t = if is_first_work t.rounds then nat_lt 0 t.taken else false

-- ---- what is read

-- a piece was read; what the reader had whole is taken out of it
abbrev pub with_piece : List ℕ → Talking → Talking
with_piece piece t = record t { reader = record (fed t.reader piece) { whole = [] }; unread = t.unread + length piece }

-- these DSSs belong to the reply in work
abbrev pub with_replies : List Placed → Talking → Talking
with_replies placed t = record t { replies = t.replies ++ map (λ p. p.dss) placed }

-- a piece was read, and what is whole belongs to the reply
abbrev pub read_in : List ℕ → Talking → Talking
read_in piece t = with_replies (fed t.reader piece).whole (with_piece piece t)

-- what the reply to so many commands comes to with it
abbrev pub judged_piece : ℕ → List ℕ → Talking → Judged
judged_piece count piece t = judged count (least_after t.replies) (fed t.reader piece).whole (rest_of (fed t.reader piece))

-- ---- up to the limit

-- how many bytes may come yet
abbrev pub room_of : Talking → ℕ
room_of t = most_reply_bytes - t.unread

-- those of a piece, and those beyond the limit
abbrev pub within : List ℕ → Talking → List ℕ
within piece t = take (room_of t) piece

abbrev pub beyond : List ℕ → Talking → List ℕ
beyond piece t = drop (room_of t) piece

-- The first byte beyond the limit stands behind what comes to this. Of the place at which the reply leaves its grammar and that of
-- this byte the lower one decides, and the limit where both are one. Behind the last DSS of a reply the byte isn't of it.
abbrev pub with_byte : Judged → ℕ → ℕ → Talking → Judged
with_byte GoesOn count byte t = judged_byte count (least_after t.replies) t.reader byte
with_byte (Leaves at) count byte t = Leaves at
with_byte Passes count byte t = Passes
with_byte Ends count byte t = Leaves t.reader.position.at

abbrev pub with_beyond : Judged → ℕ → List ℕ → Talking → Judged
with_beyond judged count [] t = judged
with_beyond judged count (byte ∷ more) t = with_byte judged count byte t

-- nothing of a reply is read behind that byte
abbrev pub without_reader : Talking → Talking
without_reader t = record t { reader = start Replies most_reply_bytes }

abbrev pub reader_before : List ℕ → View → View
reader_before [] v = v
reader_before (byte ∷ more) v = start Replies most_reply_bytes

abbrev pub after_beyond : List ℕ → Talking → Talking
after_beyond bytes t = record t { reader = reader_before bytes t.reader }

-- a piece was read, up to the limit
abbrev pub read_all : List ℕ → Talking → Talking
read_all piece t = after_beyond (beyond piece t) (read_in (within piece t) t)

-- what the reply comes to with it
abbrev pub judged_all : ℕ → List ℕ → Talking → Judged
judged_all count piece t = with_beyond (judged_piece count (within piece t) t) count (beyond piece t) (read_in (within piece t) t)

-- ---- what it comes to

-- the talk after a piece, and what the piece comes to
pub record Back : Type 0 where
  pub talk : Talking
  pub got : Got

-- a chain that passes the limit refuses access, but for that of the segment
abbrev pub too_long : Round → Got
too_long round = if is_work round then TooLong else Refused

-- a round is done: the next one comes into work
abbrev pub after_round : Round → List Round → Talking → Talking
after_round round rounds t = record t {
  stage = stage_after round t.replies t.stage;
  typdef = told_typdef t.typdef t.replies;
  rounds = rounds;
  taken = 0;
  replies = [];
  unread = 0;
}

-- the segment was answered; or access was given, and nothing or another chain is to be sent
abbrev pub got_by : Option Stripped → List Round → Got
got_by (Some stripped) rounds = Whole stripped
got_by None [] = Ready
got_by None (next ∷ rounds) = More

-- the reply in work is given up: nothing of it is kept but how many bytes came
abbrev pub given_up : Talking → Talking
given_up t = record t { reader = start Replies most_reply_bytes; replies = [] }

-- the reply in work is whole
abbrev pub ended : Round → List Round → Talking → Back
ended round rounds t =
    if admits t.typdef t.mechanism round t.replies
    then record { talk = after_round round rounds t; got = got_by (stripped_by round t.replies) rounds }
    else record { talk = given_up t; got = Refused }

-- where a round is in work
abbrev pub ended_in : List Round → Talking → Back
ended_in [] t = record { talk = t; got = More }
ended_in (round ∷ rounds) t = ended round rounds t

abbrev pub back_by : Judged → Round → List Round → Talking → Back
back_by GoesOn round rounds t = record { talk = t; got = More }
back_by (Leaves at) round rounds t = record { talk = given_up t; got = Broken at }
back_by Passes round rounds t = record { talk = given_up t; got = too_long round }
back_by Ends round rounds t = ended round rounds t

abbrev pub back_in : List Round → List ℕ → Talking → Back
back_in [] piece t = record { talk = t; got = More }
back_in (round ∷ rounds) piece t = back_by (judged_all (length (commands_of round)) piece t) round rounds (read_all piece t)

-- A piece of the reply to the chain in work was read. Where no chain is in work nothing is read.
unfoldable pub back : List ℕ → Talking → Back
back piece t = back_in t.rounds piece t
