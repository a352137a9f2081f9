-- The conversation with one application as the gateway keeps it: what it has taken, what it says, what it has sent. How
-- it is kept is this project's own.
use Rattle.std.specs.Prelude.{ℕ, List, [], ◌∷◌, ◌++◌, ◌+◌, ◌&&◌, Bool, true, false, length, take, drop, nat_lt, nat_le, is_some, is_none}
use Rattle.std.specs.Prelude.{if◌then◌else◌, Option, Some, None}
use Rattle.dss_frame.specs.declared.dss.Side.TheVariants.{Requests}
use Rattle.dss_frame.specs.declared.dss.Placed.{Placed}
use Rattle.dss_frame.specs.declared.fault.StreamFault.{StreamFault}
use Rattle.dss_frame.specs.declared.fault.StreamFault.TheVariants.{Frame, TooLong}
use Rattle.dss_frame.specs.Reading.{View, start, fed}
use Rattle.reply_texts.specs.Closing.{fault_reply}
use Rattle.drda_gateway.specs.Answer.{most_chain, answer_to, refusal}
use Rattle.drda_gateway.specs.declared.session.End.{End}
use Rattle.drda_gateway.specs.declared.session.End.TheVariants.{Refused, Limit}
use Rattle.drda_gateway.specs.declared.session.Need.{Need}
use Rattle.drda_gateway.specs.declared.session.Need.TheVariants.{App, Say, Done}

pub record SessionState : Type 0 where
  -- a line of the script named the application
  pub named : Bool
  -- all bytes that the application was given to send, and how many of them the gateway has taken
  pub bytes : List ℕ
  pub taken : ℕ
  -- what was read of the bytes taken, without the commands that came into work
  pub reader : View
  -- what is left to say of the reply in work, and all that was said
  pub saying : List ℕ
  pub sent : List ℕ
  -- how it ended: what it says then is its last reply
  pub ended : Option End

-- the reader of an application that has sent nothing
abbrev pub unread : View
unread = start Requests most_chain

abbrev pub fresh : SessionState
fresh = record { named = false; bytes = []; taken = 0; reader = unread; saying = []; sent = []; ended = None }

abbrev pub is_saying : SessionState → Bool
is_saying s = nat_lt 0 (length s.saying)

-- nothing is being said, and the session hasn't ended
abbrev pub is_reading : SessionState → Bool
is_reading s = nat_le (length s.saying) 0 && is_none s.ended

-- the application's next bytes can be taken
abbrev pub can_take : SessionState → Bool
can_take s = is_reading s && nat_lt s.taken (length s.bytes)

-- what the session waits for: that its reply is said, or that bytes come; after its end for nothing
abbrev pub need_of : SessionState → Need
need_of s = if is_saying s then Say else (if is_some s.ended then Done else App)

-- how a reader's fault ends a session
abbrev pub end_by : StreamFault → End
end_by (Frame at why corr) = Refused at
end_by (TooLong at corr) = Limit

-- the session ends, with this reply
abbrev pub closed : End → List ℕ → SessionState → SessionState
closed end reply s = record s { saying = reply; ended = Some end }

-- the DSS that begins at a place is in work: its reply is what is said, or it is refused
abbrev pub put_in_work : ℕ → Option (List ℕ) → SessionState → SessionState
put_in_work at (Some reply) s = record s { saying = reply }
put_in_work at None s = closed (Refused at) refusal s

-- no whole DSS is left; a fault may stand behind the last one
abbrev pub past_requests : Option StreamFault → SessionState → SessionState
past_requests None s = s
past_requests (Some fault) s = closed (end_by fault) (fault_reply fault) s

-- the next request comes into work, where the bytes taken have one
abbrev pub begun_with : List Placed → SessionState → SessionState
begun_with [] s = past_requests s.reader.fault s
begun_with (placed ∷ others) s =
    put_in_work placed.at (answer_to placed.dss) (record s { reader = record s.reader { whole = others } })

unfoldable pub begun : SessionState → SessionState
begun s = begun_with s.reader.whole s

-- the bytes that come when so many are taken
abbrev pub next_piece : ℕ → SessionState → List ℕ
next_piece count s = take count (drop s.taken s.bytes)

-- at most so many bytes of the application are taken
unfoldable pub taken_more : ℕ → SessionState → SessionState
taken_more count s =
    begun (record s { taken = s.taken + length (next_piece count s); reader = fed s.reader (next_piece count s) })

-- at most so many bytes of the reply are said
abbrev pub said_part : ℕ → SessionState → SessionState
said_part count s = record s { sent = s.sent ++ take count s.saying; saying = drop count s.saying }

-- after the last of them the next request comes into work
unfoldable pub said_more : ℕ → SessionState → SessionState
said_more count s = if is_reading (said_part count s) then begun (said_part count s) else said_part count s

-- more bytes that the application has to send
abbrev pub appended : List ℕ → SessionState → SessionState
appended bytes s = record s { named = true; bytes = s.bytes ++ bytes }
