-- One application's session as the gateway has it: DRDA, volume 1, application requester and server; units of work. Transports,
-- what is tried of members, and what a session needs are this project's own.
use Rattle.std.specs.Prelude.{ℕ, Bool, false, if◌then◌else◌, List, [], ◌∷◌, Option, Some, None}
use Rattle.access_handshake.specs.declared.stage.Stage.TheVariants.{New}
use Rattle.access_handshake.specs.declared.stage.Mark.{Mark}
use Rattle.unit_segments.specs.declared.command.Command.{Command}
use Rattle.plain_model.specs.Core.{Core, new_core, LimitKind}
use Rattle.plain_model.specs.Core as core
use Rattle.session_core.specs.declared.end.LimitKind.{LimitKind as Kind}
use Rattle.session_core.specs.declared.end.LimitKind.TheVariants as kind
use Rattle.requester_core.specs.Talk.{Talking, to_send, mark_of}
use Rattle.session_core.specs.Seen.{unnumbered}
use Rattle.gateway_session.specs.declared.need.End.{End}
use Rattle.gateway_session.specs.declared.need.End.TheVariants as is_end
use Rattle.gateway_session.specs.declared.need.Need.{Need}
use Rattle.gateway_session.specs.declared.need.Need.TheVariants.{App, Lend, Dial, Send, Back, Give, Say, Done}
use Rattle.gateway_session.specs.declared.held.Held.{Held}
use Rattle.gateway_session.specs.declared.held.Tries.{Tries}
use Rattle.gateway_session.specs.declared.held.Unasked.{Unasked}
use Rattle.session_core.specs.Incoming.{Incoming, nothing_came}

-- nothing was tried
abbrev pub no_tries : Tries
no_tries = record { tried = 0; fresh = false }

pub record Session : Type 0 where
  pub id : ℕ
  -- the name of the gateway's database
  pub name : List ℕ
  pub core : Core
  pub incoming : Incoming
  pub held : Option Held
  pub tries : Tries
  pub unasked : Unasked
  -- the bytes of finished replies that are still to be said
  pub to_say : List ℕ
  -- the application ended, or failed
  pub gone : Bool

abbrev pub new_session : ℕ → List ℕ → Session
new_session id name = record {
  id = id;
  name = name;
  core = new_core;
  incoming = nothing_came;
  held = None;
  tries = no_tries;
  unasked = record { list = None; loss = None; word = None; outcome = None };
  to_say = [];
  gone = false;
}

-- ---- its end

abbrev pub kind_of : LimitKind → Kind
kind_of core.Request = kind.Request
kind_of core.Reply = kind.Reply
kind_of core.Registers = kind.Registers
kind_of core.Set = kind.Set
kind_of core.Numbers = kind.Numbers

-- where no member is left, it tells which were tried
abbrev pub end_of : ℕ → core.End → End
end_of tried core.AppEnded = is_end.AppEnded
end_of tried core.AppFault = is_end.AppFault
end_of tried (core.Refused place) = is_end.Refused place
end_of tried core.NoMember = is_end.NoMember tried
end_of tried (core.Limit which) = is_end.Limit (kind_of which)

-- ---- what it needs

-- of a conversation: that what is left of the chain in work is sent, and then its reply
abbrev pub need_by_chain : List ℕ → Need
need_by_chain [] = Back
need_by_chain (byte ∷ bytes) = Send

abbrev pub need_by_talk : Option Talking → Need
need_by_talk None = Dial
need_by_talk (Some talk) = need_by_chain (to_send talk)

abbrev pub need_by_held : Option Held → Need
need_by_held None = Lend
need_by_held (Some held) = need_by_talk held.talk

-- a chain is in work, or the next one is awaited
abbrev pub need_by_work : List (List Command) → Option Held → Need
need_by_work [] held = App
need_by_work (segment ∷ segments) held = need_by_held held

abbrev pub need_by_saying : List ℕ → Session → Need
need_by_saying [] s = need_by_work s.core.segments s.held
need_by_saying (byte ∷ bytes) s = Say

abbrev pub is_released : Option Held → Bool
is_released None = false
is_released (Some held) = held.released

-- while it goes on
abbrev pub need_going : Session → Need
need_going s = if is_released s.held then Give else need_by_saying s.to_say s

-- once it has ended: its closing reply is said, unless the application has gone
abbrev pub need_ended : End → List ℕ → Bool → Need
need_ended end [] gone = Done end
need_ended end (byte ∷ bytes) gone = if gone then Done end else Say

abbrev pub need_by_end : Option core.End → Session → Need
need_by_end None s = need_going s
need_by_end (Some end) s = need_ended (end_of s.tries.tried end) s.to_say s.gone

unfoldable pub need : Session → Need
need s = need_by_end s.core.end s

-- ---- what is told of its conversation

abbrev pub no_mark : Mark
no_mark = record { stage = New; unread = 0 }

abbrev pub mark_by_talk : Option Talking → Mark
mark_by_talk None = no_mark
mark_by_talk (Some talk) = mark_of talk

-- where the conversation that is held stands; nothing was said where there is none
abbrev pub mark_by_held : Option Held → Mark
mark_by_held None = no_mark
mark_by_held (Some held) = mark_by_talk held.talk

abbrev pub sending_by_talk : Option Talking → List ℕ
sending_by_talk None = []
sending_by_talk (Some talk) = to_send talk

-- the bytes that its server is to be sent now
abbrev pub sending_by_held : Option Held → List ℕ
sending_by_held None = []
sending_by_held (Some held) = sending_by_talk held.talk

abbrev pub number_of : Option Held → Option ℕ
number_of None = None
number_of (Some held) = Some held.number

-- ---- what isn't counted

-- The number of the unit in work is counted here alone: nothing that a session does depends on it.
abbrev pub uncounted : Session → Session
uncounted s = record s { core = unnumbered s.core }
