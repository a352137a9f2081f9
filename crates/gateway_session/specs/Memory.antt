-- What a session comes to that finds no memory: DDM, volume 3, RSCLMTRM. That it says this, ends, and loses its transport is this
-- project's own.
use Rattle.std.specs.Prelude.{◌≡◌, ℕ, Bool, true, List, [], ◌∷◌, ◌++◌, drop, Option, Some, None}
use Rattle.access_handshake.specs.declared.stage.Mark.{Mark}
use Rattle.reply_texts.specs.Closing.{memory_reply}
use Rattle.plain_model.specs.Core.{first_number}
use Rattle.gateway_session.specs.Steps.{after_said, after_app_end}
use Rattle.gateway_session.specs.declared.need.End.TheVariants.{NoMemory}
use Rattle.gateway_session.specs.declared.need.Need.{Need}
use Rattle.gateway_session.specs.declared.loss.LossWhy.{LossWhy}
use Rattle.gateway_session.specs.declared.loss.LossWhy.TheVariants.{Left}
use Rattle.gateway_session.specs.declared.loss.ErrorWord.{ErrorWord}
use Rattle.unit_ledger.specs.declared.outcome.Outcome.{Outcome}
use Rattle.gateway_session.specs.declared.session.Last.{Last}
use Rattle.gateway_session.specs.declared.held.Held.{Held}
use Rattle.gateway_session.specs.declared.held.Tries.{Tries}
use Rattle.gateway_session.specs.Told.{user_of}
use Rattle.gateway_session.specs.Session.{Session, uncounted, no_tries, no_mark, need_ended, need, mark_by_held, sending_by_held, number_of}

-- what is left of a session that found no memory
pub record Closing : Type 0 where
  pub id : ℕ
  -- the rest of the reply that was finished before, and the rest of RSCLMTRM behind it
  pub rest : List ℕ
  pub reply : List ℕ
  -- the loss that wasn't asked for yet
  pub loss : Option (ℕ × LossWhy)
  pub gone : Bool

pub data State : Type 0 where
  Runs : (session : Session) → State
  Closes : (closing : Closing) → State

abbrev pub loss_at_end : Option Held → Option (ℕ × LossWhy) → Option (ℕ × LossWhy)
loss_at_end None loss = loss
loss_at_end (Some held) loss = Some (held.number, Left)

-- In a step before which the session was this one memory ran out, and of a finished reply these bytes were left to be said.
-- RSCLMTRM has the number of the first command of the segment that was in work, or 0.
abbrev pub closing_with : List ℕ → Session → Closing
closing_with rest s = record {
  id = s.id;
  rest = rest;
  reply = memory_reply (first_number s.core);
  loss = loss_at_end s.held s.unasked.loss;
  gone = s.gone;
}

-- a step in which memory ran out said nothing, and nothing of it is to be said
pub record KeepsSaying (before after : Session) : Type 0 where
  pub id : after.id ≡ before.id
  pub to_say : after.to_say ≡ before.to_say
  pub gone : after.gone ≡ before.gone

-- no transport is held, and of what wasn't asked for only this loss is left
abbrev pub stopped : Option (ℕ × LossWhy) → Session → Session
stopped loss s = record s { held = None; unasked = record { list = None; loss = loss; word = None; outcome = None } }

-- ---- steps

-- a step of a session that runs
abbrev pub step : (Session → Session) → State → State
step f (Runs s) = Runs (uncounted (f s))
step f (Closes closing) = Closes closing

-- memory ran out in a step
abbrev pub out_of_memory : (Session → List ℕ) → State → State
out_of_memory rest (Runs s) = Closes (closing_with (rest s) s)
out_of_memory rest (Closes closing) = Closes closing

-- so many bytes were said
abbrev pub said_by : ℕ → List ℕ → Closing → Closing
said_by count [] closing = record closing { reply = drop count closing.reply }
said_by count (byte ∷ bytes) closing = record closing { rest = drop count (byte ∷ bytes) }

abbrev pub said_in : ℕ → State → State
said_in count (Runs s) = Runs (uncounted (after_said count s))
said_in count (Closes closing) = Closes (said_by count closing.rest closing)

-- the application ended, or failed
abbrev pub app_end_in : Bool → State → State
app_end_in failed (Runs s) = Runs (uncounted (after_app_end failed s))
app_end_in failed (Closes closing) = Closes (record closing { gone = true })

-- where the session before the step was this one, RSCLMTRM has this number, and this is the loss that is told
abbrev pub IsLast : State → Last → Type 0
IsLast (Runs s) last = (last.number ≡ first_number s.core) × (last.loss ≡ loss_at_end s.held s.unasked.loss)
IsLast (Closes closing) last = Unit {0}

-- memory ran out in the step that led to this session
abbrev pub closed_after : Last → State → State
closed_after last (Runs s) = Closes (record { id = s.id; rest = s.to_say; reply = memory_reply last.number; loss = last.loss; gone = s.gone })
closed_after last (Closes closing) = Closes closing

abbrev pub IsGoing : State → Type 0
IsGoing (Runs s) = Unit {0}
IsGoing (Closes closing) = ⊥

abbrev pub IsClosing : State → Type 0
IsClosing (Runs s) = ⊥
IsClosing (Closes closing) = Unit {0}

-- what of a finished reply is left to be said: all, or all behind what was said in the step
abbrev pub to_say_of : Session → List ℕ
to_say_of s = s.to_say

abbrev pub rest_after_said : ℕ → Session → List ℕ
rest_after_said count s = drop count s.to_say

-- ---- what was asked for

abbrev pub without_list : State → State
without_list (Runs s) = Runs (record s { unasked = record s.unasked { list = None } })
without_list (Closes closing) = Closes closing

abbrev pub without_loss : State → State
without_loss (Runs s) = Runs (record s { unasked = record s.unasked { loss = None } })
without_loss (Closes closing) = Closes (record closing { loss = None })

abbrev pub without_word : State → State
without_word (Runs s) = Runs (record s { unasked = record s.unasked { word = None } })
without_word (Closes closing) = Closes closing

abbrev pub without_outcome : State → State
without_outcome (Runs s) = Runs (record s { unasked = record s.unasked { outcome = None } })
without_outcome (Closes closing) = Closes closing

-- ---- what is seen of either

abbrev pub id_in : State → ℕ
id_in (Runs s) = s.id
id_in (Closes closing) = closing.id

abbrev pub need_in : State → Need
need_in (Runs s) = need s
need_in (Closes closing) = need_ended NoMemory (closing.rest ++ closing.reply) closing.gone

-- what can be said at once
abbrev pub front_of : List ℕ → List ℕ → List ℕ
front_of [] reply = reply
front_of (byte ∷ bytes) reply = byte ∷ bytes

abbrev pub to_say_in : State → List ℕ
to_say_in (Runs s) = s.to_say
to_say_in (Closes closing) = front_of closing.rest closing.reply

abbrev pub loss_in : State → Option (ℕ × LossWhy)
loss_in (Runs s) = s.unasked.loss
loss_in (Closes closing) = closing.loss

abbrev pub list_in : State → Option (List ℕ)
list_in (Runs s) = s.unasked.list
list_in (Closes closing) = None

abbrev pub word_in : State → Option ErrorWord
word_in (Runs s) = s.unasked.word
word_in (Closes closing) = None

abbrev pub outcome_in : State → Option Outcome
outcome_in (Runs s) = s.unasked.outcome
outcome_in (Closes closing) = None

-- of a session that has found no memory nobody asks who it is
abbrev pub user_in : State → List ℕ
user_in (Runs s) = user_of s.core.standing.access
user_in (Closes closing) = []

abbrev pub tries_in : State → Tries
tries_in (Runs s) = s.tries
tries_in (Closes closing) = no_tries

abbrev pub held_in : State → Option ℕ
held_in (Runs s) = number_of s.held
held_in (Closes closing) = None

abbrev pub to_send_in : State → List ℕ
to_send_in (Runs s) = sending_by_held s.held
to_send_in (Closes closing) = []

abbrev pub mark_in : State → Mark
mark_in (Runs s) = mark_by_held s.held
mark_in (Closes closing) = no_mark
