-- All sessions and the log, as a function of the list of the events that were run: the replay. Events, log and replay are
-- this project's own.
use Rattle.std.specs.Prelude.{ℕ, zero, suc, List, [], ◌∷◌, ◌++◌, ◌+◌, ◌-◌, ◌&&◌, ◌≡◌, Bool, true, false, MatchOption, length, nat_lt, nat_le, is_none}
use Rattle.std.specs.Prelude.{if◌then◌else◌, Option, Some, None, option_map, position, replicate, slice_set, slice_index_or}
use Rattle.drda_gateway.specs.declared.session.End.{End}
use Rattle.drda_gateway.specs.declared.session.End.TheVariants.{Refused, Limit}
use Rattle.drda_gateway.specs.declared.world.ErrorWord.{ErrorWord}
use Rattle.drda_gateway.specs.declared.world.ErrorWord.TheVariants as word
use Rattle.drda_gateway.specs.declared.world.Entry.{Entry}
use Rattle.drda_gateway.specs.declared.world.Entry.TheVariants.{Answer, Error}
use Rattle.drda_gateway.specs.declared.script.Line.{Line}
use Rattle.drda_gateway.specs.declared.script.Line.TheVariants as line
use Rattle.drda_gateway.specs.Session.{SessionState, fresh, is_saying, can_take, taken_more, said_more, appended}

-- applications are numbered from 1 to 64
pub record WorldState : Type 0 where
  pub sessions : List SessionState
  pub log : List Entry

-- what happens: an application is given bytes to send; the gateway takes at most so many of them; it says at most so
-- many bytes of a reply
pub data Event : Type 0 where
  Append : ℕ → List ℕ → Event
  Take : ℕ → ℕ → Event
  Say : ℕ → ℕ → Event

abbrev pub start_world : WorldState
start_world = record { sessions = replicate 64 fresh; log = [] }

abbrev pub session_at : WorldState → ℕ → SessionState
session_at w app = slice_index_or w.sessions (app - 1) fresh

-- the session of an application is this one now, and these entries stand at the end of the log
abbrev pub changed : ℕ → SessionState → List Entry → WorldState → WorldState
changed app s entries w = record { sessions = slice_set w.sessions (app - 1) s; log = w.log ++ entries }

-- the word of the log for how a session ended
abbrev pub word_of : End → ErrorWord
word_of (Refused place) = word.Syntax
word_of Limit = word.Limit

-- what the log says of a session that has ended just now
abbrev pub end_entries : ℕ → Option End → List Entry
end_entries app None = []
end_entries app (Some end) = Error app (word_of end) ∷ []

-- how a session ended just now, if it did
abbrev pub newly_ended : SessionState → SessionState → Option End
newly_ended s next = if is_none s.ended then next.ended else None

-- what follows a take: where the session ends the log says so
abbrev pub after_take : ℕ → ℕ → SessionState → WorldState → WorldState
after_take app count s w =
    if nat_lt 0 count && can_take s
    then changed app (taken_more count s) (end_entries app (newly_ended s (taken_more count s))) w
    else w

-- the log has an answer where the last byte of a reply was said
abbrev pub answer_entries : ℕ → Bool → List Entry
answer_entries app answers = if answers then Answer app ∷ [] else []

-- what follows a say: the log has the answer at its last byte, and then an end that comes next
abbrev pub after_say : ℕ → ℕ → SessionState → WorldState → WorldState
after_say app count s w =
    if nat_lt 0 count && is_saying s
    then changed app (said_more count s) (answer_entries app (nat_le (length s.saying) count) ++ end_entries app (newly_ended s (said_more count s))) w
    else w

-- an event that can't be taken changes nothing
abbrev pub after : WorldState → Event → WorldState
after w (Append app bytes) = changed app (appended bytes (session_at w app)) [] w
after w (Take app count) = after_take app count (session_at w app) w
after w (Say app count) = after_say app count (session_at w app) w

-- the replay of a list of events, oldest first
abbrev pub after_all : WorldState → List Event → WorldState
after_all w [] = w
after_all w (event ∷ events) = after_all (after w event) events

-- how many bytes an event of a settle moves at most
abbrev pub most_moved : ℕ
most_moved = 65536

abbrev pub first_of : Option ℕ → Option ℕ → Option Event
first_of (Some place) takes = Some (Say (place + 1) most_moved)
first_of None takes = option_map (λ place. Take (place + 1) most_moved) takes

-- the first event that can be taken: a say comes before a take, a lower application before a higher one
abbrev pub first_event : WorldState → Option Event
first_event w = first_of (position is_saying w.sessions) (position can_take w.sessions)

-- the world after the first event that can be taken, and whether there is one
abbrev pub Steps : WorldState → WorldState → Bool → Type 0
Steps w next went = MatchOption (first_event w) ((went ≡ false) × (next ≡ w)) (λ event. (went ≡ true) × (next ≡ after w event))

abbrev pub and_then_more : Option Event → (Event → List Event) → List Event
and_then_more None more = []
and_then_more (Some event) more = event ∷ more event

-- at most so many events, each the first that can be taken when it comes
abbrev pub settle_events : ℕ → WorldState → List Event
settle_events zero w = []
settle_events (suc budget) w = and_then_more (first_event w) (λ event. settle_events budget (after w event))

-- the events of a line; a line that names an application makes it known
abbrev pub line_events : WorldState → Line → List Event
line_events w (line.App app bytes) = Append app bytes ∷ []
line_events w (line.Take app count) = Append app [] ∷ Take app count ∷ []
line_events w (line.Settle budget) = settle_events budget w

-- the events of a script's lines: what its world records
abbrev pub events_of : WorldState → List Line → List Event
events_of w [] = []
events_of w (line ∷ lines) = line_events w line ++ events_of (after_all w (line_events w line)) lines

-- the world that a script leaves
unfoldable pub world_of : List Line → WorldState
world_of lines = after_all start_world (events_of start_world lines)
