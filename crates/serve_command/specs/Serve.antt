-- What each status of serve says. No standard speaks of it.
use Rattle.std.specs.Prelude.{ℕ, List, [], ◌∷◌, ◌++◌, ◌≡◌, ◌==◌, ◌≤◌, ◌⊎◌, Bool, false, true, Option, Some, None, length, map, codes, if◌then◌else◌}
use Rattle.std.specs.Fmt.{decimal}
use Rattle.link_ends.specs.Counts.{Rose}
use Rattle.link_ends.specs.Doors.{DoorState, DialState}
use Rattle.link_ends.specs.Sink.{SinkState}
use Rattle.hex_lines.specs.Lines.{line_end}
use Rattle.server_words.specs.Field.{given}
use Rattle.server_words.specs.Serve.{Serving, serve_said}
use Rattle.server_words.specs.declared.serve.ServeWords.{ServeWords}
use Rattle.gateway_workers.specs.Workers.{Seen, seen, WereServed}
use Rattle.gateway_workers.specs.declared.jobs.WorkerEnds.{WorkerEnds}

abbrev pub usage_text : List ℕ
usage_text =
    codes "usage: drda_gateway serve --listen ADDR --rdb NAME --sessions N --workers N --cap N MEMBER..." ++ line_end

-- what is said where the words are right and there are as many ends as workers
abbrev pub said_for : List (List ℕ) → ℕ → Option Serving
said_for words ends = given (serve_said words) (λ said. if said.options.workers == ends then Some said else None)

-- a pool can be made of what is said: one to 32 transports may be lent, and there are one to 32 members
pub record HasPool (said : ServeWords) : Type 0 where
  pub least : 1 ≤ said.cap
  pub most : said.cap ≤ 32
  pub some : 1 ≤ length said.weights.items
  pub members : length said.weights.items ≤ 32

-- the ends as they are seen: each door, and how often each dial was called
abbrev pub all_seen : {B D N : Type 0} → (D → DoorState B) → (N → DialState) → List (WorkerEnds D N) → List (Seen B)
all_seen door_state dial_state ends = map (seen door_state (λ dial. (dial_state dial).calls)) ends

-- what is told of so many sessions and of so many calls of the pool
abbrev pub serve_text : ℕ → ℕ → List ℕ
serve_text sessions calls =
    codes "sessions " ++ (decimal sessions ++ (line_end ++ (codes "calls " ++ (decimal calls ++ line_end))))

-- As many sessions as these were served, no call of a door failed, no worker found no memory, and this was written of what is told.
pub record Told {B : Type 0} (Wrote : SinkState → SinkState → List ℕ → Type 0) (P : B → Type 0) (sessions : ℕ)
    (ends ends_now : List (Seen B)) (sink sink_now : SinkState) : Type 0 where
  pub calls : ℕ
  pub dials : ℕ
  pub served : WereServed P ends ends_now sessions dials false false
  pub wrote : Wrote sink sink_now (serve_text sessions calls)

-- the same of as many sessions as the words say
pub record ToldAsSaid {B : Type 0} (Wrote : SinkState → SinkState → List ℕ → Type 0) (P : B → Type 0) (words : List (List ℕ))
    (ends ends_now : List (Seen B)) (sink sink_now : SinkState) : Type 0 where
  pub said : Serving
  pub says : said_for words (length ends) ≡ Some said
  pub told : Told Wrote P said.options.sessions ends ends_now sink sink_now

-- a call of a door failed
pub record DoorFailed {B : Type 0} (P : B → Type 0) (ends ends_now : List (Seen B)) : Type 0 where
  pub sessions : ℕ
  pub dials : ℕ
  pub refused : Bool
  pub served : WereServed P ends ends_now sessions dials true refused

-- the count of faults of one of these doors rose
abbrev pub FaultsRose : {B : Type 0} → List (Seen B) → List (Seen B) → Type 0
FaultsRose (one ∷ ends) (now ∷ ends_now) = Rose one.door.faults now.door.faults ⊎ FaultsRose ends ends_now
FaultsRose (one ∷ ends) [] = ⊥
FaultsRose [] ends_now = ⊥
