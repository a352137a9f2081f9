-- A session over some turns: what it was told, what was read and said, and what it was to say. This project's own.
use Rattle.std.specs.Prelude.{◌≡◌, ℕ, Bool, true, false, List, [], ◌∷◌, ◌++◌, take, Option, option_map}
use Rattle.std.specs.List.{FoldsTo}
use Rattle.plain_model.specs.Core.{first_number}
use Rattle.reply_texts.specs.Closing.{memory_reply}
use Rattle.gateway_session.specs.Memory.{State, Runs, Closes, to_say_in}
use Rattle.gateway_session.specs.Inputs.{Input, added}
use Rattle.gateway_session.specs.Inputs as input
use Rattle.gateway_session.specs.Session.{Session}
use Rattle.gateway_server.specs.Feeding.{after_turn}

-- what a session was told in a turn, and whether it found its memory
pub record Fed : Type 0 where
  pub input : Input
  pub memory : Bool

-- the session after some turns
abbrev pub after_all : List Fed → State → State
after_all [] state = state
after_all (fed ∷ others) state = after_all others (after_turn fed.memory fed.input state)

-- the bytes that came of the application
abbrev pub piece_of : Input → List ℕ
piece_of (input.App piece) = piece
piece_of _ = []

abbrev pub heard_by : List Fed → List ℕ
heard_by [] = []
heard_by (fed ∷ others) = piece_of fed.input ++ heard_by others

-- those that were said to it
abbrev pub bytes_said : Input → State → List ℕ
bytes_said (input.Said count) state = take count (to_say_in state)
bytes_said _ state = []

abbrev pub said_by : List Fed → State → List ℕ
said_by [] state = []
said_by (fed ∷ others) state = bytes_said fed.input state ++ said_by others (after_turn fed.memory fed.input state)

-- Those that were to be said: all that the steps added, in order, before one found no memory.
abbrev pub added_out : Bool → Input → Session → List ℕ → List ℕ
added_out true i s others = added i s ++ others
added_out false i s others = []

abbrev pub out_by : List Fed → State → List ℕ
out_by [] state = []
out_by (fed ∷ others) (Runs s) = added_out fed.memory fed.input s (out_by others (after_turn fed.memory fed.input (Runs s)))
out_by (fed ∷ others) (Closes closing) = []

-- RSCLMTRM of a session that found no memory (DDM, volume 3): nothing where each step found its memory
abbrev pub reply_out : Bool → Session → List ℕ → List ℕ
reply_out true s others = others
reply_out false s others = memory_reply (first_number s.core)

abbrev pub memory_by : List Fed → State → List ℕ
memory_by [] state = []
memory_by (fed ∷ others) (Runs s) = reply_out fed.memory s (memory_by others (after_turn fed.memory fed.input (Runs s)))
memory_by (fed ∷ others) (Closes closing) = []

-- those that are left to be said
abbrev pub left_in : State → List ℕ
left_in (Runs s) = s.to_say
left_in (Closes closing) = closing.rest ++ closing.reply

abbrev pub more : Option (List ℕ) → List ℕ → Option (List ℕ)
more told bytes = option_map (λ before. before ++ bytes) told

-- There are turns, each of which was made, by which the session went from one state to another; what they read and said is what the
-- application's link tells, where it does.
pub record Went {R : Type 0} (Turn : R → Fed → R → Type 0) (session : R → State) (heard taken : R → Option (List ℕ)) (r r' : R) : Type 0 where
  pub turns : List Fed
  pub made : FoldsTo Turn r turns r'
  pub after : session r' ≡ after_all turns (session r)
  pub read : heard r' ≡ more (heard r) (heard_by turns)
  pub said : taken r' ≡ more (taken r) (said_by turns (session r))
