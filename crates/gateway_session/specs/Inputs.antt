-- A session fed with one input after another: this project's own.
use Rattle.std.specs.Prelude.{ℕ, Bool, List, [], ◌∷◌, ◌++◌, drop, length}
use Rattle.gateway_session.specs.declared.loss.Lent.{Lent}
use Rattle.gateway_session.specs.declared.loss.LossWhy.{LossWhy}
use Rattle.gateway_session.specs.Session.{Session}
use Rattle.gateway_session.specs.Steps.{after_app, after_lend, after_dialled, after_sent, after_back, after_given, after_said, after_lost, after_app_end}

pub data Input : Type 0 where
  -- a piece of the application's bytes
  App : (piece : List ℕ) → Input
  -- what the pool answered
  Lend : (lent : Lent) → Input
  -- the transport was dialled, or not
  Dialled : (succeeded : Bool) → Input
  -- so many bytes were sent to the server
  Sent : (count : ℕ) → Input
  -- a piece of the server's bytes
  Back : (piece : List ℕ) → Input
  -- the transport was given back
  Given : Input
  -- so many bytes were said to the application
  Said : (count : ℕ) → Input
  -- the transport was lost
  Lose : (reason : LossWhy) → Input
  -- the application ended, or failed
  AppEnd : (failed : Bool) → Input

abbrev pub after_input : Input → Session → Session
after_input (App piece) s = after_app piece s
after_input (Lend lent) s = after_lend lent s
after_input (Dialled succeeded) s = after_dialled succeeded s
after_input (Sent count) s = after_sent count s
after_input (Back piece) s = after_back piece s
after_input Given s = after_given s
after_input (Said count) s = after_said count s
after_input (Lose reason) s = after_lost reason s
after_input (AppEnd failed) s = after_app_end failed s

-- one input after another, the first first
abbrev pub run_inputs : List Input → Session → Session
run_inputs [] s = s
run_inputs (input ∷ inputs) s = run_inputs inputs (after_input input s)

-- ---- what it says

-- what was to be said before, and wasn't said in this step
abbrev pub unsaid : Input → Session → List ℕ
unsaid (Said count) s = drop count s.to_say
unsaid _ s = s.to_say

-- what a step adds to that
abbrev pub added : Input → Session → List ℕ
added input s = drop (length (unsaid input s)) (after_input input s).to_say

-- all that was added, in order
abbrev pub out : List Input → Session → List ℕ
out [] s = []
out (input ∷ inputs) s = added input s ++ out inputs (after_input input s)
