-- How often a dial was called, and how often lends were answered Dial: each of these is dialled, unless its session finds no memory.
-- This project's own.
use Rattle.std.specs.Prelude.{◌≡◌, ◌<◌, ◌≤◌, ◌+◌, ℕ, Bool, true, false}
use Rattle.link_ends.specs.Counts.{greatest}
use Rattle.gateway_session.specs.declared.need.Need.TheVariants as need
use Rattle.gateway_session.specs.Memory.{State, Runs, Closes, need_in}
use Rattle.gateway_session.specs.declared.loss.Lent.{Lent}
use Rattle.gateway_server.specs.Leases.{Grip, Allowed, grip_in, grip_lent}

-- one where a right to dial is held
abbrev pub pending : Grip → ℕ
pending (Allowed number) = 1
pending _ = 0

abbrev pub pending_in : State → ℕ
pending_in state = pending (grip_in state)

-- while one is held, that is what is needed
abbrev pub AsksDial : State → Type 0
AsksDial state = pending_in state ≡ 1 → need_in state ≡ need.Dial

-- so far the session found its memory
abbrev pub finds_memory : State → Bool
finds_memory (Runs session) = true
finds_memory (Closes closing) = false

-- A session after a lend: where the answer was Dial it holds the right, unless it found no memory.
pub record AfterLend (l : Lent) (new : State) : Type 0 where
  pub asks : AsksDial new
  pub most : pending_in new ≤ pending (grip_lent l)
  pub all : finds_memory new ≡ true → pending_in new ≡ pending (grip_lent l)

-- how often a dial was called, and how many lends were answered Dial
pub record Counted : Type 0 where
  pub calls : ℕ
  pub dials : ℕ

abbrev pub counted : ℕ → ℕ → Counted
counted calls dials = record { calls = calls; dials = dials }

-- From one state of a session to another, where neither count reaches the greatest value: there were at most as many calls as lends
-- that were answered Dial, and as many where the session found its memory. A right that is still held counts as a call.
pub record Balanced (old new : Counted) (before after : State) : Type 0 where
  pub calls : new.calls < greatest → old.calls < greatest
  pub dials : new.dials < greatest → old.dials < greatest
  pub memory : finds_memory after ≡ true → finds_memory before ≡ true
  pub most : new.calls < greatest → new.dials < greatest → new.calls + pending_in after + old.dials ≤ old.calls + pending_in before + new.dials
  pub all :
      finds_memory after ≡ true → new.calls < greatest → new.dials < greatest
      → old.calls + pending_in before + new.dials ≤ new.calls + pending_in after + old.dials
