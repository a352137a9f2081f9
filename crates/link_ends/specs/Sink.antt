-- What a sink is seen as, and what one write does. No standard speaks of sinks: they are this project's own.
use Rattle.std.specs.Prelude.{ℕ, List, ◌++◌, ◌≡◌, ◌≤◌, Bool, ◌&&◌, nat_eq, nat_lt, Option, option_map, Result, MatchResult, length, take}
use Rattle.link_ends.specs.declared.source.Failed.{Failed}
use Rattle.link_ends.specs.Counts.{one_more, counted}

pub record SinkState : Type 0 where
  -- the bytes that were taken so far, where it tells them
  pub taken : Option (List ℕ)
  -- how many calls have failed, and how many writes of a piece that isn't empty took none of it
  pub faults : ℕ
  pub stuck : ℕ

-- a write is stuck that takes no byte, though the piece has some
abbrev pub is_stuck : ℕ → List ℕ → Bool
is_stuck count piece = nat_eq count 0 && nat_lt 0 (length piece)

-- a sink after a write that took the first count bytes of the piece, and no others: no fault was counted
abbrev pub after_write : SinkState → ℕ → List ℕ → SinkState
after_write old count piece =
    record {
      taken = option_map (λ taken. taken ++ take count piece) old.taken;
      faults = old.faults;
      stuck = counted (is_stuck count piece) old.stuck;
    }

-- a sink after a write that failed: one more fault was counted, and nothing else is changed
abbrev pub after_failed_write : SinkState → SinkState
after_failed_write old = record old { faults = one_more old.faults }

-- A write took the first count bytes of the piece.
pub record IsTaken (count : ℕ) (old new : SinkState) (piece : List ℕ) : Type 0 where
  pub within : count ≤ length piece
  pub after : new ≡ after_write old count piece

-- what one write of the piece does, with what it answers
abbrev pub IsWritten : Result ℕ Failed → SinkState → SinkState → List ℕ → Type 0
IsWritten result old new piece =
    MatchResult result (λ count. IsTaken count old new piece) (λ _. new ≡ after_failed_write old)
