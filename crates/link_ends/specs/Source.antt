-- What a source is seen as, and what one read does. No standard speaks of sources: they are this project's own.
use Rattle.std.specs.Prelude.{ℕ, List, [], ◌≡◌, ◌<◌, ◌≤◌, Bool, ◌&&◌, nat_eq, nat_lt, Option, option_map, MatchOption, Result, MatchResult, length, take, drop}
use Rattle.link_ends.specs.declared.source.Failed.{Failed}
use Rattle.link_ends.specs.Counts.{one_more, counted}

pub record SourceState : Type 0 where
  -- the bytes that are left, where it tells them
  pub left : Option (List ℕ)
  -- how many calls have failed, and how many reads have met the end
  pub faults : ℕ
  pub ends : ℕ

-- a read of so many bytes has met the end: it gave none, though the buffer has room
abbrev pub meets_end : ℕ → List ℕ → Bool
meets_end count buffer = nat_eq count 0 && nat_lt 0 (length buffer)

-- a source after a read that gave so many bytes: it has the others left, and no fault was counted
abbrev pub after_read : SourceState → ℕ → List ℕ → SourceState
after_read old count buffer =
    record {
      left = option_map (λ left. drop count left) old.left;
      faults = old.faults;
      ends = counted (meets_end count buffer) old.ends;
    }

-- a source after a read that failed: one more fault was counted, and nothing else is changed
abbrev pub after_failed_read : SourceState → SourceState
after_failed_read old = record old { faults = one_more old.faults }

-- The first count bytes of the buffer are the next ones that the source had left, which are none only at the end.
pub record AreNext (count : ℕ) (left buffer buffer_now : List ℕ) : Type 0 where
  pub left_are : count ≤ length left
  pub bytes : take count buffer_now ≡ take count left
  pub all_read : count ≡ 0 → 0 < length buffer → left ≡ []

-- A read gave the first count bytes of the buffer; what the buffer has behind them is as before.
pub record IsGiven (count : ℕ) (old new : SourceState) (buffer buffer_now : List ℕ) : Type 0 where
  pub within : count ≤ length buffer
  pub next : MatchOption old.left (Unit {0}) (λ left. AreNext count left buffer buffer_now)
  pub behind : drop count buffer_now ≡ drop count buffer
  pub after : new ≡ after_read old count buffer

-- A read failed, and gave nothing.
pub record IsNotGiven (old new : SourceState) (buffer buffer_now : List ℕ) : Type 0 where
  pub buffer_stays : buffer_now ≡ buffer
  pub after : new ≡ after_failed_read old

-- what one read into the buffer does, with what it answers
abbrev pub IsRead : Result ℕ Failed → SourceState → SourceState → List ℕ → List ℕ → Type 0
IsRead result old new buffer buffer_now =
    MatchResult result (λ count. IsGiven count old new buffer buffer_now) (λ _. IsNotGiven old new buffer buffer_now)
