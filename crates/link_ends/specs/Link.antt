-- What a link is seen as, and what one read and one write of it do. No standard speaks of links: they are this project's own.
use Rattle.std.specs.Prelude.{ℕ, List, ◌++◌, ◌≡◌, Bool, true, nat_eq, Option, Some, None, option_map, Result, MatchResult, length, take}
use Rattle.link_ends.specs.declared.source.Failed.{Failed}
use Rattle.link_ends.specs.Source.{SourceState, IsRead, after_read, after_failed_read}
use Rattle.link_ends.specs.Sink.{SinkState, IsWritten, after_write, after_failed_write}

pub record LinkState : Type 0 where
  -- the bytes that are left to read, those that were read so far, and those that were taken so far, each where it tells them
  pub left : Option (List ℕ)
  pub heard : Option (List ℕ)
  pub taken : Option (List ℕ)
  -- how many calls have failed, how many reads have met the end, and how many writes of a piece that isn't empty took none of it
  pub faults : ℕ
  pub ends : ℕ
  pub stuck : ℕ

-- a link as where bytes come from, and as where they go
abbrev pub as_source : LinkState → SourceState
as_source link = record { left = link.left; faults = link.faults; ends = link.ends }

abbrev pub as_sink : LinkState → SinkState
as_sink link = record { taken = link.taken; faults = link.faults; stuck = link.stuck }

-- the link whose reading side is this one, and the link whose writing side is
abbrev pub with_source : SourceState → LinkState → LinkState
with_source source link = record link { left = source.left; faults = source.faults; ends = source.ends }

abbrev pub with_sink : SinkState → LinkState → LinkState
with_sink sink link = record link { taken = sink.taken; faults = sink.faults; stuck = sink.stuck }

-- a link after a read that put so many bytes into the front of the buffer, which then has these bytes
abbrev pub after_link_read : LinkState → ℕ → List ℕ → LinkState
after_link_read old count buffer_now =
    record (with_source (after_read (as_source old) count buffer_now) old) {
      heard = option_map (λ heard. heard ++ take count buffer_now) old.heard;
    }

-- A read gives bytes, or fails, as one of a source does, and leaves the bytes that were taken.
pub record IsHeard (result : Result ℕ Failed) (old new : LinkState) (buffer buffer_now : List ℕ) : Type 0 where
  pub read : IsRead result (as_source old) (as_source new) buffer buffer_now
  pub after :
      MatchResult result (λ count. new ≡ after_link_read old count buffer_now)
      (λ _. new ≡ with_source (after_failed_read (as_source old)) old)

-- A write takes bytes, or fails, as one of a sink does, and leaves the bytes that are left and those that were read.
pub record IsSaid (result : Result ℕ Failed) (old new : LinkState) (piece : List ℕ) : Type 0 where
  pub written : IsWritten result (as_sink old) (as_sink new) piece
  pub after :
      MatchResult result (λ count. new ≡ with_sink (after_write (as_sink old) count piece) old)
      (λ _. new ≡ with_sink (after_failed_write (as_sink old)) old)

-- none of these bytes, where they are told
abbrev pub is_none_told : Option (List ℕ) → Bool
is_none_told (Some bytes) = nat_eq (length bytes) 0
is_none_told None = true

-- a link that nobody used: no call failed, and nothing was read or taken, where it tells that
pub record IsFresh (link : LinkState) : Type 0 where
  pub faults : link.faults ≡ 0
  pub heard : is_none_told link.heard ≡ true
  pub taken : is_none_told link.taken ≡ true
