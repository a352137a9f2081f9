-- Ends in memory as contracts see them, and what each of their calls answers. No standard speaks of them.
use Rattle.std.specs.Prelude.{ℕ, List, Some, Bool, length, nat_eq, nat_lt, ◌&&◌, ◌||◌}
use Rattle.std.specs.List.{list_any}
use Rattle.link_ends.specs.Source.{SourceState}
use Rattle.link_ends.specs.Sink.{SinkState}

-- a source: the bytes left, the numbers of the calls that are to fail, how many calls there were, and its counts
pub record Supply : Type 0 where
  pub left : List ℕ
  pub marks : List ℕ
  pub calls : ℕ
  pub faults : ℕ
  pub ends : ℕ

-- a sink: the bytes taken, how many more fit, and the same for its calls
pub record Store : Type 0 where
  pub taken : List ℕ
  pub room : ℕ
  pub marks : List ℕ
  pub calls : ℕ
  pub faults : ℕ

-- the call of this number is to fail
abbrev pub is_marked : List ℕ → ℕ → Bool
is_marked marks call = list_any (λ mark. nat_eq mark call) marks

-- a write can't be taken: its call is marked, or the piece has bytes and no more fit
abbrev pub is_refused : Store → List ℕ → Bool
is_refused sink piece = is_marked sink.marks sink.calls || (nat_eq sink.room 0 && nat_lt 0 (length piece))

-- as a source it tells the bytes that are left
abbrev pub source_state : Supply → SourceState
source_state s = record { left = Some s.left; faults = s.faults; ends = s.ends }

-- As a sink it tells the bytes taken. It fails where nothing fits, so no write of it takes nothing.
abbrev pub sink_state : Store → SinkState
sink_state s = record { taken = Some s.taken; faults = s.faults; stuck = 0 }
