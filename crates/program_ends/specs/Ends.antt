-- What a whole run of reads or of writes has come to. The top calls say their causes by these words, both ways: what
-- each count of an end was raised by, and that nothing else raised it. No standard speaks of these ends.
use Rattle.std.specs.Prelude.{ℕ, List, ◌++◌, ◌≡◌, ◌<◌, ◌≤◌, ◌⊎◌, Bool, true, false, nat_le, Some, MatchOption, option_map, length, take}
use Rattle.link_ends.specs.Counts.{Rose, one_more, counted}
use Rattle.link_ends.specs.Source.{SourceState}
use Rattle.link_ends.specs.Sink.{SinkState, after_failed_write}
use Rattle.hex_lines.specs.Lines.{most_bytes}
use Rattle.program_ends.specs.declared.input.ReadError.{ReadError}
use Rattle.program_ends.specs.declared.input.ReadError.TheVariants.{Fault, NoMemory}

-- a source gave the text, where it tells its bytes, and has what followed it left
abbrev pub Gave : SourceState → SourceState → List ℕ → Type 0
Gave old new text = MatchOption old.left (Unit {0}) (λ bytes. (rest : List ℕ) × (bytes ≡ text ++ rest) × (new.left ≡ Some rest))

-- The text was read of a source. No read failed. The last one met the end, and then the text is all that was left; or
-- none did.
pub record WasRead (to_end : Bool) (old new : SourceState) (text : List ℕ) : Type 0 where
  pub gave : Gave old new text
  pub all : to_end ≡ true → MatchOption old.left (Unit {0}) (λ bytes. bytes ≡ text)
  pub ends : new.ends ≡ counted to_end old.ends
  pub faults : new.faults ≡ old.faults

-- a text was read of a source to its end, or until it was longer than the longest that is read
abbrev pub WasReadUp : SourceState → SourceState → List ℕ → Type 0
WasReadUp old new text = WasRead (nat_le (length text) most_bytes) old new text

-- some text was read of a source
abbrev pub ReadSome : SourceState → SourceState → Type 0
ReadSome old new = (to_end : Bool) × (text : List ℕ) × WasRead to_end old new text

-- A read failed. What was read before it is no longer than the longest that is read, and didn't meet the end.
pub record ReadBrokeOff (old new : SourceState) : Type 0 where
  pub text : List ℕ
  pub gave : Gave old new text
  pub within : length text ≤ most_bytes
  pub ends : new.ends ≡ old.ends
  pub fault : new.faults ≡ one_more old.faults

-- why reading stopped before the end
abbrev pub ReadFails : SourceState → SourceState → ReadError → Type 0
ReadFails old new Fault = ReadBrokeOff old new
ReadFails old new NoMemory = ReadSome old new

-- no read failed
abbrev pub NoReadFailed : SourceState → SourceState → Type 0
NoReadFailed old new = Rose old.faults new.faults → ⊥

-- a sink that took this text further: no write of it failed or was stuck
abbrev pub with_taken : SinkState → List ℕ → SinkState
with_taken old text = record old { taken = option_map (λ bytes. bytes ++ text) old.taken }

-- a sink took all of the text
abbrev pub Took : SinkState → SinkState → List ℕ → Type 0
Took old new text = new ≡ with_taken old text

-- one more write took nothing of a piece that isn't empty
abbrev pub after_stuck_write : SinkState → SinkState
after_stuck_write old = record old { stuck = one_more old.stuck }

-- A sink took the first bytes of the text, fewer than it has. Then one write failed, or was stuck.
pub record BrokeOff (old new : SinkState) (text : List ℕ) : Type 0 where
  pub count : ℕ
  pub fewer : count < length text
  pub cause : let begun = with_taken old (take count text) in (new ≡ after_failed_write begun) ⊎ (new ≡ after_stuck_write begun)

-- no write failed, and none was stuck
abbrev pub NoWriteFailed : SinkState → SinkState → Type 0
NoWriteFailed old new = (Rose old.faults new.faults ⊎ Rose old.stuck new.stuck) → ⊥

-- a text was offered to a sink, which took all of it, or broke off
abbrev pub Offered : SinkState → SinkState → List ℕ → Type 0
Offered old new text = Took old new text ⊎ BrokeOff old new text
