-- How a command ends that reads a text to its end and writes another: one that shows what the first says, or why it is
-- refused. No standard speaks of it.
use Rattle.std.specs.Prelude.{ℕ, List, ◌≡◌, Result, Ok, Err, true}
use Rattle.link_ends.specs.Source.{SourceState}
use Rattle.link_ends.specs.Sink.{SinkState}
use Rattle.program_ends.specs.Ends.{WasRead, WasReadUp, Took, BrokeOff, Offered}

-- The source was read to its end, and the sink took all that shows what its text says.
pub record WroteAll {A F : Type 0} (read_as : List ℕ → Result A F) (shown : A → List ℕ)
    (source source_now : SourceState) (sink sink_now : SinkState) : Type 0 where
  pub text : List ℕ
  pub said : A
  pub read : WasRead true source source_now text
  pub says : read_as text ≡ Ok said
  pub took : Took sink sink_now (shown said)

-- The source was read to its end, and the sink took fewer bytes than show what its text says.
pub record WroteSome {A F : Type 0} (read_as : List ℕ → Result A F) (shown : A → List ℕ)
    (source source_now : SourceState) (sink sink_now : SinkState) : Type 0 where
  pub text : List ℕ
  pub said : A
  pub read : WasRead true source source_now text
  pub says : read_as text ≡ Ok said
  pub begun : BrokeOff sink sink_now (shown said)

-- The source gave a text that is refused, read to its end or past the longest one, and the sink was offered why.
pub record WroteRefusal {A F : Type 0} (read_as : List ℕ → Result A F) (refusal_text : F → List ℕ)
    (source source_now : SourceState) (sink sink_now : SinkState) : Type 0 where
  pub text : List ℕ
  pub refusal : F
  pub read : WasReadUp source source_now text
  pub is_refused : read_as text ≡ Err refusal
  pub told : Offered sink sink_now (refusal_text refusal)
