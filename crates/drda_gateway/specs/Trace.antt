-- What each status of trace says. No standard speaks of it.
use Rattle.std.specs.Prelude.{ℕ, List, [], ◌∷◌, ◌++◌, ◌≡◌, Bool, codes}
use Rattle.std.specs.Fmt.{decimal}
use Rattle.link_ends.specs.Source.{SourceState}
use Rattle.link_ends.specs.Sink.{SinkState}
use Rattle.hex_lines.specs.Lines.{line_end}
use Rattle.drda_trace.specs.declared.trace.Traced.{Traced}
use Rattle.drda_trace.specs.Trace.{trace_of}
use Rattle.program_ends.specs.Command.{WroteAll, WroteSome, WroteRefusal}

-- the words that trace is called by
abbrev pub trace_words : List (List ℕ)
trace_words = codes "trace" ∷ []

abbrev pub usage_text : List ℕ
usage_text = codes "usage: drda_gateway trace" ++ line_end

abbrev pub refusal_text : ℕ → List ℕ
refusal_text line = codes "capture refused: line " ++ (decimal line ++ line_end)

abbrev pub traced_text : Traced → List ℕ
traced_text traced = traced.text

-- the whole text of a capture was written, which is whole, or isn't
pub record WasTraced (whole : Bool) (source source_now : SourceState) (sink sink_now : SinkState) : Type 0 where
  pub wrote : WroteAll trace_of traced_text source source_now sink sink_now
  pub verdict : wrote.said.whole ≡ whole

abbrev pub RefusedCapture : SourceState → SourceState → SinkState → SinkState → Type 0
RefusedCapture source source_now sink sink_now = WroteRefusal trace_of refusal_text source source_now sink sink_now

abbrev pub BegunTrace : SourceState → SourceState → SinkState → SinkState → Type 0
BegunTrace source source_now sink sink_now = WroteSome trace_of traced_text source source_now sink sink_now
