-- What a run of trace has read and written, put together.
use Rattle.std.proofs.Common.{◌≡◌, ◌<◌, ◌≤◌, ℕ, List, Bool, Some, Result, Ok, Err, cond, length, sym, subst, ap, ◌∙◌}
use Rattle.link_ends.specs.Source.{SourceState}
use Rattle.link_ends.specs.Sink.{SinkState}
use Rattle.hex_lines.specs.Lines.{most_bytes}
use Rattle.drda_trace.specs.declared.trace.Traced.{Traced}
use Rattle.drda_trace.specs.declared.trace.TraceFault.{TraceFault}
use Rattle.drda_trace.specs.declared.trace.TraceFault.TheVariants.{Refused}
use Rattle.drda_trace.specs.Answers.{Reads}
use Rattle.drda_trace.specs.Trace.{trace_of, traced_by}
use Rattle.drda_trace.proofs.Capturing.{capture_of-long}
use Rattle.program_ends.specs.Ends.{WasReadUp, Took, BrokeOff}
use Rattle.drda_gateway.specs.Trace.{WasTraced, BegunTrace, traced_text}
use Rattle.program_ends.proofs.Commanding.{fits, wrote_all, wrote_some, all_told, all_read, not_both}

trace_of-long : (text : List ℕ) → most_bytes < length text → trace_of text ≡ Err 0
unfolding trace_of
trace_of-long text long = ap traced_by (capture_of-long text long)

-- a text that is a capture isn't too long
capture_fits : (text : List ℕ) (traced : Traced) → trace_of text ≡ Ok traced → length text ≤ most_bytes
capture_fits text traced e = fits trace_of text traced 0 (λ long. trace_of-long text long) e

abbrev traced_is : Traced → Result Traced ℕ
traced_is traced = Ok traced

-- the text that is traced is the one that was read
of_text : (text said : List ℕ) (traced : Traced) → said ≡ text → Reads (Ok traced) (trace_of said) → trace_of text ≡ Ok traced
of_text text said traced same reads = sym (ap trace_of same) ∙ reads

pub was_traced : (whole : Bool) (source source_now : SourceState) (sink sink_now : SinkState) (text said shown : List ℕ) (traced : Traced) →
    WasReadUp source source_now text → said ≡ text → Reads (Ok traced) (trace_of said) → shown ≡ traced.text → traced.whole ≡ whole →
    Took sink sink_now shown → WasTraced whole source source_now sink sink_now
was_traced whole source source_now sink sink_now text said shown traced read same reads e verdict took =
    let is_capture = of_text text said traced same reads in
    record {
      wrote = wrote_all trace_of traced_text source source_now sink sink_now text shown traced (capture_fits text traced is_capture) read is_capture e took;
      verdict = verdict;
    }

pub trace_begun : (source source_now : SourceState) (sink sink_now : SinkState) (text said shown : List ℕ) (traced : Traced) →
    WasReadUp source source_now text → said ≡ text → Reads (Ok traced) (trace_of said) → shown ≡ traced.text →
    BrokeOff sink sink_now shown → BegunTrace source source_now sink sink_now
trace_begun source source_now sink sink_now text said shown traced read same reads e begun =
    let is_capture = of_text text said traced same reads in
    wrote_some trace_of traced_text source source_now sink sink_now text shown traced (capture_fits text traced is_capture) read is_capture e begun

pub refused : (text said : List ℕ) (fault : TraceFault) (line : ℕ) → said ≡ text → fault ≡ Refused line → Reads {A = Traced} (Err fault) (trace_of said) →
    trace_of text ≡ Err line
refused text said fault line same is reads =
    let now : Reads {A = Traced} (Err (Refused line)) (trace_of said) = subst (λ (f : TraceFault). Reads {A = Traced} (Err f) (trace_of said)) is reads in
    sym (ap trace_of same) ∙ now

-- a text that was told and is traced is the one that was read
pub same_trace : (source source_now : SourceState) (told text said : List ℕ) (traced of_told : Traced) → source.left ≡ Some told →
    trace_of told ≡ Ok of_told → WasReadUp source source_now text → said ≡ text → Reads (Ok traced) (trace_of said) → of_told ≡ traced
same_trace source source_now told text said traced of_told tells is read same reads =
    let is_capture = of_text text said traced same reads in
    let all = all_told source source_now told text tells read (capture_fits text traced is_capture) in
    let both : traced_is of_told ≡ traced_is traced = sym is ∙ ap trace_of all ∙ is_capture in
    cc

-- it isn't refused
pub never_refused : (source source_now : SourceState) (told text : List ℕ) (of_told : Traced) (line : ℕ) → source.left ≡ Some told →
    trace_of told ≡ Ok of_told → WasReadUp source source_now text → trace_of text ≡ Err line → ⊥
never_refused source source_now told text of_told line tells is read is_refused =
    not_both trace_of told text of_told line (all_read source source_now told text tells read (capture_fits told of_told is)) is is_refused

-- and one that is none isn't traced
pub never_traced : (source source_now : SourceState) (told text said : List ℕ) (traced : Traced) (line : ℕ) → source.left ≡ Some told →
    trace_of told ≡ Err line → WasReadUp source source_now text → said ≡ text → Reads (Ok traced) (trace_of said) → ⊥
never_traced source source_now told text said traced line tells is_refused read same reads =
    let is_capture = of_text text said traced same reads in
    not_both trace_of text told traced line (sym (all_told source source_now told text tells read (capture_fits text traced is_capture))) is_capture
    is_refused

-- the status of a text that was taken
pub status_of : (whole : Bool) (of_told traced : Traced) (status : ℕ) → of_told ≡ traced → traced.whole ≡ whole → status ≡ cond whole 0 6 →
    status ≡ cond of_told.whole 0 6
status_of whole of_told traced status same verdict is =
    is ∙ sym (ap (λ (t : Traced). cond t.whole 0 6) same ∙ ap (λ b. cond b 0 6) verdict)
