use Rattle.std.proofs.Common.{◌≡◌, ◌∙◌, List, ℕ, true, false, subst, sym, ap, refl, inl, rules}
use Rattle.link_ends.specs.Source.{SourceState}
use Rattle.link_ends.specs.Sink.{SinkState}
use Rattle.program_ends.specs.Ends.{Offered}
use Rattle.drda_gateway.proofs.Tracing.{was_traced, trace_begun, refused, same_trace, never_refused, never_traced, status_of}
use Rattle.drda_gateway.proofs.trace.trace.Goals as goal

pub returns-in-Ok-write_all-clause-done : goal.returns-in-Ok-write_all-clause-done
returns-in-Ok-write_all-clause-done g c = λ _.
    let verdict : c.in-Ok-trace_text.traced.whole ≡ true = search rules in
    was_traced true _ _ _ _ c.in-Ok.text c.as_slice.result.now c.as_slice-in-Ok-trace_text.result.now c.in-Ok-trace_text.traced c.in-Ok.ensures.read
    c.as_slice.ensures c.in-Ok-trace_text.ensures c.as_slice-in-Ok-trace_text.ensures verdict c.in-Ok-write_all.ensures.took

pub returns-in-Ok-write_all-clause-traces : goal.returns-in-Ok-write_all-clause-traces
returns-in-Ok-write_all-clause-traces g c = λ told of_told tells is words reads writes.
    let verdict : c.in-Ok-trace_text.traced.whole ≡ true = search rules in
    inl (status_of true of_told c.in-Ok-trace_text.traced 0
    (same_trace _ _ told c.in-Ok.text c.as_slice.result.now c.in-Ok-trace_text.traced of_told tells is c.in-Ok.ensures.read c.as_slice.ensures
    c.in-Ok-trace_text.ensures) verdict refl)

pub returns-in-Ok-write_all-clause-refuses : goal.returns-in-Ok-write_all-clause-refuses
returns-in-Ok-write_all-clause-refuses g c = λ told line tells is words reads.
    absurd (never_traced _ _ told c.in-Ok.text c.as_slice.result.now c.in-Ok-trace_text.traced line tells is c.in-Ok.ensures.read c.as_slice.ensures
    c.in-Ok-trace_text.ensures)

pub returns-in-Ok-2-clause-not_whole : goal.returns-in-Ok-2-clause-not_whole
returns-in-Ok-2-clause-not_whole g c = λ _.
    let verdict : c.in-Ok-trace_text.traced.whole ≡ false = search rules in
    was_traced false _ _ _ _ c.in-Ok.text c.as_slice.result.now c.as_slice-in-Ok-trace_text.result.now c.in-Ok-trace_text.traced c.in-Ok.ensures.read
    c.as_slice.ensures c.in-Ok-trace_text.ensures c.as_slice-in-Ok-trace_text.ensures verdict c.in-Ok-2.ensures.took

pub returns-in-Ok-2-clause-traces : goal.returns-in-Ok-2-clause-traces
returns-in-Ok-2-clause-traces g c = λ told of_told tells is words reads writes.
    let verdict : c.in-Ok-trace_text.traced.whole ≡ false = search rules in
    inl (status_of false of_told c.in-Ok-trace_text.traced 6
    (same_trace _ _ told c.in-Ok.text c.as_slice.result.now c.in-Ok-trace_text.traced of_told tells is c.in-Ok.ensures.read c.as_slice.ensures
    c.in-Ok-trace_text.ensures) verdict refl)

pub returns-in-Ok-2-clause-refuses : goal.returns-in-Ok-2-clause-refuses
returns-in-Ok-2-clause-refuses g c = λ told line tells is words reads.
    absurd (never_traced _ _ told c.in-Ok.text c.as_slice.result.now c.in-Ok-trace_text.traced line tells is c.in-Ok.ensures.read c.as_slice.ensures
    c.in-Ok-trace_text.ensures)

pub returns-in-Ok-trace_text-clause-sink_fault : goal.returns-in-Ok-trace_text-clause-sink_fault
returns-in-Ok-trace_text-clause-sink_fault g c = λ _.
    trace_begun _ _ _ _ c.in-Ok.text c.as_slice.result.now c.as_slice-in-Ok-trace_text.result.now c.in-Ok-trace_text.traced c.in-Ok.ensures.read
    c.as_slice.ensures c.in-Ok-trace_text.ensures c.as_slice-in-Ok-trace_text.ensures c.in-Err.ensures.broke_off

pub returns-in-Ok-trace_text-clause-refuses : goal.returns-in-Ok-trace_text-clause-refuses
returns-in-Ok-trace_text-clause-refuses g c = λ told line tells is words reads.
    absurd (never_traced _ _ told c.in-Ok.text c.as_slice.result.now c.in-Ok-trace_text.traced line tells is c.in-Ok.ensures.read c.as_slice.ensures
    c.in-Ok-trace_text.ensures)

pub returns-in-Ok-refusal-clause-refused : goal.returns-in-Ok-refusal-clause-refused
returns-in-Ok-refusal-clause-refused g c = λ _.
    let before : SinkState = g.K.Sink.state c.args.sink.now in
    let now : SinkState = g.K.Sink.state c.offer-in-Ok-refusal.new.sink in
    record {
      text = c.in-Ok.text;
      refusal = c.in-Err-Refused.line;
      read = c.in-Ok.ensures.read;
      is_refused = refused c.in-Ok.text c.as_slice.result.now c.in-Err-Refused.field-0 c.in-Err-Refused.line c.as_slice.ensures
          c.in-Err-Refused.field-0-is c.in-Err-Refused.ensures;
      told = subst (λ (t : List ℕ). Offered before now t) (c.as_bytes.ensures.value ∙ c.as_str.ensures.value
          ∙ c.in-Ok-refusal.ensures) c.offer-in-Ok-refusal.ensures;
    }

pub returns-in-Ok-refusal-clause-traces : goal.returns-in-Ok-refusal-clause-traces
returns-in-Ok-refusal-clause-traces g c = λ told of_told tells is words reads writes.
    let before : SourceState = g.S.Source.state c.args.source.now in
    let now : SourceState = g.S.Source.state c.read_all.new.source in
    absurd (never_refused before now told c.in-Ok.text of_told c.in-Err-Refused.line tells is c.in-Ok.ensures.read
    (refused c.in-Ok.text c.as_slice.result.now c.in-Err-Refused.field-0 c.in-Err-Refused.line c.as_slice.ensures
    c.in-Err-Refused.field-0-is c.in-Err-Refused.ensures))
