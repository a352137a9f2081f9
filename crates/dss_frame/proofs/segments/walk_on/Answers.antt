use Rattle.std.proofs.Common.{ℕ, ◌+◌, ◌-◌, ◌<◌, List, length, drop, ap, ◌∙◌, arith}
use Rattle.std.proofs.lemmas.List.{length-drop}
use Rattle.dss_frame.specs.declared.segments.Extent.TheVariants.{Ends}
use Rattle.dss_frame.proofs.OneDss.FirstSegment.{IsWhole}
use Rattle.dss_frame.proofs.Loops.Walk.{stops_short, stops_low, stops_cut, stops_last, size_at, continues_at, walks_on}
use Rattle.dss_frame.proofs.segments.walk_on.Goals as goal

pub returns-then-rest-lt-FURTHER_HEADER : goal.returns-then-rest-lt-FURTHER_HEADER
returns-then-rest-lt-FURTHER_HEADER c =
    let left = length-drop c.loop-rest.walked c.args.bytes.now in
    let s = stops_short c.loop-rest.walked (drop c.loop-rest.walked c.args.bytes.now) _ _ c.loop-rest.invariant.is_walked.comes_to (omega arith) in
    record {
      extent = s.extent_is;
      walked = s.walked_is;
      steps = omega (arith, c.loop-rest.invariant.steps);
      last = tt;
      within =
          c.loop-rest.invariant.is_walked.within;
    }

pub returns-then-size-lt-LEAST_FURTHER : goal.returns-then-size-lt-LEAST_FURTHER
returns-then-size-lt-LEAST_FURTHER c =
    let left = length-drop c.loop-rest.walked c.args.bytes.now in
    let size = size_at c.args.bytes.now c.loop-rest.walked c.segment_size-size.result c.segment_size-size.ensures.size in
    let s = stops_low c.loop-rest.walked (drop c.loop-rest.walked c.args.bytes.now) _ _ c.loop-rest.invariant.is_walked.comes_to (omega arith) (omega arith) in
    record {
      extent = s.extent_is;
      walked = s.walked_is;
      steps = omega (arith, c.loop-rest.invariant.steps);
      last = tt;
      within =
          c.loop-rest.invariant.is_walked.within;
    }

pub returns-then-rest-size : goal.returns-then-rest-size
returns-then-rest-size c =
    let left = length-drop c.loop-rest.walked c.args.bytes.now in
    let size = size_at c.args.bytes.now c.loop-rest.walked c.segment_size-size.result c.segment_size-size.ensures.size in
    let s = stops_cut c.loop-rest.walked (drop c.loop-rest.walked c.args.bytes.now) _ _ c.loop-rest.invariant.is_walked.comes_to (omega arith) (omega arith)
    (omega arith) in
    record {
      extent = s.extent_is;
      walked = s.walked_is;
      steps = omega (arith, c.loop-rest.invariant.steps);
      last = tt;
      within =
          c.loop-rest.invariant.is_walked.within;
    }

pub returns-then-not-continues : goal.returns-then-not-continues
returns-then-not-continues c =
    let offset : ℕ = c.loop-rest.walked in
    let rest : List ℕ = drop offset c.args.bytes.now in
    let left = length-drop offset c.args.bytes.now in
    let size = size_at c.args.bytes.now offset c.segment_size-size.result c.segment_size-size.ensures.size in
    let last = continues_at c.args.bytes.now offset c.continues.result _ c.continues.ensures c.if-not-continues.true in
    let whole : IsWhole rest = record { long = omega arith; least = omega arith; there = omega arith } in
    let s = stops_last offset rest _ _ c.loop-rest.invariant.is_walked.comes_to whole last in
    record {
      extent = ap (λ (n : ℕ). Ends (offset + n)) size ∙ s.extent_is;
      walked = s.walked_is;
      steps = omega (arith, c.loop-rest.invariant.steps);
      last =
          omega arith;
      within = c.loop-rest.invariant.is_walked.within;
    }

pub loop-rest-smaller : goal.loop-rest-smaller
loop-rest-smaller c =
    let left = length-drop c.loop-rest.walked c.args.bytes.now in
    let less : length c.args.bytes.now - (c.loop-rest.walked + c.segment_size-size.result) < length c.args.bytes.now - c.loop-rest.walked =
    omega (arith, c.loop-rest.invariant.is_walked.within) in
    less

pub loop-rest-preserved : goal.loop-rest-preserved
loop-rest-preserved c =
    let offset : ℕ = c.loop-rest.walked in
    let left = length-drop offset c.args.bytes.now in
    let size = size_at c.args.bytes.now offset c.segment_size-size.result c.segment_size-size.ensures.size in
    let more = continues_at c.args.bytes.now offset c.continues.result _ c.continues.ensures c.if-not-continues.false in
    record {
      is_walked = walks_on c.args.bytes.now offset c.segment_size-size.result c.loop-rest.invariant.is_walked size
          (record { long = omega arith; least = omega arith; there = omega arith }) more;
      steps = omega (arith, c.loop-rest.invariant.steps);
    }

pub overflow_add-judged : goal.overflow_add-judged
overflow_add-judged c = omega (arith, c.loop-rest.invariant.steps, c.loop-rest.invariant.is_walked.within)
