use Rattle.std.proofs.Common.{◌≡◌, ℕ, ◌+◌, ◌-◌, ◌<◌, ◌≤◌, List, length, take, drop, refl, sym, ap, subst, ◌∙◌, arith}
use Rattle.std.proofs.lemmas.List.{take_rest, length-take, length-drop}
use Rattle.dss_frame.specs.Segments.{dss_of}
use Rattle.dss_frame.proofs.Loops.Extending.{Extends-append}
use Rattle.dss_frame.proofs.Pieces.NextStep.{is_read}
use Rattle.dss_frame.proofs.Loops.Scan.{step_at, read_at, scanned_waits, scanned_stops, reads_more, whole_part}
use Rattle.dss_frame.specs.Walk.{ReadsBehind}
use Rattle.dss_frame.proofs.OneDss.Judging.{whole_dss}
use Rattle.dss_frame.proofs.Loops.Walk.{none_walked, walked_nothing}
use Rattle.dss_frame.proofs.scan.Scanner.scan.Goals as goal

pub returns-in-Waits-clause-ok : goal.returns-in-Waits-clause-ok
returns-in-Waits-clause-ok c =
    let step = step_at c.args.self.side c.loop-fault.position c.args.bytes.now c.loop-fault.begins _ (sym c.in-Waits.is ∙ c.next-next.ensures.step) in
    scanned_waits _ _ c.args.bytes.now _ _ _ _ _ _ _ c.loop-fault.invariant.reads_on step

pub returns-in-Stops-clause-ok : goal.returns-in-Stops-clause-ok
returns-in-Stops-clause-ok c =
    let step = step_at c.args.self.side c.loop-fault.position c.args.bytes.now c.loop-fault.begins _ (sym c.in-Stops.is ∙ c.next-next.ensures.step) in
    scanned_stops _ _ c.args.bytes.now _ _ _ _ _ _ _ c.loop-fault.invariant.reads_on step

pub slice_bounds-bytes-end : goal.slice_bounds-bytes-end
slice_bounds-bytes-end c =
    let rest : List ℕ = drop c.loop-fault.begins c.args.bytes.now in
    let read = read_at c.args.self.side c.loop-fault.position c.args.bytes.now c.loop-fault.begins c.in-Reads.len (sym c.in-Reads.is
    ∙ c.next-next.ensures.step) in
    rw (take_rest c.args.bytes.now c.loop-fault.begins, length-take c.in-Reads.len rest) (omega (arith, read.within))

pub put_dss-requires-clause-whole : goal.put_dss-requires-clause-whole
put_dss-requires-clause-whole c =
    let rest : List ℕ = drop c.loop-fault.begins c.args.bytes.now in
    let read = read_at c.args.self.side c.loop-fault.position c.args.bytes.now c.loop-fault.begins c.in-Reads.len (sym c.in-Reads.is
    ∙ c.next-next.ensures.step) in
    rw (take_rest c.args.bytes.now c.loop-fault.begins) (whole_part c.args.self.side rest c.in-Reads.len read.ends)

pub put_dss-requires-clause-begins : goal.put_dss-requires-clause-begins
put_dss-requires-clause-begins c =
    let rest : List ℕ = drop c.loop-fault.begins c.args.bytes.now in
    let read = read_at c.args.self.side c.loop-fault.position c.args.bytes.now c.loop-fault.begins c.in-Reads.len (sym c.in-Reads.is
    ∙ c.next-next.ensures.step) in
    let size : length (take c.in-Reads.len rest) ≡ c.in-Reads.len = omega (arith, length-take c.in-Reads.len rest, read.within) in
    rw (take_rest c.args.bytes.now c.loop-fault.begins) (ap (λ (n : ℕ). take n rest) (sym size))

pub after-position-requires-clause-header : goal.after-position-requires-clause-header
after-position-requires-clause-header c =
    let rest : List ℕ = drop c.loop-fault.begins c.args.bytes.now in
    let read = read_at c.args.self.side c.loop-fault.position c.args.bytes.now c.loop-fault.begins c.in-Reads.len (sym c.in-Reads.is
    ∙ c.next-next.ensures.step) in
    let w = whole_dss c.args.self.side rest c.in-Reads.len read.ends in
    rw (take_rest c.args.bytes.now c.loop-fault.begins) (omega (arith, w.least, length-take c.in-Reads.len rest, read.within))

pub overflow_add-begins : goal.overflow_add-begins
overflow_add-begins c =
    let read = read_at c.args.self.side c.loop-fault.position c.args.bytes.now c.loop-fault.begins c.in-Reads.len (sym c.in-Reads.is
    ∙ c.next-next.ensures.step) in
    omega (arith, read.within, length-drop c.loop-fault.begins c.args.bytes.now)

pub loop-fault-smaller : goal.loop-fault-smaller
loop-fault-smaller c =
    let read = read_at c.args.self.side c.loop-fault.position c.args.bytes.now c.loop-fault.begins c.in-Reads.len (sym c.in-Reads.is
    ∙ c.next-next.ensures.step) in
    let less : length c.args.bytes.now - (c.loop-fault.begins + c.in-Reads.len) < length c.args.bytes.now - c.loop-fault.begins =
    omega (arith, read.some, read.within, length-drop c.loop-fault.begins c.args.bytes.now) in
    less

pub loop-fault-preserved : goal.loop-fault-preserved
loop-fault-preserved c =
    let last : c.next-next.result.walked + 3 ≤ c.in-Reads.len = subst (ReadsBehind c.next-next.result.walked) c.in-Reads.is c.next-next.ensures.last in
    let step = step_at c.args.self.side c.loop-fault.position c.args.bytes.now c.loop-fault.begins _ (sym c.in-Reads.is ∙ c.next-next.ensures.step) in
    let read = is_read c.args.self.side c.loop-fault.position (drop c.loop-fault.begins c.args.bytes.now) c.in-Reads.len step in
    let bytes : List ℕ = take c.in-Reads.len (drop c.loop-fault.begins c.args.bytes.now) in
    let here : take c.in-Reads.len (take (length c.args.bytes.now - c.loop-fault.begins) (drop c.loop-fault.begins c.args.bytes.now)) ≡ bytes =
    ap (λ (xs : List ℕ). take c.in-Reads.len xs) (take_rest c.args.bytes.now c.loop-fault.begins) in
    let size : length bytes ≡ c.in-Reads.len = omega (arith, length-take c.in-Reads.len (drop c.loop-fault.begins c.args.bytes.now), read.within) in
    let more = reads_more _ _ c.args.bytes.now _ c.loop-fault.position _ c.loop-fault.whole.items _ c.in-Reads.len
    (dss_of bytes) c.loop-fault.invariant.reads_on step refl in
    record {
      kept = rw c.in_ok-put_dss-in-Reads.ensures.put (Extends-append _ _ _ c.loop-fault.invariant.kept);
      reads_on = rw (c.in_ok-put_dss-in-Reads.ensures.put, c.after-position.ensures, here, size) more;
      is_walked = none_walked _;
      steps = omega (arith, c.loop-fault.invariant.steps, c.next-next.ensures.steps, last);
    }

pub returns-in-Stops-clause-walked : goal.returns-in-Stops-clause-walked
returns-in-Stops-clause-walked c = sym (walked_nothing c.args.bytes.now)

pub overflow_add-judged : goal.overflow_add-judged
overflow_add-judged c =
    let left = length-drop c.loop-fault.begins c.args.bytes.now in
    omega (
      arith,
      c.loop-fault.invariant.steps,
      c.loop-fault.invariant.reads_on.within,
      c.next-next.ensures.steps,
      c.next-next.ensures.within,
      length-take
          {A = ℕ},
    )

pub returns-in-Stops-clause-steps : goal.returns-in-Stops-clause-steps
returns-in-Stops-clause-steps c =
    let left = length-drop c.loop-fault.begins c.args.bytes.now in
    omega (
      arith,
      c.loop-fault.invariant.steps,
      c.loop-fault.invariant.reads_on.within,
      c.next-next.ensures.steps,
      c.next-next.ensures.within,
      length-take
          {A = ℕ},
    )
