use Rattle.std.proofs.Common.{◌≡◌, ◌++◌, List, ℕ, false, take, subst, sym, arith, rules}
use Rattle.link_ends.specs.Source.{SourceState}
use Rattle.program_ends.specs.Ends.{ReadSome}
use Rattle.program_ends.proofs.Ends.{GoesOn, goes_on_more, was_read_some, broke_off}
use Rattle.program_ends.proofs.input.read_all.Goals as goal

pub loop-buf-preserved : goal.loop-buf-preserved
loop-buf-preserved g c =
    let old : SourceState = g.S.Source.state c.args.source.now in
    let before : SourceState = g.S.Source.state c.loop-buf.source in
    let now : SourceState = g.S.Source.state c.read.new.self in
    let more : GoesOn old now (c.loop-buf.text ++ take c.in-Ok.count c.read.new.buf) =
    goes_on_more old before now c.loop-buf.text c.loop-buf.buf c.read.new.buf c.in-Ok.count c.loop-buf.invariant.run c.in-Ok.ensures c.if-count-eq0.false in
    let is : c.push_all.new.self ≡ c.loop-buf.text ++ take c.in-Ok.count c.read.new.buf = grind (arith, c.in_ok-push_all.ensures.ok) in
    record { buffer = search rules; run = subst (λ (t : List ℕ). GoesOn old now t) (sym is) more }

pub returns-in_err-push_all-clause-fails : goal.returns-in_err-push_all-clause-fails
returns-in_err-push_all-clause-fails g c =
    let old : SourceState = g.S.Source.state c.args.source.now in
    let before : SourceState = g.S.Source.state c.loop-buf.source in
    let now : SourceState = g.S.Source.state c.read.new.self in
    let more : GoesOn old now (c.loop-buf.text ++ take c.in-Ok.count c.read.new.buf) =
    goes_on_more old before now c.loop-buf.text c.loop-buf.buf c.read.new.buf c.in-Ok.count c.loop-buf.invariant.run c.in-Ok.ensures c.if-count-eq0.false in
    let some : ReadSome old now = (false, c.loop-buf.text ++ take c.in-Ok.count c.read.new.buf, was_read_some old now _ more) in
    search (rules, some)

pub returns-in-Err-clause-fails : goal.returns-in-Err-clause-fails
returns-in-Err-clause-fails g c =
    let old : SourceState = g.S.Source.state c.args.source.now in
    let before : SourceState = g.S.Source.state c.loop-buf.source in
    let now : SourceState = g.S.Source.state c.read.new.self in
    broke_off old before now c.loop-buf.text c.loop-buf.buf c.read.new.buf c.loop-buf.invariant.run c.in-Err.ensures
    (omega (arith, c.len.ensures, c.loop-buf-test.true))
