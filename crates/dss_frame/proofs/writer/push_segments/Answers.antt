use Rattle.std.proofs.Common.{◌<◌, ℕ, List, ◌++◌, not, length, take, drop, arith, ap, sym, ◌∙◌}
use Rattle.std.proofs.lemmas.List.{length-take, length-drop}
use Rattle.std.proofs.lemmas.Bool.{eqb-true}
use Rattle.std.proofs.lemmas.Result.{err_from_is_err_and}
use Rattle.dss_frame.proofs.Spellings.Spelling.{nonempty, wrote_first, wrote_further, wrote_all}
use Rattle.dss_frame.proofs.Loops.Extending.{Extends-append}
use Rattle.dss_frame.proofs.writer.push_segments.Goals as goal

pub header_bytes-requires : goal.header_bytes-requires
header_bytes-requires c = omega (arith, ap length c.cut.ensures.part, length-take {A = ℕ})

pub push_length-requires : goal.push_length-requires
push_length-requires c = omega (arith, ap length c.cut-in-loop-rest.ensures.part, length-take {A = ℕ})

pub loop-rest-init : goal.loop-rest-init
loop-rest-init c =
    let body = c.as_slice.ensures in
    let w = wrote_first c.args.dss.now c.args.out.now c.push_front_of.new.self c.push_all.new.self c.cut.result.0.now c.cut.result.1.now _
    (c.cut.ensures.part ∙ ap (take 32761) body) (c.cut.ensures.rest ∙ ap (drop 32761) body) (ap not c.is_empty.ensures)
    (c.in_ok-push_front_of.ensures.ok ∙ ap (λ (xs : List ℕ). c.args.out.now ++ xs) c.header_bytes.ensures) c.in_ok-push_all.ensures.ok in
    record { kept = w.0; goes_on = w.1 }

pub returns-in_err-push_all-2-clause-err : goal.returns-in_err-push_all-2-clause-err
returns-in_err-push_all-2-clause-err c =
    let p = err_from_is_err_and c.from_residual-in_err-push_all-2.result c.from_residual-in_err-push_all-2.ensures.1 in
    rw (p.1, c.in_err-push_all-2.ensures.err, c.in_ok-push_length.ensures.ok) (Extends-append _ _ _ c.loop-rest.invariant.kept)

pub loop-rest-smaller : goal.loop-rest-smaller
loop-rest-smaller c =
    let some = nonempty (length c.loop-rest.rest.now) _ c.is_empty-in-loop-rest.ensures c.loop-rest-test.true in
    let less : length c.cut-in-loop-rest.result.1.now < length c.loop-rest.rest.now =
    omega (arith, some, ap length c.cut-in-loop-rest.ensures.rest, length-drop {A = ℕ}) in
    less

pub loop-rest-preserved : goal.loop-rest-preserved
loop-rest-preserved c =
    let some = nonempty (length c.loop-rest.rest.now) _ c.is_empty-in-loop-rest.ensures c.loop-rest-test.true in
    let w = wrote_further c.args.out.now c.loop-rest.out c.push_length.new.out c.push_all-in-loop-rest.new.self c.cut-in-loop-rest.result.0.now
    c.loop-rest.rest.now c.cut-in-loop-rest.result.1.now _ _
    some c.cut-in-loop-rest.ensures.part c.cut-in-loop-rest.ensures.rest (ap not c.is_empty-in-loop-rest-2.ensures)
    c.in_ok-push_length.ensures.ok c.in_ok-push_all-2.ensures.ok c.loop-rest.invariant.kept c.loop-rest.invariant.goes_on in
    record { kept = w.0; goes_on = w.1 }

pub returns-clause-ok : goal.returns-clause-ok
returns-clause-ok c = wrote_all _ _ _ (eqb-true _ _ (sym c.is_empty-in-loop-rest.ensures ∙ c.loop-rest-test.false)) c.loop-rest.invariant.goes_on
