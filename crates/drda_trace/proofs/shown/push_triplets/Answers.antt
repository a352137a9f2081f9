use Rattle.std.proofs.Common.{◌≡◌, List, length, ap, sym, ◌∙◌, subst, arith}
use Rattle.std.specs.Prelude.{OnOk}
use Rattle.fdoca_pass.specs.Triplets.{Scan, after_next}
use Rattle.fdoca_pass.specs.Seen.{seen}
use Rattle.fdoca_pass.proofs.Walking.{steps, is_next, is_fault}
use Rattle.drda_trace.specs.declared.line.Line.{Line}
use Rattle.drda_trace.proofs.Showing.{triplet_shown, fault_shown, none_shown}
use Rattle.drda_trace.proofs.shown.push_triplets.Goals as goal

pub loop-next-smaller : goal.loop-next-smaller
loop-next-smaller c =
    let e = is_next c.loop-next.scan c.in-Some.next c.in-Ok.triplet c.in-Ok.is c.in-Some.ensures.answer in
    let step = steps c.loop-next.scan (seen c.in-Ok.triplet) e in
    let size : length c.next.new.self.left ≡ length (after_next c.loop-next.scan).left = ap (λ (s : Scan). length s.left) c.next.ensures.after in
    omega (arith, step.smaller, size)

pub loop-next-preserved : goal.loop-next-preserved
loop-next-preserved c =
    let e = is_next c.loop-next.scan c.in-Some.next c.in-Ok.triplet c.in-Ok.is c.in-Some.ensures.answer in
    triplet_shown c.loop-next.lines c.push.new.self c.loop-next.scan c.next.new.self (seen c.in-Ok.triplet) e c.next.ensures.after c.in_ok-push-in-Ok.ensures.ok
    ∙ c.loop-next.invariant

pub returns-in-Err : goal.returns-in-Err
returns-in-Err c =
    let e = is_fault c.loop-next.scan c.in-Some.next c.in-Err.field-0 c.in-Err.is c.in-Some.ensures.answer in
    subst (λ (lines : List Line). OnOk c.push-in-Err.result (c.push-in-Err.new.self ≡ lines))
    (fault_shown c.loop-next.lines c.loop-next.scan c.in-Err.field-0 e ∙ c.loop-next.invariant) c.push-in-Err.ensures.ok

pub returns : goal.returns
returns c = none_shown c.loop-next.lines c.loop-next.scan c.in_default.ensures.answer ∙ c.loop-next.invariant
