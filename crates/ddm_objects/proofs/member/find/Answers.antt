use Rattle.std.proofs.Common.{◌≡◌, option_map, length, refl, ap, arith}
use Rattle.std.proofs.lemmas.Result.{err_from_is_err_and}
use Rattle.ddm_objects.specs.Members.{Scan, after_next}
use Rattle.ddm_objects.specs.Seen.{seen}
use Rattle.ddm_objects.proofs.Reading.Read.{steps, find_fault, find_found}
use Rattle.ddm_objects.proofs.Reading.Finding.{is_next, has_fault, has_no_fault, searches_on, all_searched}
use Rattle.ddm_objects.proofs.member.find.Goals as goal

pub returns-in_err-next-clause-found : goal.returns-in_err-next-clause-found
returns-in_err-next-clause-found c =
    let p = err_from_is_err_and c.from_residual.result c.from_residual.ensures.1 in
    let fault =
    has_fault c.args.bytes.now c.args.code c.loop-next.scan c.loop-next.found c.in-Some.next c.in_err-next.field-0.0 c.loop-next.invariant
    c.in_err-next.was c.in-Some.ensures.answer in
    rw (p.1, p.2) (find_fault c.args.bytes.now c.args.code c.in_err-next.field-0.0 fault)

pub returns-in_err-next-clause-sound : goal.returns-in_err-next-clause-sound
returns-in_err-next-clause-sound c =
    let p = err_from_is_err_and c.from_residual.result c.from_residual.ensures.1 in
    let fault =
    has_fault c.args.bytes.now c.args.code c.loop-next.scan c.loop-next.found c.in-Some.next c.in_err-next.field-0.0 c.loop-next.invariant
    c.in_err-next.was c.in-Some.ensures.answer in
    rw p.1 (λ ok. absurd cc, λ none. absurd cc)

pub loop-next-smaller : goal.loop-next-smaller
loop-next-smaller c =
    let e = is_next c.loop-next.scan c.in-Some.next c.in_ok-next.field-0 c.in_ok-next.was c.in-Some.ensures.answer in
    let step = steps c.loop-next.scan (seen c.in_ok-next.field-0) e in
    let size : length c.next.new.self.left ≡ length (after_next c.loop-next.scan).left = ap (λ (s : Scan). length s.left) c.next.ensures.after in
    omega (arith, step.smaller, size)

pub loop-next-preserved : goal.loop-next-preserved
loop-next-preserved c =
    let e = is_next c.loop-next.scan c.in-Some.next c.in_ok-next.field-0 c.in_ok-next.was c.in-Some.ensures.answer in
    searches_on c.args.bytes.now c.args.code c.loop-next.scan c.next.new.self c.loop-next.found c.or_first-found.result c.in_ok-next.field-0
    c.loop-next.invariant e c.next.ensures.after c.or_first-found.ensures.first c.or_first-found.ensures.either

pub returns-clause-found : goal.returns-clause-found
returns-clause-found c =
    let fault = has_no_fault c.args.bytes.now c.args.code c.loop-next.scan c.loop-next.found c.loop-next.invariant c.in_default.ensures.answer in
    find_found c.args.bytes.now c.args.code (option_map seen c.loop-next.found) fault
    (all_searched c.args.bytes.now c.args.code c.loop-next.scan c.loop-next.found c.loop-next.invariant c.in_default.ensures.answer)

pub returns-clause-sound : goal.returns-clause-sound
returns-clause-sound c =
    (λ _. has_no_fault c.args.bytes.now c.args.code c.loop-next.scan c.loop-next.found c.loop-next.invariant c.in_default.ensures.answer, λ _. refl)
