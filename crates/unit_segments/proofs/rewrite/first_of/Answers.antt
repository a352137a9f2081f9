use Rattle.std.proofs.Common.{Result, Some, sym, ap, ◌∙◌, arith}
use Rattle.ddm_objects.specs.declared.fault.ObjFault.{ObjFault}
use Rattle.ddm_objects.specs.declared.object.Object.{Object}
use Rattle.ddm_objects.specs.Seen.{seen, seen_result}
use Rattle.unit_segments.proofs.Rewriting.{none_at_fault, none_at_end, stands_first, split_size}
use Rattle.unit_segments.proofs.rewrite.first_of.Goals as goal

pub slice_bounds-result-count : goal.slice_bounds-result-count
slice_bounds-result-count c =
    let answer = ap (λ (r : Result Object ObjFault). Some (seen_result r)) (sym c.in-Some-Ok.field-0-is) ∙ c.in-Some-Ok.ensures.answer in
    let first = stands_first c.args.params.now c.members-scan.result c.next.new.self (seen c.in-Some-Ok.object) c.left-rest.result.now
    c.members-scan.ensures answer c.in-Some-Ok.ensures.after c.left-rest.ensures in
    omega (arith, first.less)

pub returns-in-Some-Ok-clause-some : goal.returns-in-Some-Ok-clause-some
returns-in-Some-Ok-clause-some c =
    let answer = ap (λ (r : Result Object ObjFault). Some (seen_result r)) (sym c.in-Some-Ok.field-0-is) ∙ c.in-Some-Ok.ensures.answer in
    (stands_first c.args.params.now c.members-scan.result c.next.new.self (seen c.in-Some-Ok.object) c.left-rest.result.now c.members-scan.ensures
    answer c.in-Some-Ok.ensures.after c.left-rest.ensures).kept

pub returns-in-Some-Ok-clause-size : goal.returns-in-Some-Ok-clause-size
returns-in-Some-Ok-clause-size c =
    let answer = ap (λ (r : Result Object ObjFault). Some (seen_result r)) (sym c.in-Some-Ok.field-0-is) ∙ c.in-Some-Ok.ensures.answer in
    split_size c.args.params.now c.left-rest.result.now (stands_first c.args.params.now c.members-scan.result c.next.new.self (seen c.in-Some-Ok.object)
    c.left-rest.result.now c.members-scan.ensures answer c.in-Some-Ok.ensures.after c.left-rest.ensures).less

pub returns-in-Some-Ok-clause-less : goal.returns-in-Some-Ok-clause-less
returns-in-Some-Ok-clause-less c =
    let answer = ap (λ (r : Result Object ObjFault). Some (seen_result r)) (sym c.in-Some-Ok.field-0-is) ∙ c.in-Some-Ok.ensures.answer in
    (stands_first c.args.params.now c.members-scan.result c.next.new.self (seen c.in-Some-Ok.object) c.left-rest.result.now c.members-scan.ensures
    answer c.in-Some-Ok.ensures.after c.left-rest.ensures).less

pub returns-in-Some-Err-clause-none : goal.returns-in-Some-Err-clause-none
returns-in-Some-Err-clause-none c =
    none_at_fault c.args.params.now c.members-scan.result c.in-Some-Err.field-0-0 c.members-scan.ensures
    (ap (λ (r : Result Object ObjFault). Some (seen_result r)) (sym c.in-Some-Err.field-0-is) ∙ c.in-Some-Err.ensures.answer)

pub returns-in-None-clause-none : goal.returns-in-None-clause-none
returns-in-None-clause-none c = none_at_end c.args.params.now c.members-scan.result c.members-scan.ensures c.in-None.ensures.answer
