use Rattle.std.proofs.Common.{length, ◌∙◌, arith}
use Rattle.ddm_objects.proofs.Building.Fields.{HasLast, header_fits, long_is, not_empty}
use Rattle.ddm_objects.proofs.builder.Builder.is_long.Goals as goal

has_last : (c : goal.After-struct_known-1) →
    HasLast c.self.inside.begun.items c.deref.result.now c.self.inside.bytes.items c.len.result (record { at = 0; code = 0 }) c.args.self.now
has_last c =
    record { same = c.deref.ensures.0; size = c.len.ensures.value; view = c.self.view_is; whole = c.self.invariant.0; some = not_empty _ c.if-is_empty.ensures }

pub overflow_sub-result : goal.overflow_sub-result
overflow_sub-result c =
    let fits = header_fits _ _ _ _ _ _ (has_last c) in
    omega (arith, fits, c.len-2.ensures, c.self.inside.bytes.ok.0)

pub overflow_sub-result-2 : goal.overflow_sub-result-2
overflow_sub-result-2 c =
    let fits = header_fits _ _ _ _ _ _ (has_last c) in
    omega (arith, fits, c.len-2.ensures, c.self.inside.bytes.ok.0)

pub returns : goal.returns
returns c = long_is _ _ _ _ c.len-2.result _ _ (has_last c) (c.len-2.ensures ∙ c.self.inside.bytes.ok.0)
