use Rattle.std.proofs.Common.{[], ◌∷◌, refl, ◌∙◌, lit<, arith}
use Rattle.ddm_objects.proofs.Building.Fields.{depth_is, begin_fits, begin_is}
use Rattle.ddm_objects.proofs.builder.Builder.begin.Goals as goal

pub push-requires : goal.push-requires
push-requires c =
    let depth = depth_is c.self.inside.begun.items c.self.inside.bytes.items c.args.self.now c.self.view_is in
    (lit< tt, omega (arith, depth, c.requires.depth))

pub invariant_of-self-2 : goal.invariant_of-self-2
invariant_of-self-2 c =
    begin_fits c.self.inside.begun.items c.push.new.self.items (record {
      at = c.len-at.result;
      code =
          c.args.code;
    }) c.self.inside.bytes.items (0 ∷ 0 ∷ 0 ∷ 0 ∷ []) c.extend_from_slice.new.self.items c.args.self.now
    c.push.ensures.items c.in_ok-extend_from_slice.ensures.items (c.len-at.ensures ∙ c.self.inside.bytes.ok.0) refl
    c.self.view_is c.self.invariant.0 c.requires.room

pub returns-clause-ok : goal.returns-clause-ok
returns-clause-ok c =
    begin_is c.self.inside.begun.items c.push.new.self.items (record {
      at = c.len-at.result;
      code =
          c.args.code;
    }) c.self.inside.bytes.items (0 ∷ 0 ∷ 0 ∷ 0 ∷ []) c.extend_from_slice.new.self.items c.args.self.now
    c.push.ensures.items c.in_ok-extend_from_slice.ensures.items (c.len-at.ensures ∙ c.self.inside.bytes.ok.0) refl c.self.view_is
