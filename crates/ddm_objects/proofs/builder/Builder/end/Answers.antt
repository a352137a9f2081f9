use Rattle.std.proofs.Common.{length, arith}
use Rattle.ddm_objects.proofs.Building.Fields.{HasLast, depth_is, header_fits, end_fits, end_is}
use Rattle.ddm_objects.proofs.builder.Builder.end.Goals as goal

pub end_at-requires-clause-begun : goal.end_at-requires-clause-begun
end_at-requires-clause-begun c =
    let depth = depth_is c.self.inside.begun.items c.self.inside.bytes.items c.args.self.now c.self.view_is in
    header_fits c.self.inside.begun.items c.deref.result.now c.self.inside.bytes.items c.len.result (record { at = 0; code = 0 }) c.args.self.now
    (record {
      same = c.deref.ensures.0;
      size = c.len.ensures.value;
      view = c.self.view_is;
      whole = c.self.invariant.0;
      some =
          omega (arith, depth, c.requires.begun);
    })

pub invariant_of-self-2 : goal.invariant_of-self-2
invariant_of-self-2 c =
    let depth = depth_is c.self.inside.begun.items c.self.inside.bytes.items c.args.self.now c.self.view_is in
    end_fits c.self.inside.begun.items c.deref.result.now c.pop.new.self.items c.self.inside.bytes.items c.end_at.new.bytes.items c.len.result
    (record { at = 0; code = 0 }) c.args.self.now
    (record {
      same = c.deref.ensures.0;
      size = c.len.ensures.value;
      view = c.self.view_is;
      whole = c.self.invariant.0;
      some =
          omega (arith, depth, c.requires.begun);
    })
    c.self.invariant.1 c.requires.room c.pop.ensures.rest c.in_ok-end_at.ensures.ok

pub returns-clause-ok : goal.returns-clause-ok
returns-clause-ok c =
    let depth = depth_is c.self.inside.begun.items c.self.inside.bytes.items c.args.self.now c.self.view_is in
    end_is c.self.inside.begun.items c.deref.result.now c.pop.new.self.items c.self.inside.bytes.items c.end_at.new.bytes.items c.len.result (record {
      at =
          0;
      code = 0;
    }) c.args.self.now
    (record {
      same = c.deref.ensures.0;
      size = c.len.ensures.value;
      view = c.self.view_is;
      whole = c.self.invariant.0;
      some =
          omega (arith, depth, c.requires.begun);
    })
    c.pop.ensures.rest c.in_ok-end_at.ensures.ok
