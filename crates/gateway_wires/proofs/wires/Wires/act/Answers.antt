use Rattle.std.proofs.Common.{◌∙◌, ◌≤◌, ℕ, length, get_or-set_same, None, ap, refl, subst, arith}
use Rattle.std.specs.Prelude.{option_map}
use Rattle.std.proofs.lemmas.List.{get_or_read, with_items_is}
use Rattle.gateway_wires.specs.Line.{with_acted}
use Rattle.gateway_wires.specs.Inside.{on_dialled}
use Rattle.gateway_wires.proofs.Lines.{changed, seen_flying, seen_shared}
use Rattle.gateway_wires.proofs.Sorting.{in_acted, kept_acted, kept_bytes}
use Rattle.gateway_wires.proofs.wires.Wires.act.Goals as goal

pub act_at-requires : goal.act_at-requires
act_at-requires g c =
    let w = c.self.inside in
    let there = get_or_read w.lines.items c.args.number c.index_mut.result.now (omega arith) c.index_mut.ensures.value None in
    subst (λ (n : ℕ). c.args.count ≤ n)
    (seen_flying w.fell w.down w.lines.items c.args.number c.args.self.now c.index_mut.result.now c.self.view_is there) c.requires.size

pub invariant_of-self : goal.invariant_of-self
invariant_of-self g c =
    let w = c.self.inside in
    let there = get_or_read w.lines.items c.args.number c.index_mut.result.now (omega arith) c.index_mut.ensures.value None in
    kept_bytes w.fell w.flying.items w.lines.items (length w.dialled.items) c.args.number c.act_at.new.slot c.index_mut.result.now there
    c.self.invariant c.in_err-act_at.ensures.err

pub leave_at_rest-requires : goal.leave_at_rest-requires
leave_at_rest-requires g c =
    let w = c.self.inside in
    let there = get_or_read w.lines.items c.args.number c.index_mut.result.now (omega arith) c.index_mut.ensures.value None in
    rw (c.deref_mut.ensures.value, c.deref.ensures.value, get_or-set_same w.lines.items c.args.number c.act_at.new.slot None (omega arith))
    (in_acted w.fell w.flying.items w.lines.items (length w.dialled.items) c.args.number g.G.Group.meaning c.args.count c.args.group.now
    c.act_at.new.slot c.index_mut.result.now there c.self.invariant c.in_ok-act_at.ensures.slot)

pub invariant_of-self-2 : goal.invariant_of-self-2
invariant_of-self-2 g c =
    let w = c.self.inside in
    let there = get_or_read w.lines.items c.args.number c.index_mut.result.now (omega arith) c.index_mut.ensures.value None in
    let out = rw (c.deref_mut.ensures.value, c.deref.ensures.value, get_or-set_same w.lines.items c.args.number c.act_at.new.slot None (omega arith))
    at c.leave_at_rest.ensures in
    rw (with_items_is w.flying c.leave_at_rest.new.flying (omega arith)) (kept_acted w.fell w.flying.items w.lines.items (length w.dialled.items)
    c.args.number g.G.Group.meaning c.args.count c.args.group.now c.leave_at_rest.new.flying c.act_at.new.slot c.index_mut.result.now there
    c.self.invariant c.in_ok-act_at.ensures.slot out)

pub returns : goal.returns
returns g c =
    let w = c.self.inside in
    let there = get_or_read w.lines.items c.args.number c.index_mut.result.now (omega arith) c.index_mut.ensures.value None in
    record {
      wires = changed w.fell w.down (with_acted g.G.Group.meaning c.args.count c.args.group.now) w.lines.items c.args.number c.args.self.now
          c.self.view_is c.act_at.new.slot
          (c.in_ok-act_at.ensures.slot ∙ ap (option_map (on_dialled (with_acted g.G.Group.meaning c.args.count c.args.group.now))) there) (λ x. refl);
      shared = c.in_ok-act_at.ensures.shared
          ∙ seen_shared w.fell w.down w.lines.items c.args.number c.args.self.now c.index_mut.result.now c.self.view_is there
          g.G.Group.meaning c.args.count c.args.group.now;
    }
