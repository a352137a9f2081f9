use Rattle.std.proofs.Common.{◌∙◌, length, get_or, None, ap, refl, arith}
use Rattle.std.specs.Prelude.{option_map}
use Rattle.std.proofs.lemmas.List.{get_or_read, with_items_is}
use Rattle.gateway_wires.specs.Line.{with_dropped}
use Rattle.gateway_wires.specs.Inside.{on_dialled}
use Rattle.gateway_wires.proofs.Lines.{changed}
use Rattle.gateway_wires.proofs.Sorting.{in_sets, kept_dropped}
use Rattle.gateway_wires.proofs.wires.Wires.drop_line.Goals as goal

pub leave_old-requires : goal.leave_old-requires
leave_old-requires g c =
    let w = c.self.inside in
    rw (c.deref_mut.ensures.value, c.deref.ensures.value) (in_sets w.fell w.flying.items w.lines.items (length w.dialled.items) c.args.number
    (get_or w.lines.items c.args.number None) refl c.self.invariant)

pub invariant_of-self : goal.invariant_of-self
invariant_of-self g c =
    let w = c.self.inside in
    let there = get_or_read w.lines.items c.args.number c.index_mut.result.now (omega arith) c.index_mut.ensures.value None in
    let out = rw (c.deref_mut.ensures.value, c.deref.ensures.value) at c.leave_old.ensures in
    rw (with_items_is w.flying c.leave_old.new.flying (omega arith)) (kept_dropped w.fell w.flying.items w.lines.items (length w.dialled.items)
    c.args.number c.leave_old.new.flying c.drop_at.new.slot (get_or w.lines.items c.args.number None) refl c.self.invariant out
    (c.drop_at.ensures ∙ ap (option_map (on_dialled with_dropped)) there))

pub returns : goal.returns
returns g c =
    let w = c.self.inside in
    let there = get_or_read w.lines.items c.args.number c.index_mut.result.now (omega arith) c.index_mut.ensures.value None in
    changed w.fell w.down with_dropped w.lines.items c.args.number c.args.self.now c.self.view_is c.drop_at.new.slot
    (c.drop_at.ensures ∙ ap (option_map (on_dialled with_dropped)) there) (λ x. refl)
