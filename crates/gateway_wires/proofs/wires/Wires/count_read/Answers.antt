use Rattle.std.proofs.Common.{◌≤◌, length, None, refl, subst, ℕ, arith}
use Rattle.std.proofs.lemmas.List.{get_or_read}
use Rattle.gateway_wires.specs.Line.{with_read}
use Rattle.gateway_wires.proofs.Lines.{changed, seen_coming}
use Rattle.gateway_wires.proofs.Sorting.{kept_read}
use Rattle.gateway_wires.proofs.wires.Wires.count_read.Goals as goal

pub read_at-requires : goal.read_at-requires
read_at-requires g c =
    let w = c.self.inside in
    let there = get_or_read w.lines.items c.args.number c.index_mut.result.now (omega arith) c.index_mut.ensures.value None in
    subst (λ (n : ℕ). c.args.count ≤ n)
    (seen_coming w.fell w.down w.lines.items c.args.number c.args.self.now c.index_mut.result.now c.self.view_is there) c.requires

pub invariant_of-self : goal.invariant_of-self
invariant_of-self g c =
    let w = c.self.inside in
    let there = get_or_read w.lines.items c.args.number c.index_mut.result.now (omega arith) c.index_mut.ensures.value None in
    kept_read w.fell w.flying.items w.lines.items (length w.dialled.items) c.args.number c.args.count c.read_at.new.slot c.index_mut.result.now there
    c.self.invariant c.read_at.ensures

pub returns : goal.returns
returns g c =
    let w = c.self.inside in
    let there = get_or_read w.lines.items c.args.number c.index_mut.result.now (omega arith) c.index_mut.ensures.value None in
    changed w.fell w.down (with_read c.args.count) w.lines.items c.args.number c.args.self.now c.self.view_is c.read_at.new.slot
    (rw there at c.read_at.ensures) (λ x. refl)
