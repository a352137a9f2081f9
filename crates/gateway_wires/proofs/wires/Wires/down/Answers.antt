use Rattle.std.proofs.Common.{length, ap, ◌∙◌, arith, rules}
use Rattle.link_ends.proofs.Lists.{no_items}
use Rattle.gateway_wires.specs.Wires.{with_down}
use Rattle.gateway_wires.proofs.Falling.{view_down, wires_down, member_in, empty_of}
use Rattle.gateway_wires.proofs.wires.Wires.down.Goals as goal

pub bounds-self-inside-place : goal.bounds-self-inside-place
bounds-self-inside-place g c = member_in c.args.member c.requires

pub bounds-self-inside-place-2 : goal.bounds-self-inside-place-2
bounds-self-inside-place-2 g c = member_in c.args.member c.requires

pub index_mut-requires : goal.index_mut-requires
index_mut-requires g c =
    let w = c.self.inside in
    let within = member_in c.args.member c.requires in
    omega (arith, within, w.flying.ok.0, c.self.invariant.all_members)

pub returns : goal.returns
returns g c =
    let w = c.self.inside in
    let none = empty_of c.new.result (no_items c.new.result.keys (omega (arith, c.new.ensures.len))) in
    rw (c.len.ensures ∙ w.dialled.ok.0)
    (view_down w.fell w.lines.items w.flying.items c.new.result c.args.member (length w.dialled.items) none
    (search rules) (member_in c.args.member c.requires) c.self.invariant w.down
    ∙ ap (with_down c.args.member) c.self.view_is)

pub invariant_of-self : goal.invariant_of-self
invariant_of-self g c =
    let w = c.self.inside in
    let none = empty_of c.new.result (no_items c.new.result.keys (omega (arith, c.new.ensures.len))) in
    rw (c.len.ensures ∙ w.dialled.ok.0)
    (wires_down w.fell w.lines.items w.flying.items c.new.result c.args.member (length w.dialled.items) none
    (search rules) (member_in c.args.member c.requires) c.self.invariant)
