use Rattle.std.proofs.Common.{◌∙◌, ◌-◌, suc, length, get_or, None, refl, arith}
use Rattle.std.proofs.lemmas.List.{length_push, with_items_is}
use Rattle.gateway_wires.specs.Wires.{with_room}
use Rattle.gateway_wires.proofs.Dialling.{grown, grown_later, is_in_room, shows_dialled, keeps_dialled}
use Rattle.gateway_wires.proofs.Falling.{member_in}
use Rattle.gateway_wires.proofs.wires.Wires.dial.Goals as goal

pub invariant_of-self : goal.invariant_of-self
invariant_of-self g c =
    let w = c.self.inside in
    let err = c.in_err-make_room.ensures.err in
    rw err.1 (grown w.fell w.down w.flying.items w.flying.items w.lines.items (length w.dialled.items) c.args.number err.0 c.self.invariant)

pub invariant_of-self-in_err-push : goal.invariant_of-self-in_err-push
invariant_of-self-in_err-push g c =
    let w = c.self.inside in
    rw (c.in_err-push.ensures.items, c.in_ok-make_room.ensures.ok) (grown w.fell w.down w.flying.items w.flying.items w.lines.items
    (length w.dialled.items) c.args.number (suc c.args.number - length w.lines.items) c.self.invariant)

pub invariant_of-self-in_err-line : goal.invariant_of-self-in_err-line
invariant_of-self-in_err-line g c =
    let w = c.self.inside in
    rw (c.in_ok-push.ensures.items, c.in_ok-make_room.ensures.ok, length_push w.dialled.items c.args.number) (grown_later w.fell w.down w.flying.items
    w.flying.items w.lines.items (length w.dialled.items) c.args.number (suc c.args.number - length w.lines.items) c.self.invariant)

pub leave_old-requires : goal.leave_old-requires
leave_old-requires g c =
    let w = c.self.inside in
    rw (c.deref_mut.ensures.value, c.deref.ensures.value, c.in_ok-make_room.ensures.ok)
    (is_in_room w.fell w.down w.flying.items w.flying.items w.lines.items (length w.dialled.items) c.args.number c.self.invariant)

pub invariant_of-self-2 : goal.invariant_of-self-2
invariant_of-self-2 g c =
    let w = c.self.inside in
    let out = rw (c.deref_mut.ensures.value, c.deref.ensures.value, c.in_ok-make_room.ensures.ok) at c.leave_old.ensures in
    rw (
      with_items_is w.flying c.leave_old.new.flying (omega arith),
      c.in_ok-make_room.ensures.ok,
      c.in_ok-push.ensures.items,
      length_push w.dialled.items c.args.number,
    )
    (keeps_dialled w.fell w.down w.flying.items c.leave_old.new.flying w.lines.items (length w.dialled.items) c.args.number g.G.Group.meaning
    c.args.member c.args.list.now c.in_ok-line.line (rw (c.len-since.ensures ∙ w.dialled.ok.0) at c.in_ok-line.ensures)
    (member_in c.args.member c.requires.member)
    c.self.invariant (get_or (with_room c.args.number w.lines.items) c.args.number None) refl out)

pub returns : goal.returns
returns g c =
    let w = c.self.inside in
    rw c.in_ok-make_room.ensures.ok
    (shows_dialled w.fell w.down w.flying.items w.flying.items w.lines.items (length w.dialled.items) c.args.number g.G.Group.meaning
    c.args.member c.args.list.now c.in_ok-line.line (rw (c.len-since.ensures ∙ w.dialled.ok.0) at c.in_ok-line.ensures)
    (member_in c.args.member c.requires.member)
    c.self.invariant c.args.self.now c.self.view_is)
