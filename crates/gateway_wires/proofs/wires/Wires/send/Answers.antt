use Rattle.std.proofs.Common.{◌∙◌, None, length, get_or-set_same, sym, refl, arith}
use Rattle.std.specs.Vec.{with_items}
use Rattle.std.proofs.lemmas.List.{get_or_read, with_items_is}
use Rattle.gateway_wires.specs.Line.{with_sent}
use Rattle.gateway_wires.proofs.Lines.{there, changed_ok, unchanged}
use Rattle.gateway_wires.proofs.Sorting.{member_within, in_sent, kept_sent, same_sets}
use Rattle.gateway_wires.proofs.wires.Wires.send.Goals as goal

pub returns-in_default : goal.returns-in_default
returns-in_default g c =
    let w = c.self.inside in
    let none = rw (c.in_default.is, c.deref.ensures.value) at c.line_at.ensures in
    sym c.self.view_is ∙ unchanged w.fell w.down (with_sent c.args.piece.now) w.lines.items c.args.number c.args.self.now c.self.view_is none

pub enter_if-requires : goal.enter_if-requires
enter_if-requires g c =
    let w = c.self.inside in
    let found = rw (c.in-Some.is, c.deref.ensures.value) at c.line_at.ensures in
    rw (c.member.ensures, c.deref_mut.ensures.value) (member_within w.fell w.flying.items w.lines.items (length w.dialled.items) c.args.number
    c.in-Some.line.now found c.self.invariant)

pub invariant_of-self : goal.invariant_of-self
invariant_of-self g c =
    let w = c.self.inside in
    rw (with_items_is w.flying c.enter_if.new.flying (omega arith)) (same_sets w.fell w.flying.items w.lines.items (length w.dialled.items)
    c.args.number c.enter_if.new.flying (rw c.deref_mut.ensures.value at c.in_err-enter_if.ensures.err) c.self.invariant)

pub leave_at_rest-requires : goal.leave_at_rest-requires
leave_at_rest-requires g c =
    let w = c.self.inside in
    let found = rw (c.in-Some.is, c.deref.ensures.value) at c.line_at.ensures in
    let within = there w.lines.items c.args.number c.in-Some.line.now found in
    let was = get_or_read w.lines.items c.args.number c.index_mut.result.now within c.index_mut.ensures.value None ∙ sym found in
    let into = rw (c.will_fly-flies.ensures, c.member.ensures, c.deref_mut.ensures.value) at c.in_ok-enter_if.ensures.ok in
    rw (
      c.deref_mut-2.ensures.value,
      c.deref-2.ensures.value,
      with_items_is w.flying c.enter_if.new.flying (omega arith),
      get_or-set_same w.lines.items c.args.number c.send_at-sent.new.slot None within,
    )
    (in_sent w.fell w.flying.items w.lines.items (length w.dialled.items) c.args.number c.in-Some.line.now found c.self.invariant c.args.piece.now
    c.enter_if.new.flying c.enter_if.new.flying c.send_at-sent.result c.send_at-sent.new.slot (rw was at c.send_at-sent.ensures.ok)
    (rw was at c.send_at-sent.ensures.err) into)

pub invariant_of-self-2 : goal.invariant_of-self-2
invariant_of-self-2 g c =
    let w = c.self.inside in
    let found = rw (c.in-Some.is, c.deref.ensures.value) at c.line_at.ensures in
    let within = there w.lines.items c.args.number c.in-Some.line.now found in
    let was = get_or_read w.lines.items c.args.number c.index_mut.result.now within c.index_mut.ensures.value None ∙ sym found in
    let into = rw (c.will_fly-flies.ensures, c.member.ensures, c.deref_mut.ensures.value) at c.in_ok-enter_if.ensures.ok in
    let out = rw (
      c.deref_mut-2.ensures.value,
      c.deref-2.ensures.value,
      with_items_is w.flying c.enter_if.new.flying (omega arith),
      get_or-set_same w.lines.items c.args.number c.send_at-sent.new.slot None within,
    ) at c.leave_at_rest.ensures in
    rw (with_items_is (with_items w.flying c.enter_if.new.flying) c.leave_at_rest.new.flying (omega arith))
    (kept_sent w.fell w.flying.items w.lines.items (length w.dialled.items) c.args.number c.in-Some.line.now found c.self.invariant c.args.piece.now
    c.enter_if.new.flying c.leave_at_rest.new.flying c.send_at-sent.result c.send_at-sent.new.slot (rw was at c.send_at-sent.ensures.ok)
    (rw was at c.send_at-sent.ensures.err) into out)

pub returns : goal.returns
returns g c =
    let w = c.self.inside in
    let found = rw (c.in-Some.is, c.deref.ensures.value) at c.line_at.ensures in
    let within = there w.lines.items c.args.number c.in-Some.line.now found in
    let was = get_or_read w.lines.items c.args.number c.index_mut.result.now within c.index_mut.ensures.value None in
    changed_ok w.fell w.down (with_sent c.args.piece.now) w.lines.items c.args.number c.args.self.now c.self.view_is c.send_at-sent.result
    c.send_at-sent.new.slot (rw was at c.send_at-sent.ensures.ok) (λ x. refl)
