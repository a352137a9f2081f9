use Rattle.std.proofs.Common.{◌∙◌, Some, None, ap}
use Rattle.std.specs.Prelude.{option_map}
use Rattle.gateway_wires.specs.Line.{wire}
use Rattle.gateway_wires.proofs.Lines.{seen_as}
use Rattle.gateway_wires.proofs.wires.Wires.wire.Goals as goal

pub returns-in-Some : goal.returns-in-Some
returns-in-Some g c =
    let w = c.self.inside in
    let there = rw (c.in-Some.is, c.deref.ensures.value) at c.line_at.ensures in
    ap (λ w. Some w) c.wire.ensures ∙ seen_as w.fell w.down w.lines.items c.args.number c.args.self.now (Some c.in-Some.line.now) c.self.view_is there
    (option_map wire)

pub returns-in-None : goal.returns-in-None
returns-in-None g c =
    let w = c.self.inside in
    let there = rw (c.in-None.is, c.deref.ensures.value) at c.line_at.ensures in
    seen_as w.fell w.down w.lines.items c.args.number c.args.self.now None c.self.view_is there (option_map wire)
