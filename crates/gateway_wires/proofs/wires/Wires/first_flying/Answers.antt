use Rattle.std.proofs.Common.{length}
use Rattle.gateway_wires.proofs.Flying.{first_of_all}
use Rattle.gateway_wires.proofs.wires.Wires.first_flying.Goals as goal

pub returns : goal.returns
returns g c =
    let w = c.self.inside in
    let low = rw c.deref.ensures.value at c.first_of.ensures in
    rw (← c.self.view_is) (first_of_all w.fell w.down w.flying.items w.lines.items (length w.dialled.items) c.self.invariant c.first_of.result low)
