use Rattle.std.proofs.Common.{refl}
use Rattle.gateway_wires.proofs.Falling.{wires_none}
use Rattle.gateway_wires.proofs.wires.Wires.new.Goals as goal

pub returns : goal.returns
returns g c = rw c.new.ensures.items refl

pub invariant_of-result : goal.invariant_of-result
invariant_of-result g c =
    rw (c.new.ensures.items, c.new-2.ensures.items)
    (wires_none c.in_ok-no_flying.field-0.items c.in_ok-no_flying.ensures.size c.in_ok-no_flying.ensures.none)
