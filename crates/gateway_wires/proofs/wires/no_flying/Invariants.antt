use Rattle.std.proofs.Common.{◌≡◌, length}
use Rattle.gateway_wires.specs.Inside.{AreNone}
use Rattle.gateway_wires.proofs.wires.no_flying.Given as goal

abbrev pub invariant-loop : goal.invariant-loop
invariant-loop l = record { size : length l.flying.items ≡ l.counter; none : AreNone l.flying.items }
