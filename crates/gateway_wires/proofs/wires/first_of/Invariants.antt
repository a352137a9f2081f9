use Rattle.gateway_wires.proofs.Lowest.{IsLowestIn}
use Rattle.gateway_wires.proofs.wires.first_of.Given as goal

abbrev pub invariant-loop-numbers : goal.invariant-loop-numbers
invariant-loop-numbers l = IsLowestIn l.numbers-index l.flying l.lowest
