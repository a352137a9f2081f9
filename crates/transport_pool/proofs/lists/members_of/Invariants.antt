use Rattle.std.proofs.Common.{◌≡◌, take}
use Rattle.transport_pool.specs.Steps.{members_of}
use Rattle.transport_pool.proofs.lists.members_of.Given as goal

abbrev pub invariant-loop-row : goal.invariant-loop-row
invariant-loop-row l = l.members ≡ members_of (take l.row-index l.row-items)
