use Rattle.std.proofs.Common.{arith}
use Rattle.transport_pool.proofs.Lying.{none_held}
use Rattle.transport_pool.proofs.slots.key_of.Goals as goal

pub returns-clause-absent : goal.returns-clause-absent
returns-clause-absent g c = none_held c.args.number c.args.slots.now.slots (λ k lt. c.loop-key.invariant k (omega arith))
