use Rattle.std.proofs.Common.{arith}
use Rattle.transport_pool.proofs.Lying.{none_free}
use Rattle.transport_pool.proofs.slots.free_key.Goals as goal

pub returns-clause-absent : goal.returns-clause-absent
returns-clause-absent g c = none_free c.args.slots.now.slots (λ k lt. c.loop-key.invariant k (omega arith))
