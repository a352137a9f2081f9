use Rattle.transport_pool.proofs.Leading.{leads_decided}
use Rattle.transport_pool.proofs.decisions.Decisions.decide.Goals as goal

pub invariant_of-self : goal.invariant_of-self
invariant_of-self c = leads_decided c.self.inside.journal _ c.self.inside.pool _ c.args.call _ c.step-answer.ensures c.add.ensures c.self.invariant
