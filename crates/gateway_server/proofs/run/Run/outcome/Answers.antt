use Rattle.std.proofs.Common.{ap, ◌∙◌}
use Rattle.gateway_server.specs.Leases.{grip_in, rests_in}
use Rattle.gateway_server.specs.Leaving.{is_gone}
use Rattle.gateway_server.proofs.Unasked.{outcome_grip, outcome_rests, outcome_asks, outcome_gone}
use Rattle.gateway_server.proofs.run.Run.outcome.Goals as goal

pub invariant_of-self-clause-ties : goal.invariant_of-self-clause-ties
invariant_of-self-clause-ties g c = ap grip_in c.outcome.ensures.session ∙ outcome_grip c.args.self.now.session ∙ c.args.self.now.ties

pub invariant_of-self-clause-rest : goal.invariant_of-self-clause-rest
invariant_of-self-clause-rest g c = ap rests_in c.outcome.ensures.session ∙ outcome_rests c.args.self.now.session ∙ c.args.self.now.rest

pub invariant_of-self-clause-asks : goal.invariant_of-self-clause-asks
invariant_of-self-clause-asks g c = outcome_asks c.args.self.now.session c.outcome.new.self c.outcome.ensures.session c.args.self.now.asks

pub invariant_of-self-clause-leaves : goal.invariant_of-self-clause-leaves
invariant_of-self-clause-leaves g c = ap is_gone c.outcome.ensures.session ∙ outcome_gone c.args.self.now.session ∙ c.args.self.now.leaves
