use Rattle.gateway_session.specs.Steps.{after_lost}
use Rattle.gateway_session.proofs.Needs.{holds}
use Rattle.gateway_session.proofs.Stepping.{closes_empty, step_done}
use Rattle.gateway_session.proofs.session.Session.on_lost.Goals as goal

pub invariant_of-self : goal.invariant_of-self
invariant_of-self c = closes_empty c.lose.new.self c.self.inside.closing (holds c.self.inside.running c.self.inside.closing c.args.self.now
    c.self.view_is c.requires)

pub returns-clause-ok : goal.returns-clause-ok
returns-clause-ok c =
    step_done (after_lost c.args.why) c.self.inside.running c.lose.new.self c.self.inside.closing c.args.self.now (holds c.self.inside.running
    c.self.inside.closing c.args.self.now c.self.view_is c.requires) c.self.view_is c.lose.ensures
