use Rattle.gateway_session.specs.Steps.{after_given}
use Rattle.gateway_session.proofs.Needs.{gives}
use Rattle.gateway_session.proofs.Stepping.{closes_empty, step_done}
use Rattle.gateway_session.proofs.session.Session.on_given.Goals as goal

pub invariant_of-self : goal.invariant_of-self
invariant_of-self c = closes_empty c.given.new.self c.self.inside.closing (gives c.self.inside.running c.self.inside.closing c.args.self.now
    c.self.view_is c.requires)

pub returns-clause-ok : goal.returns-clause-ok
returns-clause-ok c =
    step_done (after_given) c.self.inside.running c.given.new.self c.self.inside.closing c.args.self.now (gives c.self.inside.running
    c.self.inside.closing c.args.self.now c.self.view_is c.requires) c.self.view_is c.given.ensures
