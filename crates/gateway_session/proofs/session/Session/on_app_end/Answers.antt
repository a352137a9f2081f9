use Rattle.std.proofs.Common.{ap, ◌∙◌}
use Rattle.gateway_session.specs.Memory.{app_end_in}
use Rattle.gateway_session.proofs.Stepping.{app_end_closes}
use Rattle.gateway_session.proofs.session.Session.on_app_end.Goals as goal

pub invariant_of-self : goal.invariant_of-self
invariant_of-self c =
    (app_end_closes c.args.fault c.self.inside.running c.app_end.new.self c.self.inside.closing c.self.invariant c.app_end.ensures).1

pub returns : goal.returns
returns c =
    (app_end_closes c.args.fault c.self.inside.running c.app_end.new.self c.self.inside.closing c.self.invariant c.app_end.ensures).0
    ∙ ap (app_end_in c.args.fault) c.self.view_is
