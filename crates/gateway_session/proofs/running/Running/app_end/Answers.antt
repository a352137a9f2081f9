use Rattle.std.proofs.Common.{refl}
use Rattle.gateway_session.proofs.Losing.{leaves}
use Rattle.gateway_session.proofs.running.Running.app_end.Goals as goal

pub returns : goal.returns
returns c =
    leaves c.args.failed c.self.inside.core c.leave.new.self _ c.lose.new.self c.args.self.now c.self.view_is c.lose.ensures refl c.leave.ensures
