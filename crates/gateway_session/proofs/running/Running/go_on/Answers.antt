use Rattle.gateway_session.proofs.Keeping.{lost_keeps}
use Rattle.gateway_session.proofs.running.Running.go_on.Goals as goal

pub returns-then-is_some-clause-saying : goal.returns-then-is_some-clause-saying
returns-then-is_some-clause-saying c = lost_keeps _ _ _ c.lose.ensures
