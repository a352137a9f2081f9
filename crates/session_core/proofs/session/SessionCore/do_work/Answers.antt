use Rattle.session_core.proofs.Cores.{none_fit}
use Rattle.session_core.proofs.session.SessionCore.do_work.Goals as goal

pub invariant_of-self : goal.invariant_of-self
invariant_of-self c = (c.self.invariant.0, none_fit _ c.new.ensures)
