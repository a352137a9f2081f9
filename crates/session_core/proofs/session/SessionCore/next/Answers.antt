use Rattle.session_core.proofs.Cores.{all_next}
use Rattle.session_core.proofs.session.SessionCore.next.Goals as goal

pub invariant_of-self : goal.invariant_of-self
invariant_of-self c = (all_next c.self.inside.answered c.self.inside.segments c.self.invariant.0, c.self.invariant.1)
