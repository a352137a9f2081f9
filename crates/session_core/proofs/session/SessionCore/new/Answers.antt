use Rattle.session_core.proofs.Cores.{none_each, none_fit}
use Rattle.session_core.proofs.session.SessionCore.new.Goals as goal

pub invariant_of-result : goal.invariant_of-result
invariant_of-result c = (none_each 0 _ c.new-3.ensures, none_fit _ c.new-2.ensures)
