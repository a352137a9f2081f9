use Rattle.transport_pool.proofs.Ordering.{calls_order}
use Rattle.transport_pool.proofs.laws.order_holds.Goals as goal

pub returns : goal.returns
returns c = λ pool calls session unserved waits. calls_order pool calls session unserved waits
