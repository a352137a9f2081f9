use Rattle.std.proofs.Common.{refl}
use Rattle.transport_pool.proofs.Zeros.{no_counts}
use Rattle.transport_pool.proofs.rows.counts_of.Goals as goal

pub loop-transport-init : goal.loop-transport-init
loop-transport-init c = record { counts = refl; few = no_counts }
