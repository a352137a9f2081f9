use Rattle.transport_pool.specs.Steps.{empty_pool}
use Rattle.server_list.proofs.Sound.{sound_none}
use Rattle.transport_pool.proofs.Running.{calls_keep, new_holds}
use Rattle.transport_pool.proofs.laws.limits_hold.Goals as goal

pub returns : goal.returns
returns c = λ cap list calls most rows. calls_keep sound_none (empty_pool cap list) calls (new_holds cap list most rows)
