use Rattle.requester_core.proofs.Handshakes.{dialled_bytes, idle_bytes}
use Rattle.requester_core.proofs.laws.handshake_is_set_out.Goals as goal

pub returns-clause-dialled : goal.returns-clause-dialled
returns-clause-dialled c = dialled_bytes

pub returns-clause-idle : goal.returns-clause-idle
returns-clause-idle c = idle_bytes
