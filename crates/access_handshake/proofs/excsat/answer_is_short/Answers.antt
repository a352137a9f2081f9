use Rattle.access_handshake.proofs.Short.{answer_short}
use Rattle.access_handshake.proofs.excsat.answer_is_short.Goals as goal

pub returns : goal.returns
returns c = λ params. answer_short c.found_is_within.ensures params
