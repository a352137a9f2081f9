use Rattle.requester_core.proofs.Pieces.{pieces_joined}
use Rattle.requester_core.proofs.laws.pieces_are_the_reply.Goals as goal

pub returns : goal.returns
returns c = pieces_joined
