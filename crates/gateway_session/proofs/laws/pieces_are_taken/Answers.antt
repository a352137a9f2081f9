use Rattle.gateway_session.proofs.Taking.{taken_in_pieces}
use Rattle.gateway_session.proofs.laws.pieces_are_taken.Goals as goal

pub returns : goal.returns
returns c = taken_in_pieces
