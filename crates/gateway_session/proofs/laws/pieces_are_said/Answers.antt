use Rattle.gateway_session.proofs.Pieces.{said_in_pieces}
use Rattle.gateway_session.proofs.laws.pieces_are_said.Goals as goal

pub returns : goal.returns
returns c = said_in_pieces
