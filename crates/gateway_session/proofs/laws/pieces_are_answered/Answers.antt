use Rattle.gateway_session.proofs.Pieces.{read_in_pieces}
use Rattle.gateway_session.proofs.laws.pieces_are_answered.Goals as goal

pub returns : goal.returns
returns c = read_in_pieces
