use Rattle.member_core.proofs.Pieces.{taken_pieces}
use Rattle.member_core.proofs.laws.pieces_are_taken_as_one.Goals as goal

pub returns : goal.returns
returns g c = taken_pieces g.G.Group.meaning
