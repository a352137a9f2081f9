use Rattle.member_statements.proofs.Read.{read_is_spelled}
use Rattle.member_statements.proofs.Spelled.{spelled_is_read}
use Rattle.member_statements.proofs.laws.read_statements_are_spelled.Goals as goal

pub returns : goal.returns
returns c = λ bytes statement. (read_is_spelled bytes statement, spelled_is_read bytes statement)
