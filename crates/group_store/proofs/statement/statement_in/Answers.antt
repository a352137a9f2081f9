use Rattle.group_store.proofs.Sound.{read_is_sound}
use Rattle.group_store.proofs.statement.statement_in.Goals as goal

pub returns-in-Some-clause-sound : goal.returns-in-Some-clause-sound
returns-in-Some-clause-sound c =
    read_is_sound c.read_statements_are_spelled.ensures c.as_slice.result.now c.read_statement.result c.read_statement.ensures
