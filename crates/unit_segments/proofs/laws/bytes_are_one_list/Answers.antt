use Rattle.unit_segments.proofs.SpelledChains.{spelled_one, read_spelled_chains}
use Rattle.unit_segments.proofs.laws.bytes_are_one_list.Goals as goal

pub returns-clause-one : goal.returns-clause-one
returns-clause-one c = spelled_one

pub returns-clause-read : goal.returns-clause-read
returns-clause-read c = read_spelled_chains
