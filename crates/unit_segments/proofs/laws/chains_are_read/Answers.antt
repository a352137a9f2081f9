use Rattle.unit_segments.proofs.ReadChains.{chains_read, all_chains_read}
use Rattle.unit_segments.proofs.laws.chains_are_read.Goals as goal

pub returns-clause-behind : goal.returns-clause-behind
returns-clause-behind c = chains_read

pub returns-clause-all : goal.returns-clause-all
returns-clause-all c = all_chains_read
