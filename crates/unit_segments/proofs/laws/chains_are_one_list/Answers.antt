use Rattle.unit_segments.proofs.ReadChains.{one_chain, one_list}
use Rattle.unit_segments.proofs.laws.chains_are_one_list.Goals as goal

pub returns-clause-chain : goal.returns-clause-chain
returns-clause-chain c = one_chain

pub returns-clause-list : goal.returns-clause-list
returns-clause-list c = one_list
