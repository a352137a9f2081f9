use Rattle.unit_segments.proofs.ReadChains.{bad_chain_read, told_first}
use Rattle.unit_segments.proofs.laws.told_fault_is_the_first.Goals as goal

pub returns-clause-found : goal.returns-clause-found
returns-clause-found c = bad_chain_read

pub returns-clause-only : goal.returns-clause-only
returns-clause-only c = told_first
