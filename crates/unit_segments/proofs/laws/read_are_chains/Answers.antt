use Rattle.unit_segments.proofs.ReadChains.{read_chains}
use Rattle.unit_segments.proofs.laws.read_are_chains.Goals as goal

pub returns : goal.returns
returns c = read_chains
