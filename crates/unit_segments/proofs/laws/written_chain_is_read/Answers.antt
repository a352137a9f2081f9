use Rattle.unit_segments.proofs.WrittenChains.{chain_read_again}
use Rattle.unit_segments.proofs.laws.written_chain_is_read.Goals as goal

pub returns : goal.returns
returns c = chain_read_again
