use Rattle.unit_segments.proofs.Writable.{chain_writable, segments_writable}
use Rattle.unit_segments.proofs.laws.chains_can_be_written.Goals as goal

pub returns-clause-chain : goal.returns-clause-chain
returns-clause-chain c = chain_writable

pub returns-clause-segments : goal.returns-clause-segments
returns-clause-segments c = segments_writable
