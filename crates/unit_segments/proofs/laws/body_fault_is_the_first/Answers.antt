use Rattle.unit_segments.proofs.Bodies.{read_bad, bad_read}
use Rattle.unit_segments.proofs.laws.body_fault_is_the_first.Goals as goal

pub returns-clause-found : goal.returns-clause-found
returns-clause-found c = bad_read

pub returns-clause-only : goal.returns-clause-only
returns-clause-only c = read_bad
