use Rattle.std.proofs.Common.{rules, sym}
use Rattle.dss_frame.proofs.Loops.Walk.{walked_empty}
use Rattle.dss_frame.proofs.reader.Reader.new.Goals as goal

pub invariant_of-result : goal.invariant_of-result
invariant_of-result c = (search rules, sym (walked_empty _ c.new-3.ensures))
