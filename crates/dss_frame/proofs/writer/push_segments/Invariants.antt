use Rattle.std.proofs.Common.{◌≡◌, ◌++◌, length}
use Rattle.dss_frame.specs.Dss.{canonical, further_segments}
use Rattle.dss_frame.specs.Scan.{Extends}
use Rattle.dss_frame.proofs.writer.push_segments.Given as goal

abbrev pub invariant-loop-rest : goal.invariant-loop-rest
invariant-loop-rest l = record {
  kept : Extends l.fn.out l.out;
  goes_on : l.out ++ further_segments l.rest ≡ l.fn.out ++ canonical l.dss;
}

abbrev pub decreases-loop-rest : goal.decreases-loop-rest
decreases-loop-rest l = length l.rest
