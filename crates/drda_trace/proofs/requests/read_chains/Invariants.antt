use Rattle.std.proofs.Common.{◌≡◌, length}
use Rattle.unit_segments.specs.Chain.{chains_of, chains_from}
use Rattle.drda_trace.specs.Ending.{begun_after, taken_all}
use Rattle.drda_trace.proofs.Reading.{behind}
use Rattle.std.specs.Prelude.{None}
use Rattle.drda_trace.proofs.requests.read_chains.Given as goal

-- what the DSSs that are left are read as, behind the chains so far, is what all are read as
abbrev pub invariant-loop-placed : goal.invariant-loop-placed
invariant-loop-placed l = record {
  chains : behind l.chains (chains_from l.chain_reader l.reader.whole) ≡ chains_of l.fn.reader.whole;
  begun : begun_after l.begun l.reader.whole ≡ begun_after None l.fn.reader.whole;
  same : taken_all l.reader ≡ taken_all l.fn.reader;
}

abbrev pub decreases-loop-placed : goal.decreases-loop-placed
decreases-loop-placed l = length l.reader.whole
