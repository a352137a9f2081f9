use Rattle.std.proofs.Common.{◌≡◌, ◌++◌, [], length}
use Rattle.std.specs.Prelude.{None}
use Rattle.std.specs.List.{take_while}
use Rattle.drda_trace.specs.Ending.{begun_after, taken_all}
use Rattle.drda_trace.specs.declared.ending.Ending.{Ending}
use Rattle.drda_trace.specs.Replies.{chains_after, has_object, bodies_ending}
use Rattle.drda_trace.proofs.replies.read_chains.Given as goal

-- what the DSSs that are left are read as, behind the chains so far, is what all are read as
abbrev pub invariant-loop-placed : goal.invariant-loop-placed
invariant-loop-placed l = record {
  chains : l.chains ++ chains_after l.begun_chain (take_while has_object l.reader.whole) ≡ chains_after [] (take_while has_object l.fn.reader.whole);
  ending : (others : Ending) → bodies_ending l.reader.whole others ≡ bodies_ending l.fn.reader.whole others;
  begun : begun_after l.begun l.reader.whole ≡ begun_after None l.fn.reader.whole;
  same : taken_all l.reader ≡ taken_all l.fn.reader;
}

abbrev pub decreases-loop-placed : goal.decreases-loop-placed
decreases-loop-placed l = length l.reader.whole
