use Rattle.std.proofs.Common.{◌≡◌, ◌++◌, length}
use Rattle.std.specs.List.{AllByRecursion}
use Rattle.unit_segments.specs.Strip.{FitsAReply}
use Rattle.requester_core.proofs.talk.take_all.Given as goal

abbrev pub invariant-loop-placed : goal.invariant-loop-placed
invariant-loop-placed l = record {
  all : l.all.items ++ l.reader.whole ≡ l.fn.reader.whole;
  same : record l.reader { whole = l.fn.reader.whole } ≡ l.fn.reader;
  fit : AllByRecursion (λ p. FitsAReply p.dss) l.all.items;
}

abbrev pub decreases-loop-placed : goal.decreases-loop-placed
decreases-loop-placed l = length l.reader.whole
