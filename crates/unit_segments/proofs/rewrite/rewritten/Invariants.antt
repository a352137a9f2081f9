use Rattle.std.proofs.Common.{length}
use Rattle.unit_segments.specs.Dropped.{drops}
use Rattle.unit_segments.proofs.Rewriting.{Rewrites}
use Rattle.unit_segments.proofs.rewrite.rewritten.Given as goal

abbrev pub invariant-loop-first : goal.invariant-loop-first
invariant-loop-first l = Rewrites l.code (drops l.dropped) l.fn.params l.left l.builder

abbrev pub decreases-loop-first : goal.decreases-loop-first
decreases-loop-first l = length l.left
