use Rattle.unit_segments.specs.Dropped.{drops}
use Rattle.unit_segments.proofs.Rewriting.{rewrites_on}
use Rattle.unit_segments.proofs.rewrite.rewritten.Goals as goal

pub loop-first-preserved : goal.loop-first-preserved
loop-first-preserved c =
    rewrites_on c.args.code (drops c.args.dropped) c.args.params.now c.loop-first.left.now c.in-Some.first.rest.now c.in-Some.first.spelled.now
    c.in-Some.first.code c.loop-first.builder c.keep.new.builder c.loop-first.invariant c.in-Some.ensures.some c.in-Some.ensures.size
    c.in-Some.ensures.less c.in_ok-keep.ensures
