use Rattle.std.proofs.Common.{◌+◌, ◌++◌, ap, ◌∙◌, arith}
use Rattle.script_maker.specs.Lines.{start_line}
use Rattle.script_maker.proofs.Ranges.{written_more}
use Rattle.script_maker.proofs.make.put_starts.Goals as goal

pub loop-place-preserved : goal.loop-place-preserved
loop-place-preserved c =
    c.in_ok-put_start.ensures
    ∙ (ap (λ out. out ++ start_line (c.loop-place.place + 1)) c.loop-place.invariant
    ∙ written_more start_line c.args.out.now 1 c.loop-place.place (c.loop-place.place + 1) (omega arith))
