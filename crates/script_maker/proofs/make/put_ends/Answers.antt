use Rattle.std.proofs.Common.{◌+◌, ◌++◌, ap, ◌∙◌, arith}
use Rattle.script_maker.specs.Lines.{end_line}
use Rattle.script_maker.proofs.Ranges.{written_more}
use Rattle.script_maker.proofs.make.put_ends.Goals as goal

pub loop-place-preserved : goal.loop-place-preserved
loop-place-preserved c =
    c.in_ok-put_end.ensures
    ∙ (ap (λ out. out ++ end_line (c.loop-place.place + 1)) c.loop-place.invariant
    ∙ written_more end_line c.args.out.now 1 c.loop-place.place (c.loop-place.place + 1) (omega arith))
