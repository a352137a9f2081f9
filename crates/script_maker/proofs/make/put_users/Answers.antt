use Rattle.std.proofs.Common.{◌+◌, ◌++◌, ap, ◌∙◌, arith}
use Rattle.script_maker.specs.Lines.{user_line}
use Rattle.script_maker.proofs.Ranges.{written_more}
use Rattle.script_maker.proofs.make.put_users.Goals as goal

pub loop-place-preserved : goal.loop-place-preserved
loop-place-preserved c =
    c.in_ok-put_user.ensures
    ∙ (ap (λ out. out ++ user_line (c.loop-place.place + 1)) c.loop-place.invariant
    ∙ written_more user_line c.args.out.now 1 c.loop-place.place (c.loop-place.place + 1) (omega arith))
