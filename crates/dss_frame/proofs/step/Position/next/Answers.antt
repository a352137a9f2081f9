use Rattle.std.proofs.Common.{sym, ◌∙◌, arith}
use Rattle.dss_frame.proofs.OneDss.Judging.{whole_dss, fails_within}
use Rattle.dss_frame.proofs.step.Position.next.Goals as goal

pub stop_beyond-requires-then-len-self : goal.stop_beyond-requires-then-len-self
stop_beyond-requires-then-len-self c =
    let whole = whole_dss c.args.side c.args.bytes.now c.in-Ends.len (sym c.judge-walk.ensures.extent ∙ c.in-Ends.is) in
    omega (arith, whole.within)

pub number_for-requires : goal.number_for-requires
number_for-requires c =
    omega (arith, fails_within c.args.side c.args.bytes.now c.in-Fails.offset c.in-Fails.why (sym c.judge-walk.ensures.extent ∙ c.in-Fails.is))

pub stop_beyond-requires-else-offset-self : goal.stop_beyond-requires-else-offset-self
stop_beyond-requires-else-offset-self c =
    omega (arith, fails_within c.args.side c.args.bytes.now c.in-Fails.offset c.in-Fails.why (sym c.judge-walk.ensures.extent ∙ c.in-Fails.is))
