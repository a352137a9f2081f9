use Rattle.std.proofs.Common.{◌∙◌}
use Rattle.unit_segments.proofs.Cutting.{cuts_on, cuts_end}
use Rattle.unit_segments.proofs.segment.cut.Goals as goal

pub loop-command-preserved : goal.loop-command-preserved
loop-command-preserved c =
    let on = cuts_on c.as_slice-command-items.result.now c.loop-command.command-index c.command-item.result c.loop-command.segments c.place.new.segments
    c.loop-command.run c.place.new.run c.loop-command-test.true c.command-item.is c.loop-command.invariant.cuts c.loop-command.invariant.size
    c.in_ok-place.ensures.segments c.in_ok-place.ensures.run in
    record { cuts = on.0; size = on.1 }

pub returns : goal.returns
returns c =
    cuts_end c.as_slice-command-items.result.now c.args.chain.now c.loop-command.command-index c.loop-command.segments c.end_run.new.segments c.loop-command.run
    (c.as_slice-command-items.ensures ∙ c.commands.ensures.commands) c.loop-command-test.false c.loop-command.invariant.cuts c.in_ok-end_run.ensures.segments
