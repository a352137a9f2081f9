use Rattle.std.proofs.Common.{rules, sym, ◌∙◌}
use Rattle.drda_gateway.proofs.Replay.{settle_more}
use Rattle.drda_gateway.proofs.world.World.settle.Goals as goal

pub loop-preserved : goal.loop-preserved
loop-preserved c =
    sym (settle_more c.loop.self c.step.new.self c.in_ok-step.field-0 c.args.budget c.loop.counter (search rules) c.in_ok-step.ensures (search rules))
    ∙ c.loop.invariant
