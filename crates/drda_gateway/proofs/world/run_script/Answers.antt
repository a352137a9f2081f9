use Rattle.std.proofs.Common.{rules, arith, sym, ap, ◌+◌, ◌∙◌, drop}
use Rattle.drda_gateway.specs.World.{WorldState, after_all, events_of, world_of}
use Rattle.drda_gateway.proofs.Replay.{events_more, events_end}
use Rattle.drda_gateway.proofs.world.run_script.Goals as goal

pub loop-line-preserved : goal.loop-line-preserved
loop-line-preserved c =
    let rest = drop (c.loop-line.line-index + 1) c.args.lines.now in
    ap (λ (w : WorldState). after_all w (events_of w rest)) c.in_ok-run_line.ensures
    ∙ (sym (events_more c.loop-line.world c.args.lines.now c.loop-line.line-index c.line-item.result (search rules) c.line-item.is)
    ∙ c.loop-line.invariant)

pub returns : goal.returns
unfolding world_of
returns c = sym (events_end c.loop-line.world c.args.lines.now c.loop-line.line-index (omega arith)) ∙ c.loop-line.invariant
