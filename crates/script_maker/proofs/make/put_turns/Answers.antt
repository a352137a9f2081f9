use Rattle.std.proofs.Common.{◌+◌, ◌*◌, ◌/◌, ◌%◌, ◌++◌, ap, ◌∙◌, sym, arith}
use Rattle.script_maker.specs.Draw.{drawn}
use Rattle.script_maker.specs.Lines.{turn_lines}
use Rattle.script_maker.specs.Made.{turn_of}
use Rattle.script_maker.proofs.Ranges.{written_more, draws_more}
use Rattle.script_maker.proofs.make.put_turns.Goals as goal

pub loop-turn-preserved : goal.loop-turn-preserved
loop-turn-preserved c =
    let turn = c.loop-turn.turn in
    let app = turn % c.args.apps + 1 in
    let next = c.drawn-draw.ensures.next ∙ (ap drawn c.loop-turn.invariant.drawn ∙ sym (draws_more turn c.args.seed)) in
    record {
      written =
          c.in_ok-put_turn.ensures
          ∙ (ap (λ draw. c.loop-turn.out ++ turn_lines app (turn / c.args.apps * 64 + app) draw) next
          ∙ (ap (λ out. out ++ turn_of c.args.seed c.args.apps turn) c.loop-turn.invariant.written
          ∙ written_more (turn_of c.args.seed c.args.apps) c.args.out.now 0 turn turn (omega arith)));
      drawn = next;
      below = c.drawn-draw.ensures.below;
    }
