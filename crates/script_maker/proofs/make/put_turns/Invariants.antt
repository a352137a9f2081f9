use Rattle.std.proofs.Common.{◌≡◌, ◌<◌, ◌^◌, ◌++◌}
use Rattle.std.specs.List.{flat_map, range_with_len}
use Rattle.script_maker.specs.Draw.{after_draws}
use Rattle.script_maker.specs.Made.{turn_of}
use Rattle.script_maker.proofs.make.put_turns.Given as goal

abbrev pub invariant-loop-turn : goal.invariant-loop-turn
invariant-loop-turn l = record {
  written : l.out ≡ l.fn.out ++ flat_map (turn_of l.seed l.apps) (range_with_len 0 l.turn);
  drawn : l.draw ≡ after_draws l.turn l.seed;
  below : l.draw < 2 ^ 31;
}
