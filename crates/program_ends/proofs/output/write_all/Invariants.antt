use Rattle.std.proofs.Common.{length, take, ◌-◌, ◌≤◌}
use Rattle.program_ends.specs.Ends.{Took}
use Rattle.program_ends.proofs.output.write_all.Given as goal

-- the text up to this place was taken, and no write has failed or was stuck
abbrev pub invariant-loop-from : goal.invariant-loop-from
invariant-loop-from g l =
    record {
      within : l.from ≤ length l.text;
      took : Took (g.K.Sink.state l.fn.sink) (g.K.Sink.state l.sink) (take l.from l.text);
    }

abbrev pub decreases-loop-from : goal.decreases-loop-from
decreases-loop-from g l = length l.text - l.from
