use Rattle.std.proofs.Common.{length, ◌-◌, ◌≡◌}
use Rattle.program_ends.proofs.Ends.{GoesOn}
use Rattle.program_ends.proofs.input.read_all.Given as goal

-- the text so far is what the source gave, and no read has failed or met the end
abbrev pub invariant-loop-buf : goal.invariant-loop-buf
invariant-loop-buf g l =
    record {
      buffer : length l.buf ≡ 4096;
      run : GoesOn (g.S.Source.state l.fn.source) (g.S.Source.state l.source) l.text;
    }

abbrev pub decreases-loop-buf : goal.decreases-loop-buf
decreases-loop-buf g l = 18446744073709551616 - length l.text
