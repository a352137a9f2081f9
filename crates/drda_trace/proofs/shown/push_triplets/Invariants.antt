use Rattle.std.proofs.Common.{◌≡◌, ◌++◌, length}
use Rattle.fdoca_pass.specs.Triplets.{triplets_of}
use Rattle.fdoca_pass.proofs.Walking.{triplets_left}
use Rattle.drda_trace.specs.Lines.{triplets_lines}
use Rattle.drda_trace.proofs.shown.push_triplets.Given as goal

-- the lines so far, and those of the triplets that are left, are all lines
abbrev pub invariant-loop-next : goal.invariant-loop-next
invariant-loop-next l = l.lines ++ triplets_lines (triplets_left l.scan) ≡ l.fn.lines ++ triplets_lines (triplets_of l.bytes)

abbrev pub decreases-loop-next : goal.decreases-loop-next
decreases-loop-next l = length l.scan.left
