use Rattle.std.proofs.Common.{◌≡◌, ℕ, take}
use Rattle.std.specs.Ordering.{nat_cmp}
use Rattle.std.specs.BTreeSet.{contains}
use Rattle.drda_trace.specs.Lines.{has_number}
use Rattle.drda_trace.proofs.answered.numbers_of.Given as goal

-- the set has the numbers of the commands so far
abbrev pub invariant-loop-command : goal.invariant-loop-command
invariant-loop-command l = (corr : ℕ) → contains nat_cmp l.numbers corr ≡ has_number (take l.command-index l.commands) corr
