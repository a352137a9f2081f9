use Rattle.std.proofs.Common.{◌≡◌, ◌++◌, length}
use Rattle.unit_segments.specs.Kept.{registers_of, IsKept}
use Rattle.unit_segments.proofs.registers.RegisterLog.copy.Given as goal

abbrev pub invariant-loop-key : goal.invariant-loop-key
invariant-loop-key l = record {
  kept : IsKept (l.statements.entries ++ l.left);
  same : registers_of (l.statements.entries ++ l.left) ≡ l.fn.self;
}

abbrev pub decreases-loop-key : goal.decreases-loop-key
decreases-loop-key l = length l.left
