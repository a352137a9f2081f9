use Rattle.std.proofs.Common.{◌≡◌, ◌++◌, length}
use Rattle.std.specs.List.{AllByRecursion}
use Rattle.unit_segments.specs.Kept.{IsShort, registers_of}
use Rattle.unit_segments.proofs.Registering.{objects_of}
use Rattle.unit_segments.proofs.registers.RegisterLog.command.Given as goal

abbrev pub invariant-loop-statement : goal.invariant-loop-statement
invariant-loop-statement l = record {
  so_far : l.objects ++ objects_of (registers_of l.left) ≡ objects_of l.fn.self;
  short : AllByRecursion IsShort l.left;
}

abbrev pub decreases-loop-statement : goal.decreases-loop-statement
decreases-loop-statement l = length l.left
