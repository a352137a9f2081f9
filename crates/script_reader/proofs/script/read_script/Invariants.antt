use Rattle.std.proofs.Common.{length}
use Rattle.script_reader.proofs.Lines.{ReadSoFar}
use Rattle.script_reader.proofs.script.read_script.Given as goal

abbrev pub invariant-loop-rest : goal.invariant-loop-rest
invariant-loop-rest l = ReadSoFar l.number l.draft l.rest l.text

abbrev pub decreases-loop-rest : goal.decreases-loop-rest
decreases-loop-rest l = length l.rest
