use Rattle.std.proofs.Common.{length}
use Rattle.drda_trace.proofs.Capturing.{ReadSoFar}
use Rattle.drda_trace.proofs.capture.read_capture.Given as goal

abbrev pub invariant-loop-rest : goal.invariant-loop-rest
invariant-loop-rest l = ReadSoFar l.number l.capture l.rest l.text

abbrev pub decreases-loop-rest : goal.decreases-loop-rest
decreases-loop-rest l = length l.rest
