use Rattle.std.proofs.Common.{◌+◌, ◌-◌, ◌*◌, ◌≤◌, length, drop}
use Rattle.dss_frame.specs.Scan.{Extends}
use Rattle.dss_frame.specs.Walk.{IsWalked}
use Rattle.dss_frame.proofs.Loops.Scan.{ReadsOn}
use Rattle.dss_frame.proofs.scan.Scanner.scan.Given as goal

abbrev pub invariant-loop-fault : goal.invariant-loop-fault
invariant-loop-fault l = record {
  kept : Extends l.fn.whole.items l.whole.items;
  reads_on : ReadsOn l.self.side l.self.limit l.bytes l.self.position l.position l.fn.whole.items l.whole.items l.begins;
  is_walked : IsWalked l.walked (drop l.begins l.bytes);
  steps : 3 * l.judged + l.self.walked ≤ l.begins + l.walked;
}

abbrev pub decreases-loop-fault : goal.decreases-loop-fault
decreases-loop-fault l = length l.bytes - l.begins
