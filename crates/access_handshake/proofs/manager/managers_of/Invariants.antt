use Rattle.std.proofs.Common.{◌≡◌, ◌+◌, ◌*◌, ◌≤◌, ◌++◌, length, vec_len}
use Rattle.access_handshake.specs.Managers.{managers_of}
use Rattle.access_handshake.proofs.manager.managers_of.Given as goal

abbrev pub invariant-loop-rest : goal.invariant-loop-rest
invariant-loop-rest l = record {
  managers : l.asked.items ++ managers_of l.rest ≡ managers_of l.list;
  size : 4 * vec_len l.asked + length l.rest ≤ length l.list;
}

abbrev pub decreases-loop-rest : goal.decreases-loop-rest
decreases-loop-rest l = length l.rest
