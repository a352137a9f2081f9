use Rattle.std.proofs.Common.{◌≡◌, ◌++◌}
use Rattle.group_store.specs.Unit.{AreRegisters}
use Rattle.member_replies.specs.Reply.{dsss_of, sets_said}
use Rattle.group_store.proofs.unit_end.put_sets.Given as goal

abbrev pub invariant-loop-register : goal.invariant-loop-register
invariant-loop-register l = record {
  so_far : l.replies ++ dsss_of l.corr (sets_said l.unit.typdef l.register-iterator)
      ≡ l.fn.replies ++ dsss_of l.corr (sets_said l.unit.typdef l.unit.registers);
  named : AreRegisters l.register-iterator;
}
