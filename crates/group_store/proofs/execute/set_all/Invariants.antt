use Rattle.std.proofs.Common.{◌≡◌, length}
use Rattle.ddm_codepoints.specs.CodePoint.{sqlstt}
use Rattle.group_store.specs.Statement.{data_with}
use Rattle.group_store.specs.Execute.{after_sets}
use Rattle.group_store.proofs.execute.set_all.Given as goal

abbrev pub invariant-loop-body : goal.invariant-loop-body
invariant-loop-body l = record {
  others : l.unit ≡ record l.fn.unit { registers = l.unit.registers };
  so_far : after_sets l.fn.unit.typdef (data_with sqlstt l.left) l.unit.registers
      ≡ after_sets l.fn.unit.typdef (data_with sqlstt l.fn.objects) l.fn.unit.registers;
}

abbrev pub decreases-loop-body : goal.decreases-loop-body
decreases-loop-body l = length l.left
