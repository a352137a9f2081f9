use Rattle.std.proofs.Common.{◌≡◌, ◌∙◌, ◌++◌, sym, ap, subst}
use Rattle.unit_segments.specs.Kept.{registers_of, IsKept}
use Rattle.unit_segments.proofs.Registering.{copied_on}
use Rattle.unit_segments.proofs.registers.RegisterLog.copy.Goals as goal

pub loop-key-preserved : goal.loop-key-preserved
loop-key-preserved c =
    let same : c.insert.new.self.entries ++ c.in-Some.rest ≡ c.loop-key.statements.entries ++ c.loop-key.left =
    copied_on c.loop-key.statements.entries c.insert.new.self.entries c.loop-key.left c.in-Some.rest c.in-Some.key.now c.in-Some.statement.now
    c.in_ok-clone.field-0 c.in_ok-share.field-0 c.loop-key.invariant.kept c.in-Some.ensures.parts c.in_ok-clone.ensures.cases c.in_ok-share.ensures
    c.in_ok-insert.ensures.entries in
    record {
      kept = subst IsKept (sym same) c.loop-key.invariant.kept;
      same = ap registers_of same ∙ c.loop-key.invariant.same;
    }
