use Rattle.unit_segments.proofs.Registering.{kept_inserted, seen_inserted}
use Rattle.unit_segments.proofs.registers.RegisterLog.put.Goals as goal

pub invariant_of-self-2 : goal.invariant_of-self-2
invariant_of-self-2 c =
    kept_inserted c.args.key c.args.sqlstt.now c.in_ok-statement.statement c.self.inside.statements.entries c.insert.new.self.entries c.args.self.now
    c.self.invariant c.self.view_is c.in_ok-statement.ensures c.in_ok-insert.ensures.entries c.in_ok-insert.ensures.unique c.requires.size c.requires.room

pub returns-clause-ok : goal.returns-clause-ok
returns-clause-ok c =
    seen_inserted c.args.key c.args.sqlstt.now c.in_ok-statement.statement c.self.inside.statements.entries c.insert.new.self.entries c.args.self.now
    c.self.invariant c.self.view_is c.in_ok-statement.ensures c.in_ok-insert.ensures.entries
