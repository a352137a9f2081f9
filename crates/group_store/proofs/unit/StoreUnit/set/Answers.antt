use Rattle.group_store.proofs.Registers.{still_named}
use Rattle.group_store.proofs.unit.StoreUnit.set.Goals as goal

pub invariant_of-self : goal.invariant_of-self
invariant_of-self c =
    still_named c.put_register.result c.args.register c.args.value c.self.inside.registers.entries c.put_register.new.registers.entries
    c.put_register.ensures.ok c.put_register.ensures.err c.self.invariant c.requires
