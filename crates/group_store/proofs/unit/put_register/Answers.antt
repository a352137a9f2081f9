use Rattle.std.proofs.Common.{◌≡◌, refl, sym, arith}
use Rattle.member_statements.specs.declared.register.Register.{Register}
use Rattle.member_statements.specs.declared.register.Register.TheVariants.{Schema, Degree, Path, Numbered}
use Rattle.member_statements.specs.contracts.register.RegisterOrd.TheImpl.{cmp-value}
use Rattle.group_store.specs.Unit.{register_order}
use Rattle.group_store.proofs.Registers.{inserted_alike, numbers_alike}
use Rattle.group_store.proofs.unit.put_register.Goals as goal

-- the order that is derived is that in which registers are told
same_order : (a b : Register) → cmp-value.it a b ≡ register_order a b
same_order Schema Schema = refl
same_order Schema Degree = refl
same_order Schema Path = refl
same_order Schema (Numbered k) = search arith
same_order Degree Schema = refl
same_order Degree Degree = refl
same_order Degree Path = refl
same_order Degree (Numbered k) = search arith
same_order Path Schema = refl
same_order Path Degree = refl
same_order Path Path = refl
same_order Path (Numbered k) = search arith
same_order (Numbered n) Schema = search arith
same_order (Numbered n) Degree = search arith
same_order (Numbered n) Path = search arith
same_order (Numbered n) (Numbered k) = sym (numbers_alike n k)

pub returns-clause-ok : goal.returns-clause-ok
returns-clause-ok c =
    inserted_alike _ register_order same_order c.args.registers.now.entries _ c.args.register c.args.value c.in_ok-insert.ensures.entries
