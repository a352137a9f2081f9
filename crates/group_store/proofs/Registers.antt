-- Registers that have names.
use Rattle.std.specs.Prelude.{◌≡◌, ℕ, ◌+◌, ◌<◌, List, [], ◌∷◌, Result, Ok, Err, OnOk, OnErr}
use Rattle.std.proofs.Common.{refl, sym, ap, ◌∙◌, subst, arith}
use Rattle.std.specs.Ordering.{nat_cmp, match_ordering, MatchOrdering}
use Rattle.std.specs.Cmp.{nat_cmp_is, ranked}
use Rattle.std.specs.declared.cmp.Ordering.{Ordering}
use Rattle.std.specs.declared.cmp.Ordering.TheVariants.{Less, Equal, Greater}
use Rattle.std.specs.BTreeMap.{insert_entry}
use Rattle.member_statements.specs.declared.register.Register.{Register}
use Rattle.member_statements.specs.Register.{IsRegister}
use Rattle.group_store.specs.Unit.{register_order, Registers, AreRegisters}

pub registers_with : (order : Register → Register → Ordering) (register : Register) (value : List ℕ) (registers : Registers)
    → AreRegisters registers → IsRegister register → AreRegisters (insert_entry order registers register value)
registers_with order register value [] named is = (is, tt)
registers_with order register value (entry ∷ registers) named is =
    by_order (order register entry.0) (registers_with order register value registers named.1 is) where
      by_order : (o : Ordering) → AreRegisters (insert_entry order registers register value)
          → AreRegisters (match_ordering o ((register, value) ∷ entry ∷ registers) ((entry.0, value) ∷ registers)
          (entry ∷ insert_entry order registers register value))
      by_order Less others = (is, named)
      by_order Equal others = (named.0, named.1)
      by_order Greater others = (named.0, others)

-- an order that is another one puts what is inserted in the same place
pub inserted_alike : (f g : Register → Register → Ordering) → ((a b : Register) → f a b ≡ g a b) → (registers now : Registers) (register : Register)
    (value : List ℕ) → now ≡ insert_entry f registers register value → now ≡ insert_entry g registers register value
inserted_alike f g same registers now register value is = is ∙ all registers
  where
    all : (rs : Registers) → insert_entry f rs register value ≡ insert_entry g rs register value
    all [] = refl
    all (entry ∷ rs) =
        ap (λ (o : Ordering). match_ordering o ((register, value) ∷ entry ∷ rs) ((entry.0, value) ∷ rs) (entry ∷ insert_entry f rs register value))
        (same register entry.0)
        ∙ ap (λ (others : Registers). match_ordering (g register entry.0) ((register, value) ∷ entry ∷ rs) ((entry.0, value) ∷ rs) (entry ∷ others)) (all rs)

-- numbers that are moved stay in their order
pub numbers_alike : (n k : ℕ) → nat_cmp (n + 3) (k + 3) ≡ nat_cmp n k
numbers_alike n k = sym (nat_cmp_is (n + 3) (k + 3) (nat_cmp n k) (go (nat_cmp n k) (ranked n k (nat_cmp n k) refl)))
  where
    go : (o : Ordering) → MatchOrdering o (n < k) (n ≡ k) (k < n) → MatchOrdering o (n + 3 < k + 3) (n + 3 ≡ k + 3) (k + 3 < n + 3)
    go Less is = omega (arith, is)
    go Equal is = omega (arith, is)
    go Greater is = omega (arith, is)

-- registers after one was set, or wasn't for want of memory
pub still_named : {A E : Type 0} (result : Result A E) (register : Register) (value : List ℕ) (old now : Registers)
    → OnOk result (now ≡ insert_entry register_order old register value) → OnErr result (now ≡ old) → AreRegisters old → IsRegister register → AreRegisters now
still_named (Ok a) register value old now ok err named is = subst AreRegisters (sym ok) (registers_with register_order register value old named is)
still_named (Err e) register value old now ok err named is = subst AreRegisters (sym err) named
