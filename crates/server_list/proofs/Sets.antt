-- Sets of members as the bits of a number.
use Rattle.std.proofs.Common.{◌≡◌, ◌≢◌, ℕ, ◌-◌, ◌^◌, ◌&&◌, ◌||◌, ◌==◌, Bool, true, false, eqb, bit_or, refl, ap, sym, ◌∙◌, arith}
use Rattle.std.specs.Int.{bit_at}
use Rattle.std.proofs.lemmas.Bool.Decides.{nat_tests}
use Rattle.std.proofs.lemmas.Nat.Bits.{bit_at_or, bit_at-pow_same, bit_at-pow_other, bit_at-zero, bit_at-lt}
use Rattle.server_list.specs.Tried.{is_member, has_member, with_member}

and_false : (b : Bool) → (b && false) ≡ false
and_false true = refl
and_false false = refl

pub has_none : (member : ℕ) → has_member 0 member ≡ false
has_none member = rw (bit_at-zero (member - 1)) (and_false (is_member member))

-- the bit that is added is there, and the others are as before
bit_same : (tried place : ℕ) → bit_at (bit_or tried (2 ^ place)) place ≡ 1
bit_same tried place =
    let e = bit_at_or tried (2 ^ place) place in
    let p = bit_at-pow_same place in
    let l = bit_at-lt tried place in
    e ∙ rw p (omega arith)

bit_other : (tried place other : ℕ) → other ≢ place → bit_at (bit_or tried (2 ^ place)) other ≡ bit_at tried other
bit_other tried place other ne =
    let p = bit_at-pow_other place other ne in
    bit_at_or tried (2 ^ place) other ∙ rw p (omega arith)

has_added : (tried member other : ℕ) → is_member member ≡ true → is_member other ≡ true
    → eqb (bit_at (with_member tried member) (other - 1)) 1 ≡ (eqb other member || eqb (bit_at tried (other - 1)) 1)
has_added tried member other m o =
    elim (eqb other member) as (λ b. eqb other member ≡ b → eqb (bit_at (with_member tried member) (other - 1)) 1 ≡ (b || eqb (bit_at tried (other - 1)) 1)) [
      | true ↦ λ t.
          let same : other ≡ member = grind (arith, nat_tests) in
          ap (λ (place : ℕ). eqb (bit_at (with_member tried member) (place - 1)) 1) same ∙ ap (λ (bit : ℕ). eqb bit 1) (bit_same tried (member - 1))
      | false ↦ λ f.
          let differ : other - 1 ≢ member - 1 = λ e. grind (arith, nat_tests) in
          ap (λ (bit : ℕ). eqb bit 1) (bit_other tried (member - 1) (other - 1) differ)
    ] refl

not_added : (member other : ℕ) → is_member member ≡ true → is_member other ≡ false → false ≡ (eqb other member || false)
not_added member other m o = elim (eqb other member) as (λ b. eqb other member ≡ b → false ≡ (b || false)) [
  | true ↦ λ t.
      let same : other ≡ member = grind (arith, nat_tests) in
      let bad : true ≡ false = sym m ∙ ap is_member (sym same) ∙ o in cc
  | false ↦ λ f. refl
] refl

pub has_with : (tried member other : ℕ) → is_member member ≡ true → has_member (with_member tried member) other ≡ (other == member || has_member tried other)
has_with tried member other m =
    elim (is_member other) as (λ b. is_member other ≡ b → (b && eqb (bit_at (with_member tried member) (other - 1)) 1) ≡ (eqb other member || (b &&
    eqb (bit_at tried (other - 1)) 1))) [
      | true ↦ λ o. has_added tried member other m o
      | false ↦ λ o. not_added member other m o
    ] refl
