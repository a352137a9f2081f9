-- What is found among transports.
use Rattle.std.proofs.Common.{◌≡◌, ℕ, ◌+◌, ◌≤◌, ◌==◌, true, false, eqb, if◌then◌else◌, List, [], ◌∷◌, ◌++◌, find, reverse, Option, Some, None}
use Rattle.std.proofs.Common.{IfSome}
use Rattle.std.proofs.Common.{refl, ap, sym, ◌∙◌, arith}
use Rattle.std.proofs.lemmas.Bool.Decides.{nat_tests}
use Rattle.std.proofs.lemmas.List.{reverse-append}
use Rattle.transport_pool.specs.Sound.{times}
use Rattle.transport_pool.specs.declared.numbers.Numbered.{Numbered}

abbrev pub has_number : ℕ → Numbered → ℕ
has_number number transport = if transport.number == number then 1 else 0

pub times_append : (number : ℕ) (xs ys : List Numbered) → times number (xs ++ ys) ≡ times number xs + times number ys
times_append number [] ys = omega arith
times_append number (x ∷ xs) ys = let h = times_append number xs ys in omega arith

pub times_back : (number : ℕ) (transports : List Numbered) → times number (reverse transports) ≡ times number transports
times_back number [] = refl
times_back number (t ∷ ts) =
    let e : reverse (t ∷ ts) ≡ reverse ts ++ t ∷ [] = reverse-append (t ∷ []) ts in
    let a = times_append number (reverse ts) (t ∷ []) in
    let b = times_back number ts in
    ap (times number) e ∙ omega arith

own : (t : Numbered) → has_number t.number t ≡ 1
own t = grind (arith, nat_tests)

found : (member : ℕ) (ts : List Numbered) (t : Numbered) → find (λ x. x.member == member) ts ≡ Some t → (1 ≤ times t.number ts) × (t.member ≡ member)
found member [] t e = cc
found member (x ∷ xs) t e = elim (eqb x.member member) as (λ b. eqb x.member member ≡ b → (1 ≤ times t.number (x ∷ xs)) × (t.member ≡ member)) [
  | true ↦ λ yes.
      let s : Some x ≡ Some t = rw yes at e in
      let same : x ≡ t = cc in
      let one : has_number t.number x ≡ 1 = ap (has_number t.number) same ∙ own t in
      let m : x.member ≡ member = grind (arith, nat_tests) in
      (omega arith, ap (λ (y : Numbered). y.member) (sym same) ∙ m)
  | false ↦ λ no.
      let h = found member xs t (rw no at e) in
      let h0 = h.0 in
      (omega arith, h.1)
] refl

there : (member : ℕ) (ts : List Numbered) (o : Option Numbered) → o ≡ find (λ x. x.member == member) (reverse ts)
    → IfSome o (λ t. (1 ≤ times t.number ts) × (t.member ≡ member))
there member ts None e = tt
there member ts (Some t) e =
    let h = found member (reverse ts) t (sym e) in
    let h0 = h.0 in
    let b = times_back t.number ts in
    (omega arith, h.1)

pub found_there : (member : ℕ) (ts : List Numbered) (o : Option Numbered) → o ≡ find (λ x. x.member == member) (reverse ts)
    → IfSome o (λ t. 1 ≤ times t.number ts)
found_there member ts None e = tt
found_there member ts (Some t) e = let h = there member ts (Some t) e in h.0

pub found_member : (member : ℕ) (ts : List Numbered) (o : Option Numbered) → o ≡ find (λ x. x.member == member) (reverse ts) → IfSome o (λ t. t.member ≡ member)
found_member member ts None e = tt
found_member member ts (Some t) e = let h = there member ts (Some t) e in h.1
