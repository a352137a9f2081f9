-- What a change of one slot makes of all.
use Rattle.std.proofs.Common.{◌≡◌, ℕ, zero, suc, ◌+◌, ◌<◌, ◌≤◌, ◌==◌, true, false, eqb, if◌then◌else◌, cond, [], ◌∷◌, length, get_or, set}
use Rattle.std.proofs.Common.{Option, Some, None, is_some, count_by, refl, sym, ◌∙◌, arith}
use Rattle.std.proofs.lemmas.Bool.Decides.{nat_tests}
use Rattle.std.proofs.lemmas.List.Sums.{sum_by-cons}
use Rattle.transport_pool.specs.Grants.{Resting}
use Rattle.transport_pool.specs.Sound.{times}
use Rattle.transport_pool.specs.Slots.{Slots, Slot, holds, is_free, is_blank, held, free, under, Leaves, Gains}

module _ {L : Type 0} where
  -- how often a slot has a number, and whether it has nothing
  abbrev pub once : ℕ → Slot L → ℕ
  once number slot = if holds number slot then 1 else 0

  abbrev pub freed : Slot L → ℕ
  freed slot = if is_free slot then 1 else 0

  held_more : (n : ℕ) (slot : Slot L) (slots : Slots L) → times n (held (slot ∷ slots)) ≡ once n slot + times n (held slots)
  held_more n None slots = omega arith
  held_more n (Some None) slots = omega arith
  held_more n (Some (Some t)) slots = refl

  free_more : (slot : Slot L) (slots : Slots L) → free (slot ∷ slots) ≡ freed slot + free slots
  free_more None slots = omega arith
  free_more (Some None) slots = refl
  free_more (Some (Some t)) slots = omega arith

  under_other : (n : ℕ) (slot : Slot L) (slots : Slots L) → holds n slot ≡ false → under n (slot ∷ slots) ≡ under n slots
  under_other n None slots h = refl
  under_other n (Some None) slots h = refl
  under_other n (Some (Some t)) slots h = rw h

  under_here : (n : ℕ) (t : Resting L) (slots : Slots L) → t.grant.number ≡ n → under n (Some (Some t) ∷ slots) ≡ Some t
  under_here n t slots h = let yes : eqb t.grant.number n ≡ true = grind (arith, nat_tests) in rw yes

  -- ---- nothing is found

  pub none_held : (n : ℕ) (slots : Slots L) → ((k : ℕ) → k < length slots → holds n (get_or slots k None) ≡ false) → times n (held slots) ≡ 0
  none_held n [] h = refl
  none_held n (slot ∷ slots) h =
      let rest = none_held n slots (λ k lt. h (suc k) (omega arith)) in
      let first : holds n slot ≡ false = h 0 (omega arith) in
      held_more n slot slots ∙ rw first (omega arith)

  pub none_free : (slots : Slots L) → ((k : ℕ) → k < length slots → is_free (get_or slots k None) ≡ false) → free slots ≡ 0
  none_free [] h = refl
  none_free (slot ∷ slots) h =
      let rest = none_free slots (λ k lt. h (suc k) (omega arith)) in
      let first : is_free slot ≡ false = h 0 (omega arith) in
      free_more slot slots ∙ rw first (omega arith)

  -- ---- slots that are all blank

  pub blank_held : (slots : Slots L) → ((k : ℕ) → is_blank (get_or slots k None) ≡ true) → held slots ≡ []
  blank_held [] h = refl
  blank_held (None ∷ slots) h = blank_held slots (λ k. h (suc k))
  blank_held (Some None ∷ slots) h = blank_held slots (λ k. h (suc k))
  blank_held (Some (Some t) ∷ slots) h = let bad : false ≡ true = h 0 in cc

  pub blank_free : (slots : Slots L) → ((k : ℕ) → is_blank (get_or slots k None) ≡ true) → free slots ≡ count_by is_some slots
  blank_free [] h = refl
  blank_free (None ∷ slots) h =
      let rest = blank_free slots (λ k. h (suc k)) in
      omega (arith, sum_by-cons (λ (o : Slot L). cond (is_some o) 1 0) None slots)
  blank_free (Some None ∷ slots) h =
      let rest = blank_free slots (λ k. h (suc k)) in
      omega (arith, sum_by-cons (λ (o : Slot L). cond (is_some o) 1 0) (Some None) slots)
  blank_free (Some (Some t) ∷ slots) h = let bad : false ≡ true = h 0 in cc

  -- ---- one slot is set

  pub set_held : (n key : ℕ) (slots : Slots L) (new : Slot L) → key < length slots
      → times n (held (set slots key new)) + once n (get_or slots key None) ≡ times n (held slots) + once n new
  set_held n key [] new lt = absurd (omega arith)
  set_held n zero (slot ∷ slots) new lt = let a = held_more n slot slots in let b = held_more n new slots in omega arith
  set_held n (suc key) (slot ∷ slots) new lt =
      let a = held_more n slot slots in
      let b = held_more n slot (set slots key new) in
      let rest = set_held n key slots new (omega arith) in
      omega arith

  pub set_free : (key : ℕ) (slots : Slots L) (new : Slot L) → key < length slots
      → free (set slots key new) + freed (get_or slots key None) ≡ free slots + freed new
  set_free key [] new lt = absurd (omega arith)
  set_free zero (slot ∷ slots) new lt = let a = free_more slot slots in let b = free_more new slots in omega arith
  set_free (suc key) (slot ∷ slots) new lt =
      let a = free_more slot slots in
      let b = free_more slot (set slots key new) in
      let rest = set_free key slots new (omega arith) in
      omega arith

  under_cons : (n : ℕ) (slot : Slot L) (xs ys : Slots L) → under n xs ≡ under n ys → under n (slot ∷ xs) ≡ under n (slot ∷ ys)
  under_cons n None xs ys e = e
  under_cons n (Some None) xs ys e = e
  under_cons n (Some (Some t)) xs ys e = rw e

  pub set_under : (n key : ℕ) (slots : Slots L) (new : Slot L) → holds n (get_or slots key None) ≡ false
      → holds n new ≡ false → under n (set slots key new) ≡ under n slots
  set_under n key [] new h k = refl
  set_under n zero (slot ∷ slots) new h k = under_other n new slots k ∙ sym (under_other n slot slots h)
  set_under n (suc key) (slot ∷ slots) new h k = under_cons n slot (set slots key new) slots (set_under n key slots new h k)

  at_held : (n key : ℕ) (slots : Slots L) (t : Resting L) → get_or slots key None ≡ Some (Some t) → t.grant.number ≡ n
      → 1 ≤ times n (held slots)
  at_held n key [] t e same = cc
  at_held n zero (slot ∷ slots) t e same = let yes : eqb t.grant.number n ≡ true = grind (arith, nat_tests) in rw (e, yes) (omega arith)
  at_held n (suc key) (slot ∷ slots) t e same = let more = held_more n slot slots in let rest = at_held n key slots t e same in omega arith

  -- what stands under the only key with a number
  pub under_at : (n key : ℕ) (slots : Slots L) (t : Resting L) → get_or slots key None ≡ Some (Some t) → t.grant.number ≡ n
      → times n (held slots) ≤ 1 → under n slots ≡ Some t
  under_at n key [] t e same most = cc
  under_at n zero (slot ∷ slots) t e same most = rw e (under_here n t slots same)
  under_at n (suc key) (slot ∷ slots) t e same most =
      let more = held_more n slot slots in
      elim (holds n slot) as (λ b. holds n slot ≡ b → under n (slot ∷ slots) ≡ Some t) [
        | true ↦ λ yes.
            let one : once n slot ≡ 1 = rw yes in
            let there = at_held n key slots t e same in absurd (omega arith)
        | false ↦ λ no. under_other n slot slots no ∙ under_at n key slots t e same (omega arith)
      ] refl

  within : (key : ℕ) (slots : Slots L) (slot : Option (Resting L)) → get_or slots key None ≡ Some slot → key < length slots
  within key [] slot e = cc
  within zero (x ∷ slots) slot e = omega arith
  within (suc key) (x ∷ slots) slot e = let h = within key slots slot e in omega arith

  -- a transport is taken out of its slot
  pub leaves_at : (number key : ℕ) (old new : Slots L) (t : Resting L) → holds number (get_or old key None) ≡ true
      → get_or old key None ≡ Some (Some t) → new ≡ set old key (Some None) → Leaves number old new
  leaves_at number key old new t test there is =
      let lt = within key old (Some t) there in
      let has : eqb t.grant.number number ≡ true = rw there at test in
      let same : t.grant.number ≡ number = grind (arith, nat_tests) in
      rw is (record {
        freed = (let h = set_free key old (Some None) lt in let z : freed (get_or old key None) ≡ 0 = rw there refl in omega arith);
        counted = (λ n. let h = set_held n key old (Some None) lt in let z : once n (get_or old key None) ≡ (if number == n then 1 else 0) =
            rw (there, same) refl in omega arith);
        others = (λ n differ. let no : holds n (get_or old key None) ≡ false = rw there (grind (arith, nat_tests)) in
            set_under n key old (Some None) no refl);
      })

  pub found_at : (number key : ℕ) (old : Slots L) (t : Resting L) → holds number (get_or old key None) ≡ true
      → get_or old key None ≡ Some (Some t) → times number (held old) ≡ 1 → under number old ≡ Some t
  found_at number key old t test there one =
      let has : eqb t.grant.number number ≡ true = rw there at test in
      under_at number key old t there (grind (arith, nat_tests)) (omega arith)

  -- what stands under a number that a slot takes, and that none had
  gained_own : (key : ℕ) (slots : Slots L) (t : Resting L) → key < length slots → times t.grant.number (held slots) ≡ 0
      → under t.grant.number (set slots key (Some (Some t))) ≡ Some t
  gained_own key [] t lt none = absurd (omega arith)
  gained_own zero (slot ∷ slots) t lt none = under_here t.grant.number t slots refl
  gained_own (suc key) (slot ∷ slots) t lt none =
      let more = held_more t.grant.number slot slots in
      let rest = gained_own key slots t (omega arith) (omega arith) in
      elim (holds t.grant.number slot) as (λ b. holds t.grant.number slot ≡ b → under t.grant.number (slot ∷ set slots key (Some (Some t))) ≡ Some t) [
        | true ↦ λ yes. let one : once t.grant.number slot ≡ 1 = rw yes in absurd (omega arith)
        | false ↦ λ no. under_other t.grant.number slot (set slots key (Some (Some t))) no ∙ rest
      ] refl

  free_there : (slot : Slot L) → is_free slot ≡ true → slot ≡ Some None
  free_there None h = cc
  free_there (Some None) h = refl
  free_there (Some (Some t)) h = cc

  -- a transport is put into a slot
  pub gains_at : (key : ℕ) (old new : Slots L) (t : Resting L) → is_free (get_or old key None) ≡ true
      → times t.grant.number (held old) ≡ 0 → new ≡ set old key (Some (Some t)) → Gains t old new
  gains_at key old new t test none is =
      let there = free_there (get_or old key None) test in
      let lt = within key old None there in
      rw is (record {
        filled = (let h = set_free key old (Some (Some t)) lt in let z : freed (get_or old key None) ≡ 1 = rw there refl in omega arith);
        counted = (λ n. let h = set_held n key old (Some (Some t)) lt in let z : once n (get_or old key None) ≡ 0 = rw there refl in omega arith);
        others = (λ n differ. let no : holds n (get_or old key None) ≡ false = rw there refl in
            set_under n key old (Some (Some t)) no (grind (arith, nat_tests)));
        own = gained_own key old t lt none;
      })
