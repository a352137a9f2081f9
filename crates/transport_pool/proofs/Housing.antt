-- The links of idle transports in their order, and what a change of one slot keeps of them.
use Rattle.std.proofs.Common.{◌≡◌, ◌≢◌, ℕ, ◌+◌, ◌≤◌, ◌&&◌, true, false, not, eqb, cond, List, [], ◌∷◌, ◌++◌, length}
use Rattle.std.proofs.Common.{map, Option, Some, None, IfSome, IsSomeAnd, refl, ap, sym, ◌∙◌, subst, arith}
use Rattle.std.proofs.lemmas.Bool.{and_parts}
use Rattle.std.proofs.lemmas.Bool.Decides.{nat_tests}
use Rattle.std.proofs.lemmas.List.{length-append}
use Rattle.std.specs.List.{AllByRecursion, cons_option}
use Rattle.transport_pool.specs.State.{without, is_among}
use Rattle.transport_pool.specs.Sound.{times}
use Rattle.transport_pool.specs.Grants.{Resting}
use Rattle.transport_pool.specs.Slots.{Slots, numbered, under, Leaves, Gains}
use Rattle.transport_pool.specs.House.{numbered_so, but_for}
use Rattle.transport_pool.specs.HouseInside.{in_order, Lies, AreKept}
use Rattle.transport_pool.specs.declared.numbers.Numbered.{Numbered}
use Rattle.transport_pool.proofs.Finding.{has_number, times_append}
use Rattle.transport_pool.proofs.Keeps.{times_without}

-- as many go as have the number
length_without : (number : ℕ) (ts : List Numbered) → length (without number ts) + times number ts ≡ length ts
length_without number [] = omega arith
length_without number (t ∷ ts) =
    let h = length_without number ts in
    elim (eqb t.number number) as (λ b. length (cond (not b) (t ∷ without number ts) (without number ts)) + (cond b 1 0 + times number ts) ≡ length (t ∷ ts)) [
      | true ↦ omega arith
      | false ↦ omega arith
    ]

-- the first of a list that has not this number, and the rest
first_differs : (number : ℕ) (t : Numbered) (ts : List Numbered) → times number (t ∷ ts) ≡ 0 → (t.number ≢ number) × (times number ts ≡ 0)
first_differs number t ts h =
    elim (eqb t.number number) as (λ b. eqb t.number number ≡ b → (t.number ≢ number) × (times number ts ≡ 0)) [
      | true ↦ λ yes. let one : has_number number t ≡ 1 = rw yes in absurd (omega arith)
      | false ↦ λ no. (λ e. grind (arith, nat_tests), omega arith)
    ] refl

module _ {L : Type 0} where
  -- what stands under a number has it
  pub under_number : (number : ℕ) (slots : Slots L) → IfSome (under number slots) (λ t. t.grant.number ≡ number)
  under_number number [] = tt
  under_number number (None ∷ slots) = under_number number slots
  under_number number (Some None ∷ slots) = under_number number slots
  under_number number (Some (Some t) ∷ slots) =
      elim (eqb t.grant.number number) as (λ b. eqb t.grant.number number ≡ b → IfSome (cond b (Some t) (under number slots)) (λ t. t.grant.number ≡ number)) [
        | true ↦ λ yes. grind (arith, nat_tests)
        | false ↦ λ no. under_number number slots
      ] refl

  -- ---- one is taken out

  gone_cons : (number own : ℕ) (o : Option (Resting L)) (rest : List (Resting L)) → eqb own number ≡ true → IfSome o (λ t. t.grant.number ≡ own)
      → but_for number (cons_option o rest) ≡ but_for number rest
  gone_cons number own None rest test h = refl
  gone_cons number own (Some t) rest test h = let same : eqb t.grant.number number ≡ true = rw h test in rw same

  stays_cons : (number own : ℕ) (o : Option (Resting L)) (rest : List (Resting L)) → eqb own number ≡ false → IfSome o (λ t. t.grant.number ≡ own)
      → but_for number (cons_option o rest) ≡ cons_option o (but_for number rest)
  stays_cons number own None rest test h = refl
  stays_cons number own (Some t) rest test h = let differ : eqb t.grant.number number ≡ false = rw h test in rw differ

  pub order_without : (number : ℕ) (old new : Slots L) (idle : List Numbered) → Leaves number old new
      → in_order new (without number idle) ≡ but_for number (in_order old idle)
  order_without number old new [] l = refl
  order_without number old new (t ∷ idle) l =
      let rest = order_without number old new idle l in
      let own = under_number t.number old in
      elim (eqb t.number number) as (λ b. eqb t.number number ≡ b → in_order new (cond (not b) (t ∷ without number idle) (without number idle))
      ≡ but_for number (cons_option (under t.number old) (in_order old idle))) [
        | true ↦ λ yes. rest ∙ sym (gone_cons number t.number (under t.number old) (in_order old idle) yes own)
        | false ↦ λ no.
            let differ : t.number ≢ number = λ e. grind (arith, nat_tests) in
            let same = l.others t.number differ in
            let e = stays_cons number t.number (under t.number old) (in_order old idle) no own in
            rw (same, rest) (sym e)
      ] refl

  lies_along : (old new : Slots L) (t : Numbered) → under t.number new ≡ under t.number old → Lies old t → Lies new t
  lies_along old new t e h = let P : Option (Resting L) → Type 0 = λ o. IsSomeAnd o (λ there. numbered there ≡ t) in subst P (sym e) h

  lying_without : (number : ℕ) (old new : Slots L) (idle : List Numbered) → Leaves number old new
      → AllByRecursion (Lies old) idle → AllByRecursion (Lies new) (without number idle)
  lying_without number old new [] l h = tt
  lying_without number old new (t ∷ idle) l h =
      elim (eqb t.number number) as (λ b. eqb t.number number ≡ b → AllByRecursion (Lies new) (cond (not b) (t ∷ without number idle) (without number idle))) [
        | true ↦ λ yes. lying_without number old new idle l h.1
        | false ↦ λ no.
            let differ : t.number ≢ number = λ e. grind (arith, nat_tests) in
            (lies_along old new t (l.others t.number differ) h.0, lying_without number old new idle l h.1)
      ] refl

  pub kept_without : (number : ℕ) (old new : Slots L) (idle : List Numbered) → Leaves number old new
      → times number idle ≡ 1 → AreKept old idle → AreKept new (without number idle)
  kept_without number old new idle l one k = record {
    room = (let a = l.freed in let b = k.room in let c = length_without number idle in omega arith);
    counted = (λ n. let a = l.counted n in let b = k.counted n in let c = times_without n number idle in grind (arith, nat_tests));
    lying = lying_without number old new idle l k.lying;
  }

  -- ---- one is put in

  cons_along : (o : Option (Resting L)) (xs ys : List (Resting L)) → cons_option o (xs ++ ys) ≡ cons_option o xs ++ ys
  cons_along None xs ys = refl
  cons_along (Some t) xs ys = refl

  pub order_push : (t : Resting L) (old new : Slots L) (idle : List Numbered) → Gains t old new
      → times t.grant.number idle ≡ 0 → in_order new (idle ++ numbered t ∷ []) ≡ in_order old idle ++ t ∷ []
  order_push t old new [] g none = rw g.own
  order_push t old new (x ∷ idle) g none =
      let d = first_differs t.grant.number x idle none in
      let rest = order_push t old new idle g d.1 in
      let same = g.others x.number d.0 in
      rw (same, rest) (cons_along (under x.number old) (in_order old idle) (t ∷ []))

  lying_push : (t : Resting L) (old new : Slots L) (idle : List Numbered) → Gains t old new
      → times t.grant.number idle ≡ 0 → AllByRecursion (Lies old) idle → AllByRecursion (Lies new) (idle ++ numbered t ∷ [])
  lying_push t old new [] g none h = (rw g.own refl, tt)
  lying_push t old new (x ∷ idle) g none h =
      let d = first_differs t.grant.number x idle none in
      (lies_along old new x (g.others x.number d.0) h.0, lying_push t old new idle g d.1 h.1)

  pub kept_push : (t : Resting L) (old new : Slots L) (idle : List Numbered) → Gains t old new
      → times t.grant.number idle ≡ 0 → AreKept old idle → AreKept new (idle ++ numbered t ∷ [])
  kept_push t old new idle g none k = record {
    room = (let a = g.filled in let b = k.room in let c = length-append idle (numbered t ∷ []) in omega arith);
    counted = (λ n. let a = g.counted n in let b = k.counted n in let c = times_append n idle (numbered t ∷ []) in grind (arith, nat_tests));
    lying = lying_push t old new idle g none k.lying;
  }

  -- ---- what is found

  found_step : (number : ℕ) (slots : Slots L) (x : Numbered) (o : Option (Resting L)) (rest : List (Resting L))
      → under x.number slots ≡ o → IsSomeAnd o (λ there. numbered there ≡ x)
      → (eqb x.number number ≡ false → numbered_so number rest ≡ under number slots) → numbered_so number (cons_option o rest) ≡ under number slots
  found_step number slots x None rest e k h = absurd k
  found_step number slots x (Some r) rest e k h =
      let own : r.grant.number ≡ x.number = ap (λ (n : Numbered). n.number) k in
      elim (eqb x.number number) as (λ b. eqb x.number number ≡ b → numbered_so number (r ∷ rest) ≡ under number slots) [
        | true ↦ λ yes.
            let same : x.number ≡ number = grind (arith, nat_tests) in
            let here : eqb r.grant.number number ≡ true = rw own yes in
            rw here (sym e ∙ ap (λ (n : ℕ). under n slots) same)
        | false ↦ λ no.
            let differ : eqb r.grant.number number ≡ false = rw own no in
            rw differ (h no)
      ] refl

  -- the transport of a number that is idle
  pub order_found : (number : ℕ) (slots : Slots L) (idle : List Numbered) → 1 ≤ times number idle
      → AllByRecursion (Lies slots) idle → numbered_so number (in_order slots idle) ≡ under number slots
  order_found number slots [] some h = absurd (omega arith)
  order_found number slots (x ∷ idle) some h =
      found_step number slots x (under x.number slots) (in_order slots idle) refl h.0 (λ no. let none : has_number number x ≡ 0 =
      rw no in order_found number slots idle (omega arith) h.1)

  member_of : (o : Option (Resting L)) (x : Numbered) (member : ℕ) → IsSomeAnd o (λ there. numbered there ≡ x) → x.member ≡ member
      → IsSomeAnd o (λ there. there.grant.member ≡ member)
  member_of None x member h e = absurd h
  member_of (Some t) x member h e = ap (λ (n : Numbered). n.member) h ∙ e

  cons_numbers : (o : Option (Resting L)) (x : Numbered) (rest : List (Resting L)) → IsSomeAnd o (λ there. numbered there ≡ x)
      → map numbered (cons_option o rest) ≡ x ∷ map numbered rest
  cons_numbers None x rest h = absurd h
  cons_numbers (Some t) x rest h = ap (λ (n : Numbered). n ∷ map numbered rest) h

  -- the member of a transport that is idle
  pub among_lies : (number member : ℕ) (slots : Slots L) (idle : List Numbered) → is_among number member idle ≡ true
      → AllByRecursion (Lies slots) idle → IsSomeAnd (under number slots) (λ there. there.grant.member ≡ member)
  among_lies number member slots [] e h = cc
  among_lies number member slots (x ∷ idle) e h =
      elim (eqb x.number number && eqb x.member member)
      as (λ b. (eqb x.number number && eqb x.member member) ≡ b → IsSomeAnd (under number slots) (λ there. there.grant.member ≡ member)) [
        | true ↦ λ yes.
            let p = and_parts (eqb x.number number) (eqb x.member member) yes in
            let p0 = p.0 in
            let p1 = p.1 in
            let same : x.number ≡ number = grind (arith, nat_tests) in
            let member_same : x.member ≡ member = grind (arith, nat_tests) in
            let P : ℕ → Type 0 = λ n. IsSomeAnd (under n slots) (λ there. there.grant.member ≡ member) in
            subst P same (member_of (under x.number slots) x member h.0 member_same)
        | false ↦ λ no. among_lies number member slots idle (rw no at e) h.1
      ] refl

  -- the transports of the idle numbers have these numbers
  pub order_numbers : (slots : Slots L) (idle : List Numbered) → AllByRecursion (Lies slots) idle
      → map numbered (in_order slots idle) ≡ idle
  order_numbers slots [] h = refl
  order_numbers slots (x ∷ idle) h =
      cons_numbers (under x.number slots) x (in_order slots idle) h.0 ∙ ap (λ (ts : List Numbered). x ∷ ts) (order_numbers slots idle h.1)
