-- What a pool's lend answers suits what it is asked with.
use Rattle.std.proofs.Common.{◌≡◌, ℕ, ◌+◌, ◌==◌, Bool, true, false, not, eqb, cond, List, [], ◌∷◌, ◌++◌, find, reverse, Option, Some, None}
use Rattle.std.proofs.Common.{IfSome, IsSomeAnd, option_map, refl, ap, sym, ◌∙◌, subst, arith}
use Rattle.std.proofs.lemmas.Bool.{and_parts}
use Rattle.std.proofs.lemmas.Bool.Decides.{nat_tests}
use Rattle.std.specs.Option.{option_or}
use Rattle.server_list.specs.Tried.{has_member}
use Rattle.server_list.specs.Choice.{is_untried, is_candidate, is_least, is_best, pick}
use Rattle.server_list.specs.declared.list.ServerRow.{ServerRow}
use Rattle.transport_pool.specs.State.{PoolState, counts_of}
use Rattle.transport_pool.specs.Steps.{Stepped, must_wait, after_leave, after_wait, next_transport, idle_of, lent_out, lent_by, pool_step}
use Rattle.transport_pool.specs.Grants.{Resting}
use Rattle.transport_pool.specs.House.{numbered_so}
use Rattle.transport_pool.specs.Lends.{lent_on, IsLent}
use Rattle.transport_pool.specs.declared.terms.Terms.{Terms}
use Rattle.transport_pool.specs.declared.lend.Lend.{Lend}
use Rattle.transport_pool.specs.declared.lend.Lend.TheVariants as lend
use Rattle.transport_pool.specs.declared.numbers.Numbered.{Numbered}
use Rattle.transport_pool.specs.declared.entry.PoolCall.TheVariants as call
use Rattle.transport_pool.specs.declared.entry.PoolAnswer.{PoolAnswer}
use Rattle.transport_pool.specs.declared.entry.PoolAnswer.TheVariants.{Idle, Dial, Queue, NoneLeft, Worn, Handed, Nothing}
use Rattle.transport_lenders.specs.Lender.{Suits, answer_of}

-- ---- what is picked

pub found_passes : {X : Type 0} (test : X → Bool) (xs : List X) → IfSome (find test xs) (λ x. test x ≡ true)
found_passes test [] = tt
found_passes test (x ∷ xs) = elim (test x) as (λ b. test x ≡ b → IfSome (cond b (Some x) (find test xs)) (λ y. test y ≡ true)) [
  | true ↦ λ yes. yes
  | false ↦ λ no. found_passes test xs
] refl

best_is_untried : (lent : List ℕ) (tried : ℕ) (rows : List ServerRow) (row : ServerRow) → is_best lent tried rows row ≡ true → is_untried tried row ≡ true
best_is_untried lent tried rows row h =
    let p = and_parts (is_candidate tried row) (is_least lent tried rows row) h in
    let q = and_parts _ (is_untried tried row) p.0 in q.1

not_tried : (tried : ℕ) (row : ServerRow) → is_untried tried row ≡ true → has_member tried row.member ≡ false
not_tried tried row u = elim (has_member tried row.member) as (λ b. not b ≡ true → b ≡ false) [ true ↦ λ h. cc | false ↦ λ h. refl ] u

untried_of : (tried : ℕ) (best untried : Option ServerRow) → IfSome best (λ row. is_untried tried row ≡ true)
    → IfSome untried (λ row. is_untried tried row ≡ true)
    → IfSome (option_map (λ (row : ServerRow). row.member) (option_or best untried)) (λ member. has_member tried member ≡ false)
untried_of tried (Some row) untried b u = not_tried tried row b
untried_of tried None (Some row) b u = not_tried tried row u
untried_of tried None None b u = tt

best_untried : (lent : List ℕ) (tried : ℕ) (rows : List ServerRow) (o : Option ServerRow) → IfSome o (λ row. is_best lent tried rows row ≡ true)
    → IfSome o (λ row. is_untried tried row ≡ true)
best_untried lent tried rows None h = tt
best_untried lent tried rows (Some row) h = best_is_untried lent tried rows row h

pick_untried : (rows : List ServerRow) (lent : List ℕ) (tried : ℕ) → IfSome (pick rows lent tried) (λ member. has_member tried member ≡ false)
pick_untried rows lent tried =
    untried_of tried (find (is_best lent tried rows) rows) (find (is_untried tried) rows)
    (best_untried lent tried rows (find (is_best lent tried rows) rows) (found_passes (is_best lent tried rows) rows))
    (found_passes (is_untried tried) rows)

-- ---- what is answered

-- an answer with a transport has one of a member that isn't tried, and an idle one only where no fresh one is wanted
abbrev pub SuitsSo : ℕ → Bool → PoolAnswer → Type 0
SuitsSo tried fresh (Idle number member) = (fresh ≡ false) × (has_member tried member ≡ false)
SuitsSo tried fresh (Dial number member) = has_member tried member ≡ false
SuitsSo tried fresh _ = Unit {0}

out_suits : (pool : PoolState) (tried member : ℕ) (fresh : Bool) (o : Option Numbered) → has_member tried member ≡ false
    → IfSome o (λ t. (fresh ≡ false) × (t.member ≡ member)) → SuitsSo tried fresh (lent_out pool member o).answer
out_suits pool tried member fresh (Some t) m h = (h.0, (let P : ℕ → Type 0 = λ n. has_member tried n ≡ false in subst P (sym h.1) m))
out_suits pool tried member fresh None m h =
    let worn : Stepped = record { state = pool; answer = Worn } in
    let more : Stepped = record {
      state = record pool { lent = pool.lent ++ next_transport pool member ∷ []; drawn = pool.drawn + 1 };
      answer = Dial (pool.drawn + 1) member;
    } in
    elim (eqb pool.drawn 18446744073709551615) as (λ b. let r : Stepped = cond b worn more in SuitsSo tried fresh r.answer) [
      | true ↦ tt
      | false ↦ m
    ]

same_member : (member : ℕ) (o : Option Numbered) → IfSome o (λ t. (t.member == member) ≡ true) → IfSome o (λ t. (false ≡ false) × (t.member ≡ member))
same_member member None h = tt
same_member member (Some t) h = (refl, grind (arith, nat_tests))

idle_suits : (member : ℕ) (fresh : Bool) (idle : List Numbered) → IfSome (idle_of member fresh idle) (λ t. (fresh ≡ false) × (t.member ≡ member))
idle_suits member true idle = tt
idle_suits member false idle =
    same_member member (find (λ t. t.member == member) (reverse idle)) (found_passes (λ (t : Numbered). t.member == member) (reverse idle))

by_suits : (pool : PoolState) (session tried : ℕ) (fresh : Bool) (o : Option ℕ) → IfSome o (λ member. has_member tried member ≡ false)
    → SuitsSo tried fresh (lent_by pool session fresh o).answer
by_suits pool session tried fresh None h = tt
by_suits pool session tried fresh (Some member) h =
    let waits : Stepped = record { state = after_wait pool session; answer = Queue } in
    let lends : Stepped = lent_out (after_leave pool session) member (idle_of member fresh pool.idle) in
    elim (must_wait pool session) as (λ b. let r : Stepped = cond b waits lends in SuitsSo tried fresh r.answer) [
      | true ↦ tt
      | false ↦ out_suits (after_leave pool session) tried member fresh (idle_of member fresh pool.idle) h (idle_suits member fresh pool.idle)
    ]

suits_so : (pool : PoolState) (session tried : ℕ) (fresh : Bool) → SuitsSo tried fresh (pool_step pool (call.Lend session tried fresh)).answer
unfolding pool_step
suits_so pool session tried fresh =
    by_suits pool session tried fresh (pick pool.list.rows (counts_of pool.lent) tried) (pick_untried pool.list.rows (counts_of pool.lent) tried)

-- ---- what is handed out

module _ {L : Type 0} where
  -- what is handed out is what was answered
  numbered_is : (number : ℕ) (resting : List (Resting L)) → IfSome (numbered_so number resting) (λ t. t.grant.number ≡ number)
  numbered_is number [] = tt
  numbered_is number (t ∷ others) =
      elim (eqb t.grant.number number)
      as (λ b. eqb t.grant.number number ≡ b → IfSome (cond b (Some t) (numbered_so number others)) (λ u. u.grant.number ≡ number)) [
        | true ↦ λ yes. grind (arith, nat_tests)
        | false ↦ λ no. numbered_is number others
      ] refl

  idle_answer : (terms : Terms) (number member : ℕ) (o : Option (Resting L)) (result : Lend L) → IfSome o (λ t. t.grant.number ≡ number)
      → IsSomeAnd o (λ t. (t.grant.member ≡ member) × (result ≡ lend.Idle (lent_on terms t))) → Idle number member ≡ answer_of result
  idle_answer terms number member None result n h = absurd h
  idle_answer terms number member (Some t) result n h =
      let e : answer_of result ≡ Idle t.grant.number t.grant.member = ap (answer_of {L = L}) h.1 in
      let s : Idle t.grant.number t.grant.member ≡ Idle number member = rw (n, h.0) refl in sym (e ∙ s)

  pub lent_answer : (terms : Terms) (rows : List ServerRow) (resting : List (Resting L)) (answer : PoolAnswer) (result : Lend L)
      → IsLent terms rows resting answer result → answer ≡ answer_of result
  lent_answer terms rows resting (Idle number member) result h =
      idle_answer terms number member (numbered_so number resting) result (numbered_is number resting) h
  lent_answer terms rows resting (Dial number member) result h = sym (ap (answer_of {L = L}) h)
  lent_answer terms rows resting Queue result h = sym (ap (answer_of {L = L}) h)
  lent_answer terms rows resting NoneLeft result h = sym (ap (answer_of {L = L}) h)
  lent_answer terms rows resting Worn result h = sym (ap (answer_of {L = L}) h)
  lent_answer terms rows resting (Handed number) result h = absurd h
  lent_answer terms rows resting Nothing result h = absurd h

  suits_answer : (terms : Terms) (result : Lend L) → SuitsSo terms.tried terms.fresh (answer_of result) → Suits terms result
  suits_answer terms (lend.Idle transport) h = h
  suits_answer terms (lend.Dial grant) h = h
  suits_answer terms lend.Queue h = tt
  suits_answer terms (lend.NoneLeft listed) h = tt
  suits_answer terms (lend.Worn spent) h = tt

  pub lent_suits : (pool : PoolState) (terms : Terms) (result : Lend L)
      → (pool_step pool (call.Lend terms.session terms.tried terms.fresh)).answer ≡ answer_of result → Suits terms result
  lent_suits pool terms result e =
      suits_answer terms result (subst (SuitsSo terms.tried terms.fresh) e (suits_so pool terms.session terms.tried terms.fresh))
