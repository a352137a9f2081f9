-- What a house keeps and shows after what was decided.
use Rattle.std.proofs.Common.{◌≡◌, ◌≢◌, ◌⊎◌, inl, inr, ℕ, ◌≤◌, ◌==◌, Bool, true, false, not, eqb, cond, List, [], ◌∷◌, ◌++◌}
use Rattle.std.proofs.Common.{Option, Some, None, IsSomeAnd, refl, ap, sym, ◌∙◌, subst, arith}
use Rattle.std.proofs.lemmas.Bool.Decides.{nat_tests}
use Rattle.server_list.specs.declared.list.ServerRow.{ServerRow}
use Rattle.transport_pool.specs.State.{PoolState, without, is_among}
use Rattle.transport_pool.specs.Steps.{pool_step}
use Rattle.transport_pool.specs.Sound.{times, IsSound, RowsAreSound}
use Rattle.transport_pool.specs.Journal.{Decided, decided_after, dials_after}
use Rattle.transport_pool.specs.Grants.{Resting, IsAtRest}
use Rattle.transport_pool.specs.Slots.{Slots, numbered, held, free, under, Leaves, Gains}
use Rattle.transport_pool.specs.House.{HouseState, rests_given, handed_out, rests_lent, but_for, numbered_so}
use Rattle.transport_pool.specs.HouseInside.{in_order, AreKept, AreAtRest}
use Rattle.transport_pool.specs.Lends.{lent_on, IsLent, HasTerms, AllTried, dialled}
use Rattle.transport_pool.specs.Moves.{CanLend, MovesLent, HandsOut, CanRest, MovesGiven, handed_back}
use Rattle.transport_pool.specs.declared.terms.Terms.{Terms}
use Rattle.transport_pool.specs.declared.lend.Lend.{Lend}
use Rattle.transport_pool.specs.declared.lend.Lend.TheVariants as lend
use Rattle.transport_pool.specs.declared.numbers.Numbered.{Numbered}
use Rattle.transport_pool.specs.declared.entry.PoolCall.{PoolCall}
use Rattle.transport_pool.specs.declared.entry.PoolCall.TheVariants as call
use Rattle.transport_pool.specs.declared.entry.PoolAnswer.{PoolAnswer}
use Rattle.transport_pool.specs.declared.entry.PoolAnswer.TheVariants.{Idle, Dial, Queue, NoneLeft, Worn, Handed, Nothing}
use Rattle.transport_pool.proofs.Keeps.{among_times, times_without, all_filter, all_push}
use Rattle.transport_pool.proofs.Tries.{all_within}
use Rattle.transport_pool.proofs.Deciding.{Lends, Gives, lends_so, gives_so}
use Rattle.transport_pool.proofs.Housing.{order_without, order_push, order_found, kept_without, kept_push, among_lies}

-- ---- what was decided

pub idle_after : (old new : Decided) (call : PoolCall) → new ≡ decided_after old call → new.pool.idle ≡ (pool_step old.pool call).state.idle
idle_after old new call e = ap (λ (d : Decided). d.pool.idle) e

pub idle_same : (old new : Decided) (call : PoolCall) → new ≡ decided_after old call → (pool_step old.pool call).state.idle ≡ old.pool.idle
    → new.pool.idle ≡ old.pool.idle
idle_same old new call e f = idle_after old new call e ∙ f

pub lends_told : (old : Decided) (session tried : ℕ) (fresh : Bool) (answer : PoolAnswer)
    → answer ≡ (pool_step old.pool (call.Lend session tried fresh)).answer → RowsAreSound old.pool.list.rows
    → Lends old.pool tried answer (pool_step old.pool (call.Lend session tried fresh)).state
lends_told old session tried fresh answer e s =
    let P : PoolAnswer → Type 0 = λ a. Lends old.pool tried a (pool_step old.pool (call.Lend session tried fresh)).state in
    subst P (sym e) (lends_so old.pool session tried fresh s)

pub gives_told : (old : Decided) (number member : ℕ) (answer : PoolAnswer) → answer ≡ (pool_step old.pool (call.GiveBack number member)).answer
    → IsSound old.pool → Gives old.pool (record { number = number; member = member }) answer (pool_step old.pool (call.GiveBack number member)).state
gives_told old number member answer e s =
    let t : Numbered = record { number = number; member = member } in
    let P : PoolAnswer → Type 0 = λ a. Gives old.pool t a (pool_step old.pool (call.GiveBack number member)).state in
    subst P (sym e) (gives_so old.pool number member s)

fewer : (number gone : ℕ) (idle : List Numbered) → times number idle ≡ 0 → times number (without gone idle) ≡ 0
fewer number gone idle none = let h = times_without number gone idle in grind (arith, nat_tests)

same_or_not : (a b : ℕ) → (a ≡ b) ⊎ (a ≢ b)
same_or_not a b = elim (eqb a b) as (λ c. eqb a b ≡ c → (a ≡ b) ⊎ (a ≢ b)) [
  | true ↦ λ yes. inl (grind (arith, nat_tests))
  | false ↦ λ no. inr (λ e. grind (arith, nat_tests))
] refl

module _ {L : Type 0} where
  -- ---- nothing moves

  pub kept_along : (slots : Slots L) (old new : List Numbered) → new ≡ old → AreKept slots old → AreKept slots new
  kept_along slots old new e k = let P : List Numbered → Type 0 = λ idle. AreKept slots idle in subst P (sym e) k

  -- what a house shows
  pub shows : (sessions tickets : ℕ) (now next : Decided) (got want : List (Resting L)) → now ≡ next → got ≡ want
      → ◌≡◌ {A = HouseState L} (record { decided = now; resting = got; sessions = sessions; tickets = tickets }) (record {
        decided = next;
        resting = want;
        sessions = sessions;
        tickets = tickets;
      })
  shows sessions tickets now next got want e f =
      let made : Decided → List (Resting L) → HouseState L = λ decided resting. record {
        decided = decided;
        resting = resting;
        sessions = sessions;
        tickets = tickets;
      } in
      ap (λ (d : Decided). made d got) e ∙ ap (λ (r : List (Resting L)). made next r) f

  pub order_same : (slots : Slots L) (old new : List Numbered) → new ≡ old → in_order slots new ≡ in_order slots old
  order_same slots old new e = ap (in_order slots) e

  -- ---- one is lent

  pub one_held : (slots : Slots L) (pool : PoolState) (number member : ℕ) → is_among number member pool.idle ≡ true
      → IsSound pool → AreKept slots pool.idle → times number (held slots) ≡ 1
  one_held slots pool number member e s k =
      let some = among_times number member pool.idle e in
      let most = s.apart number in
      let here = k.counted number in
      omega arith

  pub lent_kept : (old new : Slots L) (idle next : List Numbered) (number : ℕ) → Leaves number old new
      → next ≡ without number idle → times number (held old) ≡ 1 → AreKept old idle → AreKept new next
  lent_kept old new idle next number l e one k =
      let here = k.counted number in
      kept_along new (without number idle) next e (kept_without number old new idle l (omega arith) k)

  pub lent_order : (old new : Slots L) (idle next : List Numbered) (number : ℕ) → Leaves number old new
      → next ≡ without number idle → in_order new next ≡ but_for number (in_order old idle)
  lent_order old new idle next number l e = ap (in_order new) e ∙ order_without number old new idle l

  some_and : (o : Option (Resting L)) (t : Resting L) (P : Resting L → Type 0) → o ≡ Some t → IsSomeAnd o P → P t
  some_and o t P e h = let Q : Option (Resting L) → Type 0 = λ x. IsSomeAnd x P in let k : IsSomeAnd (Some t) P = subst Q e h in k

  pub lent_found : (slots : Slots L) (pool : PoolState) (number member : ℕ) (t : Resting L)
      → is_among number member pool.idle ≡ true → AreKept slots pool.idle → under number slots ≡ Some t
      → (numbered_so number (in_order slots pool.idle) ≡ Some t) × (t.grant.member ≡ member)
  lent_found slots pool number member t e k found =
      let some = among_times number member pool.idle e in (
        order_found number slots pool.idle some k.lying ∙ found,
        some_and (under number slots) t (λ there. there.grant.member ≡ member) found (among_lies number member slots pool.idle e k.lying),
      )

  -- ---- one comes to rest

  pub room_for : (slots : Slots L) (pool : PoolState) → IsSound pool → AreKept slots pool.idle → 1 ≤ free slots
  room_for slots pool s k = let a = s.idle in let b = k.room in omega arith

  pub rest_kept : (old new : Slots L) (idle next : List Numbered) (t : Resting L) → Gains t old new
      → next ≡ idle ++ numbered t ∷ [] → times t.grant.number idle ≡ 0 → AreKept old idle → AreKept new next
  rest_kept old new idle next t g e unused k = kept_along new (idle ++ numbered t ∷ []) next e (kept_push t old new idle g unused k)

  pub rest_order : (old new : Slots L) (idle next : List Numbered) (t : Resting L) → Gains t old new
      → next ≡ idle ++ numbered t ∷ [] → times t.grant.number idle ≡ 0 → in_order new next ≡ in_order old idle ++ t ∷ []
  rest_order old new idle next t g e unused = ap (in_order new) e ∙ order_push t old new idle g unused

  pub exchange_kept : (old mid new : Slots L) (idle next : List Numbered) (number : ℕ) (t : Resting L)
      → Leaves number old mid → Gains t mid new → next ≡ without number idle ++ numbered t ∷ [] → times number idle ≡ 1
      → times t.grant.number idle ≡ 0 → AreKept old idle → AreKept new next
  exchange_kept old mid new idle next number t l g e one unused k =
      rest_kept mid new (without number idle) next t g e (fewer t.grant.number number idle unused) (kept_without number old mid idle l one k)

  pub exchange_order : (old mid new : Slots L) (idle next : List Numbered) (number : ℕ) (t : Resting L)
      → Leaves number old mid → Gains t mid new → next ≡ without number idle ++ numbered t ∷ [] → times t.grant.number idle ≡ 0
      → in_order new next ≡ but_for number (in_order old idle) ++ t ∷ []
  exchange_order old mid new idle next number t l g e unused =
      rest_order mid new (without number idle) next t g e (fewer t.grant.number number idle unused)
      ∙ ap (λ (r : List (Resting L)). r ++ t ∷ []) (order_without number old mid idle l)

  -- ---- what a lend needs, keeps and shows

  pub can_lend : (slots : Slots L) (pool next : PoolState) (tried : ℕ) (answer : PoolAnswer) → Lends pool tried answer next
      → IsSound pool → AreKept slots pool.idle → CanLend answer slots
  can_lend slots pool next tried (Idle number member) h s k = one_held slots pool number member h.1 s k
  can_lend slots pool next tried (Dial number member) h s k = h.1
  can_lend slots pool next tried Queue h s k = tt
  can_lend slots pool next tried NoneLeft h s k = tt
  can_lend slots pool next tried Worn h s k = tt
  can_lend slots pool next tried (Handed number) h s k = h
  can_lend slots pool next tried Nothing h s k = h

  same_kept : (old new : Slots L) (idle next : List Numbered) → new ≡ old → next ≡ idle → AreKept old idle → AreKept new next
  same_kept old new idle next e f k =
      let P : Slots L → Type 0 = λ slots. AreKept slots next in subst P (sym e) (kept_along old idle next f k)

  same_order : (old new : Slots L) (idle next : List Numbered) → new ≡ old → next ≡ idle → in_order new next ≡ in_order old idle
  same_order old new idle next e f = ap (λ (slots : Slots L). in_order slots next) e ∙ ap (in_order old) f

  pub lend_kept : (old new : Slots L) (pool next : PoolState) (tried : ℕ) (answer : PoolAnswer)
      → Lends pool tried answer next → MovesLent answer old new → IsSound pool → AreKept old pool.idle → AreKept new next.idle
  lend_kept old new pool next tried (Idle number member) h m s k =
      lent_kept old new pool.idle next.idle number m h.0 (one_held old pool number member h.1 s k) k
  lend_kept old new pool next tried (Dial number member) h m s k = same_kept old new pool.idle next.idle m h.0 k
  lend_kept old new pool next tried Queue h m s k = same_kept old new pool.idle next.idle m h k
  lend_kept old new pool next tried NoneLeft h m s k = same_kept old new pool.idle next.idle m h.0 k
  lend_kept old new pool next tried Worn h m s k = same_kept old new pool.idle next.idle m h k
  lend_kept old new pool next tried (Handed number) h m s k = absurd h
  lend_kept old new pool next tried Nothing h m s k = absurd h

  pub lend_order : (old new : Slots L) (pool next : PoolState) (tried : ℕ) (answer : PoolAnswer)
      → Lends pool tried answer next → MovesLent answer old new → in_order new next.idle ≡ rests_lent answer (in_order old pool.idle)
  lend_order old new pool next tried (Idle number member) h m = lent_order old new pool.idle next.idle number m h.0
  lend_order old new pool next tried (Dial number member) h m = same_order old new pool.idle next.idle m h.0
  lend_order old new pool next tried Queue h m = same_order old new pool.idle next.idle m h
  lend_order old new pool next tried NoneLeft h m = same_order old new pool.idle next.idle m h.0
  lend_order old new pool next tried Worn h m = same_order old new pool.idle next.idle m h
  lend_order old new pool next tried (Handed number) h m = absurd h
  lend_order old new pool next tried Nothing h m = absurd h

  lend_idle : (slots : Slots L) (pool : PoolState) (number member : ℕ) (terms : Terms) (o : Option (Resting L)) (result : Lend L)
      → under number slots ≡ o → is_among number member pool.idle ≡ true → AreKept slots pool.idle
      → IsSomeAnd o (λ t. result ≡ lend.Idle (lent_on terms t))
      → IsSomeAnd (numbered_so number (in_order slots pool.idle)) (λ t. (t.grant.member ≡ member) × (result ≡ lend.Idle (lent_on terms t)))
  lend_idle slots pool number member terms None result e a k h = absurd h
  lend_idle slots pool number member terms (Some t) result e a k h =
      let f = lent_found slots pool number member t a k e in
      rw f.0 (f.1, h)

  pub lend_out : (slots : Slots L) (pool next : PoolState) (tried : ℕ) (answer : PoolAnswer) (terms : Terms) (result : Lend L)
      → Lends pool tried answer next → AreKept slots pool.idle → HandsOut terms pool.list.rows slots answer result
      → IsLent terms pool.list.rows (in_order slots pool.idle) answer result
  lend_out slots pool next tried (Idle number member) terms result h k o =
      lend_idle slots pool number member terms (under number slots) result refl h.1 k o
  lend_out slots pool next tried (Dial number member) terms result h k o = o
  lend_out slots pool next tried Queue terms result h k o = o
  lend_out slots pool next tried NoneLeft terms result h k o = o
  lend_out slots pool next tried Worn terms result h k o = o
  lend_out slots pool next tried (Handed number) terms result h k o = absurd h
  lend_out slots pool next tried Nothing terms result h k o = absurd h

  -- ---- what a giving back needs, keeps and shows

  pub can_rest : (slots : Slots L) (pool next : PoolState) (t : Resting L) (answer : PoolAnswer)
      → Gives pool (numbered t) answer next → IsSound pool → AreKept slots pool.idle → CanRest t answer slots
  can_rest slots pool next t (Idle number member) h s k = h
  can_rest slots pool next t (Dial number member) h s k = h
  can_rest slots pool next t Queue h s k = h
  can_rest slots pool next t NoneLeft h s k = h
  can_rest slots pool next t Worn h s k = h
  can_rest slots pool next t (Handed number) h s k =
      λ differ. let g = h.1 differ in (k.counted number ∙ g.1, k.counted t.grant.number ∙ g.0.unused)
  can_rest slots pool next t Nothing h s k = (room_for slots pool s k, k.counted t.grant.number ∙ h.unused)

  pub give_kept : (old new : Slots L) (pool next : PoolState) (t : Resting L) (answer : PoolAnswer)
      → Gives pool (numbered t) answer next → MovesGiven t answer old new → AreKept old pool.idle → AreKept new next.idle
  give_kept old new pool next t (Idle number member) h m k = absurd h
  give_kept old new pool next t (Dial number member) h m k = absurd h
  give_kept old new pool next t Queue h m k = absurd h
  give_kept old new pool next t NoneLeft h m k = absurd h
  give_kept old new pool next t Worn h m k = absurd h
  give_kept old new pool next t (Handed number) h m k = elim (same_or_not number t.grant.number) [
    | inl same ↦ same_kept old new pool.idle next.idle (m.0 same) (h.0 same) k
    | inr differ ↦
        let g = h.1 differ in
        let x = m.1 differ in
        exchange_kept old x.between new pool.idle next.idle number t x.left x.gained g.0.idle g.1 g.0.unused k
  ]
  give_kept old new pool next t Nothing h m k = rest_kept old new pool.idle next.idle t m h.idle h.unused k

  pub give_order : (old new : Slots L) (pool next : PoolState) (t : Resting L) (answer : PoolAnswer)
      → Gives pool (numbered t) answer next → MovesGiven t answer old new
      → in_order new next.idle ≡ rests_given answer t (in_order old pool.idle)
  give_order old new pool next t (Idle number member) h m = absurd h
  give_order old new pool next t (Dial number member) h m = absurd h
  give_order old new pool next t Queue h m = absurd h
  give_order old new pool next t NoneLeft h m = absurd h
  give_order old new pool next t Worn h m = absurd h
  give_order old new pool next t (Handed number) h m = elim (same_or_not number t.grant.number) [
    | inl same ↦
        let test : eqb number t.grant.number ≡ true = grind (arith, nat_tests) in
        rw test (same_order old new pool.idle next.idle (m.0 same) (h.0 same))
    | inr differ ↦
        let test : eqb number t.grant.number ≡ false = grind (arith, nat_tests) in
        let g = h.1 differ in
        let x = m.1 differ in
        rw test (exchange_order old x.between new pool.idle next.idle number t x.left x.gained g.0.idle g.0.unused)
  ]
  give_order old new pool next t Nothing h m = rest_order old new pool.idle next.idle t m h.idle h.unused

  pub give_out : (slots : Slots L) (pool next : PoolState) (t : Resting L) (answer : PoolAnswer)
      → Gives pool (numbered t) answer next → AreKept slots pool.idle
      → handed_back t answer slots ≡ handed_out answer t (in_order slots pool.idle)
  give_out slots pool next t (Idle number member) h k = refl
  give_out slots pool next t (Dial number member) h k = refl
  give_out slots pool next t Queue h k = refl
  give_out slots pool next t NoneLeft h k = refl
  give_out slots pool next t Worn h k = refl
  give_out slots pool next t (Handed number) h k = elim (same_or_not number t.grant.number) [
    | inl same ↦ let test : eqb number t.grant.number ≡ true = grind (arith, nat_tests) in rw test refl
    | inr differ ↦
        let test : eqb number t.grant.number ≡ false = grind (arith, nat_tests) in
        let g = h.1 differ in
        let one = g.1 in
        rw test (sym (order_found number slots pool.idle (omega arith) k.lying))
  ]
  give_out slots pool next t Nothing h k = refl

  -- members that are told to be tried are
  untold : (terms : Terms) (result want : Lend L) → result ≡ want → AllTried terms want → AllTried terms result
  untold terms result want e h = let P : Lend L → Type 0 = λ r. AllTried terms r in subst P (sym e) h

  idle_tried : (terms : Terms) (o : Option (Resting L)) (result : Lend L) → IsSomeAnd o (λ t. result ≡ lend.Idle (lent_on terms t)) → AllTried terms result
  idle_tried terms None result h = absurd h
  idle_tried terms (Some t) result h = untold terms result (lend.Idle (lent_on terms t)) h tt

  pub lend_tried : (slots : Slots L) (pool next : PoolState) (answer : PoolAnswer) (terms : Terms) (result : Lend L)
      → Lends pool terms.tried answer next → RowsAreSound pool.list.rows → HandsOut terms pool.list.rows slots answer result → AllTried terms result
  lend_tried slots pool next (Idle number member) terms result h s o = idle_tried terms (under number slots) result o
  lend_tried slots pool next (Dial number member) terms result h s o = untold terms result _ o tt
  lend_tried slots pool next Queue terms result h s o = untold terms result _ o tt
  lend_tried slots pool next NoneLeft terms result h s o = untold terms result _ o (all_within pool.list.rows terms.tried s h.2)
  lend_tried slots pool next Worn terms result h s o = untold terms result _ o tt
  lend_tried slots pool next (Handed number) terms result h s o = absurd h
  lend_tried slots pool next Nothing terms result h s o = absurd h

  -- ---- what is handed out, by itself

  told_terms : (terms : Terms) (result want : Lend L) → result ≡ want → HasTerms terms want → HasTerms terms result
  told_terms terms result want e h = let P : Lend L → Type 0 = λ r. HasTerms terms r in subst P (sym e) h

  idle_terms : (terms : Terms) (member : ℕ) (o : Option (Resting L)) (result : Lend L)
      → IsSomeAnd o (λ t. (t.grant.member ≡ member) × (result ≡ lend.Idle (lent_on terms t)))
      → HasTerms terms result × ((count : ℕ) → dialled result count ≡ count)
  idle_terms terms member None result h = absurd h
  idle_terms terms member (Some t) result h =
      (told_terms terms result (lend.Idle (lent_on terms t)) h.1 refl, λ count. ap (λ (r : Lend L). dialled r count) h.1)

  pub lent_terms : (terms : Terms) (rows : List ServerRow) (resting : List (Resting L)) (answer : PoolAnswer) (result : Lend L)
      → IsLent terms rows resting answer result → HasTerms terms result × ((count : ℕ) → dialled result count ≡ dials_after answer count)
  lent_terms terms rows resting (Idle number member) result h = idle_terms terms member (numbered_so number resting) result h
  lent_terms terms rows resting (Dial number member) result h =
      (told_terms terms result _ h refl, λ count. ap (λ (r : Lend L). dialled r count) h)
  lent_terms terms rows resting Queue result h = (told_terms terms result _ h tt, λ count. ap (λ (r : Lend L). dialled r count) h)
  lent_terms terms rows resting NoneLeft result h = (told_terms terms result _ h refl, λ count. ap (λ (r : Lend L). dialled r count) h)
  lent_terms terms rows resting Worn result h = (told_terms terms result _ h refl, λ count. ap (λ (r : Lend L). dialled r count) h)
  lent_terms terms rows resting (Handed number) result h = absurd h
  lent_terms terms rows resting Nothing result h = absurd h

  -- ---- transports at rest

  pub still_along : (old new : List (Resting L)) → new ≡ old → AreAtRest old → AreAtRest new
  still_along old new e h = let P : List (Resting L) → Type 0 = λ r. AreAtRest r in subst P (sym e) h

  pub still_lent : (answer : PoolAnswer) (resting : List (Resting L)) → AreAtRest resting → AreAtRest (rests_lent answer resting)
  still_lent (Idle number member) resting h = all_filter (λ t. IsAtRest t.mark) (λ t. not (t.grant.number == number)) resting h
  still_lent (Dial number member) resting h = h
  still_lent Queue resting h = h
  still_lent NoneLeft resting h = h
  still_lent Worn resting h = h
  still_lent (Handed number) resting h = h
  still_lent Nothing resting h = h

  pub still_given : (answer : PoolAnswer) (t : Resting L) (resting : List (Resting L)) → IsAtRest t.mark → AreAtRest resting
      → AreAtRest (rests_given answer t resting)
  still_given (Idle number member) t resting m h = all_push (λ r. IsAtRest r.mark) resting t h m
  still_given (Dial number member) t resting m h = all_push (λ r. IsAtRest r.mark) resting t h m
  still_given Queue t resting m h = all_push (λ r. IsAtRest r.mark) resting t h m
  still_given NoneLeft t resting m h = all_push (λ r. IsAtRest r.mark) resting t h m
  still_given Worn t resting m h = all_push (λ r. IsAtRest r.mark) resting t h m
  still_given Nothing t resting m h = all_push (λ r. IsAtRest r.mark) resting t h m
  still_given (Handed number) t resting m h =
      let base = but_for number resting in
      elim (eqb number t.grant.number) as (λ b. AreAtRest (cond b resting (base ++ t ∷ []))) [
        | true ↦ h
        | false ↦
            all_push (λ r. IsAtRest r.mark) base t (all_filter (λ r. IsAtRest r.mark) (λ r. not (r.grant.number == number)) resting h) m
      ]
