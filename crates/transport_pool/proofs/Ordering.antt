-- A session that waits stays in order, whatever calls come, until it is served or leaves.
use Rattle.std.proofs.Common.{◌≡◌, ◌≢◌, ◌⊎◌, ℕ, ◌+◌, ◌==◌, ◌&&◌, ◌||◌, Bool, true, false, not}
use Rattle.std.proofs.Common.{eqb, leb, ltb, cond, List, [], ◌∷◌, ◌++◌, length, filter, Option, Some, None}
use Rattle.std.proofs.Common.{refl, ap, ◌∙◌, inl, inr, arith}
use Rattle.std.proofs.lemmas.Bool.Decides.{nat_tests}
use Rattle.server_list.specs.Lists.{Listing}
use Rattle.server_list.specs.Layout.{known_rows, unless_empty}
use Rattle.server_list.specs.Choice.{pick}
use Rattle.transport_pool.specs.State.{PoolState, without, is_among, is_waiting, left_by, counts_of}
use Rattle.transport_pool.specs.Steps.{Stepped, must_wait, after_leave, after_wait, next_transport, idle_of, lent_out, lent_by, lend_step, rested, give_step}
use Rattle.transport_pool.specs.Steps.{oldest_of, most_idle, is_newer, learned, after_learn, pool_step}
use Rattle.transport_pool.specs.declared.numbers.Numbered.{Numbered}
use Rattle.transport_pool.specs.declared.entry.PoolAnswer.{PoolAnswer}
use Rattle.transport_pool.specs.declared.entry.PoolAnswer.TheVariants.{Dial, Queue, Worn, Handed, Nothing}
use Rattle.transport_pool.specs.declared.entry.PoolCall.{PoolCall}
use Rattle.transport_pool.specs.declared.entry.PoolCall.TheVariants.{Lend, GiveBack, Lost, Learn, Leave}
use Rattle.transport_pool.specs.Runs.{after_calls}
use Rattle.transport_pool.specs.Waiting.{ahead, StaysInOrder, IsUnserved, IsUnservedThrough}

-- ---- lists of sessions

all_stay : (xs : List ℕ) → xs ≡ filter (λ x. true) xs
all_stay [] = refl
all_stay (x ∷ xs) = ap (λ (ys : List ℕ). x ∷ ys) (all_stay xs)

both_stay : (p q : ℕ → Bool) (xs : List ℕ) → filter p (filter q xs) ≡ filter (λ x. q x && p x) xs
both_stay p q [] = refl
both_stay p q (x ∷ xs) =
    let h = both_stay p q xs in
    elim (q x) as (λ b. filter p (cond b (x ∷ filter q xs) (filter q xs)) ≡ cond (b && p x) (x ∷ filter (λ y. q y && p y) xs) (filter (λ y. q y && p y) xs)) [
      | true ↦ elim (p x) as (λ b. cond b (x ∷ filter p (filter q xs)) (filter p (filter q xs)) ≡ cond b (x ∷ filter (λ y. q y && p y) xs) (filter
          (λ y. q y && p y) xs)) [ true ↦ ap (λ (ys : List ℕ). x ∷ ys) h | false ↦ h ]
      | false ↦ h
    ]

stays_same : (session : ℕ) (old new : List ℕ) → new ≡ old → is_waiting session old ≡ true → StaysInOrder session old new
stays_same session old new e w = rw e (record { waits = w; stays = (λ x. true); before = all_stay (ahead session old) })

stays_on : (session : ℕ) (a b c : List ℕ) → StaysInOrder session a b → StaysInOrder session b c → StaysInOrder session a c
stays_on session a b c h k = record {
  waits = k.waits;
  stays = (λ x. h.stays x && k.stays x);
  before = k.before ∙ ap (filter k.stays) h.before ∙ both_stay k.stays h.stays (ahead session a);
}

waits_left : (session other : ℕ) (ws : List ℕ) → other ≢ session → is_waiting session (left_by other ws) ≡ is_waiting session ws
waits_left session other [] ne = refl
waits_left session other (w ∷ ws) ne =
    let h = waits_left session other ws ne in
    elim (eqb w other)
    as (λ b. eqb w other ≡ b → is_waiting session (cond (not b) (w ∷ left_by other ws) (left_by other ws)) ≡ is_waiting session (w ∷ ws)) [
      | true ↦ λ yes. let differ : eqb w session ≡ false = grind (arith, nat_tests) in rw differ h
      | false ↦ λ no. ap (λ (b : Bool). (w == session) || b) h
    ] refl

ahead_left : (session other : ℕ) (ws : List ℕ) → other ≢ session → ahead session (left_by other ws) ≡ left_by other (ahead session ws)
ahead_left session other [] ne = refl
ahead_left session other (w ∷ ws) ne =
    let h = ahead_left session other ws ne in
    elim (eqb w session)
    as (λ b. eqb w session ≡ b → ahead session (left_by other (w ∷ ws)) ≡ left_by other (cond b [] (w ∷ ahead session ws))) [
      | true ↦ λ yes. let differ : eqb w other ≡ false = grind (arith, nat_tests) in rw (differ, yes) refl
      | false ↦ λ no. elim (eqb w other)
          as (λ b. ahead session (cond (not b) (w ∷ left_by other ws) (left_by other ws)) ≡ cond (not b) (w ∷ left_by other (ahead session ws)) (left_by
          other (ahead session ws))) [ true ↦ h | false ↦ rw (no, h) refl ]
    ] refl

stays_left : (session other : ℕ) (old new : List ℕ) → new ≡ left_by other old → other ≢ session → is_waiting session old ≡ true
    → StaysInOrder session old new
stays_left session other old new e ne w = rw e (record {
  waits = waits_left session other old ne ∙ w;
  stays = (λ x. not (x == other));
  before = ahead_left session other old ne;
})

waits_push : (session other : ℕ) (ws : List ℕ) → is_waiting session ws ≡ true → is_waiting session (ws ++ other ∷ []) ≡ true
waits_push session other [] w = cc
waits_push session other (x ∷ ws) w = elim (eqb x session) as (λ b. eqb x session ≡ b → (b || is_waiting session (ws ++ other ∷ [])) ≡ true) [
  | true ↦ λ yes. refl
  | false ↦ λ no. waits_push session other ws (rw no at w)
] refl

ahead_push : (session other : ℕ) (ws : List ℕ) → is_waiting session ws ≡ true → ahead session (ws ++ other ∷ []) ≡ ahead session ws
ahead_push session other [] w = cc
ahead_push session other (x ∷ ws) w =
    elim (eqb x session) as (λ b. eqb x session ≡ b → cond b [] (x ∷ ahead session (ws ++ other ∷ [])) ≡ cond b [] (x ∷ ahead session ws)) [
      | true ↦ λ yes. refl
      | false ↦ λ no. ap (λ (ys : List ℕ). x ∷ ys) (ahead_push session other ws (rw no at w))
    ] refl

stays_push : (session other : ℕ) (old new : List ℕ) → new ≡ old ++ other ∷ [] → is_waiting session old ≡ true → StaysInOrder session old new
stays_push session other old new e w = rw e (record {
  waits = waits_push session other old w;
  stays = (λ x. true);
  before = ahead_push session other old w ∙ all_stay (ahead session old);
})

-- ---- who waits after a lend

-- The session waits on, at the end where it didn't yet; else it is off the list.
abbrev pub WaitsOn : PoolState → ℕ → PoolAnswer → PoolState → Type 0
WaitsOn pool session answer next =
    (((next.waiting ≡ pool.waiting) ⊎ (next.waiting ≡ pool.waiting ++ session ∷ [])) × (answer ≡ Queue))
    ⊎ ((next.waiting ≡ left_by session pool.waiting) × (answer ≢ Queue))

out_waits : (pool : PoolState) (member : ℕ) (o : Option Numbered)
    → ((lent_out pool member o).state.waiting ≡ pool.waiting) × ((lent_out pool member o).answer ≢ Queue)
out_waits pool member (Some t) = (refl, λ e. cc)
out_waits pool member None =
    let worn : Stepped = record { state = pool; answer = Worn } in
    let more : Stepped = record {
      state = record pool { lent = pool.lent ++ next_transport pool member ∷ []; drawn = pool.drawn + 1 };
      answer = Dial (pool.drawn + 1) member;
    } in
    elim (eqb pool.drawn 18446744073709551615)
    as (λ b. let r : Stepped = cond b worn more in (r.state.waiting ≡ pool.waiting) × (r.answer ≢ Queue)) [
      | true ↦ (refl, λ e. cc)
      | false ↦ (refl, λ e. cc)
    ]

wait_waits : (pool : PoolState) (session : ℕ)
    → ((after_wait pool session).waiting ≡ pool.waiting) ⊎ ((after_wait pool session).waiting ≡ pool.waiting ++ session ∷ [])
wait_waits pool session =
    let more : PoolState = record pool { waiting = pool.waiting ++ session ∷ [] } in
    elim (is_waiting session pool.waiting || leb 64 (length pool.waiting))
    as (λ b. let p : PoolState = cond b pool more in (p.waiting ≡ pool.waiting) ⊎ (p.waiting ≡ pool.waiting ++ session ∷ [])) [
      | true ↦ inl refl
      | false ↦ inr refl
    ]

lend_waits : (pool : PoolState) (session : ℕ) (fresh : Bool) (o : Option ℕ)
    → WaitsOn pool session (lent_by pool session fresh o).answer (lent_by pool session fresh o).state
lend_waits pool session fresh None = inr (refl, λ e. cc)
lend_waits pool session fresh (Some member) =
    let waits : Stepped = record { state = after_wait pool session; answer = Queue } in
    let lends : Stepped = lent_out (after_leave pool session) member (idle_of member fresh pool.idle) in
    elim (must_wait pool session) as (λ b. let r : Stepped = cond b waits lends in WaitsOn pool session r.answer r.state) [
      | true ↦ inl (wait_waits pool session, refl)
      | false ↦ inr (out_waits (after_leave pool session) member (idle_of member fresh pool.idle))
    ]

-- ---- the other calls

rested_waits : (pool : PoolState) (t : Numbered) → (rested pool t).state.waiting ≡ pool.waiting
rested_waits pool t =
    let oldest = oldest_of pool.idle t in
    let rests : Stepped = record { state = record pool { idle = pool.idle ++ t ∷ [] }; answer = Nothing } in
    let hands : Stepped = record { state = record pool { idle = without oldest.number pool.idle ++ t ∷ [] }; answer = Handed oldest.number } in
    elim (ltb (length pool.idle) most_idle) as (λ b. let r : Stepped = cond b rests hands in r.state.waiting ≡ pool.waiting) [
      | true ↦ refl
      | false ↦ refl
    ]

give_waits : (pool : PoolState) (number member : ℕ) → (give_step pool number member).state.waiting ≡ pool.waiting
give_waits pool number member =
    let t : Numbered = record { number = number; member = member } in
    let less : PoolState = record pool { lent = without number pool.lent } in
    let back : Stepped = record { state = pool; answer = Handed number } in
    elim (is_among number member pool.lent) as (λ b. let r : Stepped = cond b (rested less t) back in r.state.waiting ≡ pool.waiting) [
      | true ↦ rested_waits less t
      | false ↦ refl
    ]

learned_waits : (pool : PoolState) (o : Option Listing) → (learned pool o).waiting ≡ pool.waiting
learned_waits pool None = refl
learned_waits pool (Some list) = refl

learn_waits : (pool : PoolState) (list : Listing) → (after_learn pool list).waiting ≡ pool.waiting
learn_waits pool list =
    elim (is_newer list pool.list)
    as (λ b. let p : PoolState = cond b (learned pool (unless_empty (known_rows pool.known list))) pool in p.waiting ≡ pool.waiting) [
      | true ↦ learned_waits pool (unless_empty (known_rows pool.known list))
      | false ↦ refl
    ]

-- ---- all calls

on_queue : (session other : ℕ) (old new : List ℕ) → (new ≡ old) ⊎ (new ≡ old ++ other ∷ []) → is_waiting session old ≡ true
    → StaysInOrder session old new
on_queue session other old new (inl e) w = stays_same session old new e w
on_queue session other old new (inr e) w = stays_push session other old new e w

on_lend : (pool next : PoolState) (session other : ℕ) (answer : PoolAnswer) → WaitsOn pool other answer next
    → (other ≡ session → answer ≡ Queue) → is_waiting session pool.waiting ≡ true → StaysInOrder session pool.waiting next.waiting
on_lend pool next session other answer (inl h) u w = on_queue session other pool.waiting next.waiting h.0 w
on_lend pool next session other answer (inr h) u w =
    stays_left session other pool.waiting next.waiting h.0 (λ same. h.1 (u same)) w

step_order : (pool : PoolState) (call : PoolCall) (session : ℕ) → IsUnserved session pool call → is_waiting session pool.waiting ≡ true
    → StaysInOrder session pool.waiting (pool_step pool call).state.waiting
unfolding pool_step
step_order pool (Lend other tried fresh) session u w =
    on_lend pool (lend_step pool other tried fresh).state session other (lend_step pool other tried fresh).answer
    (lend_waits pool other fresh (pick pool.list.rows (counts_of pool.lent) tried)) u w
step_order pool (GiveBack number member) session u w = stays_same session pool.waiting _ (give_waits pool number member) w
step_order pool (Lost number) session u w = stays_same session pool.waiting _ refl w
step_order pool (Learn list) session u w = stays_same session pool.waiting _ (learn_waits pool list) w
step_order pool (Leave other) session u w = stays_left session other pool.waiting _ refl u w

pub calls_order : (pool : PoolState) (calls : List PoolCall) (session : ℕ) → IsUnservedThrough session pool calls
    → is_waiting session pool.waiting ≡ true → StaysInOrder session pool.waiting (after_calls pool calls).waiting
calls_order pool [] session u w = stays_same session pool.waiting pool.waiting refl w
calls_order pool (call ∷ calls) session u w =
    let next : PoolState = (pool_step pool call).state in
    let one = step_order pool call session u.0 w in
    stays_on session pool.waiting next.waiting (after_calls next calls).waiting one (calls_order next calls session u.1 one.waits)
