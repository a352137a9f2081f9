-- What each step keeps, and so a list of calls.
use Rattle.std.proofs.Common.{◌≡◌, ℕ, ◌+◌, ◌<◌, ◌≤◌, ◌==◌, ◌||◌, Bool, true, false, eqb, leb, nat_lt, cond, List, [], ◌∷◌, ◌++◌, length}
use Rattle.std.proofs.Common.{find, fold, reverse, Option, Some, None, IfSome, refl, ap, sym, ◌∙◌, subst, arith}
use Rattle.std.proofs.lemmas.Bool.Decides.{nat_tests}
use Rattle.std.proofs.lemmas.List.{length-append}
use Rattle.server_list.specs.Tried.{is_member, has_member}
use Rattle.server_list.specs.Lists.{Listing, no_rows, is_listable, with_row}
use Rattle.server_list.specs.Layout.{with_known, known_rows, unless_empty}
use Rattle.server_list.specs.Choice.{pick}
use Rattle.server_list.specs.declared.list.ServerRow.{ServerRow}
use Rattle.transport_pool.specs.State.{PoolState, without, is_among, is_waiting, left_by, counts_of}
use Rattle.transport_pool.specs.Steps.{Stepped, must_wait, after_leave, after_wait, next_transport, idle_of, lent_out, lent_by, lend_step, rested, give_step}
use Rattle.transport_pool.specs.Steps.{oldest_of, most_idle, pool_step, is_newer, learned, after_learn, empty_pool}
use Rattle.transport_pool.specs.Sound.{times, IsSound, RowsAreSound, Holds}
use Rattle.transport_pool.specs.declared.numbers.Numbered.{Numbered}
use Rattle.transport_pool.specs.Runs.{after_calls}
use Rattle.transport_pool.specs.declared.entry.PoolCall.{PoolCall}
use Rattle.transport_pool.specs.declared.entry.PoolCall.TheVariants.{Lend, GiveBack, Lost, Learn, Leave}
use Rattle.transport_pool.specs.declared.entry.PoolAnswer.TheVariants.{Queue, Dial, Worn, Handed, Nothing}
use Rattle.server_list.proofs.Picking.{picked_member}
use Rattle.server_list.proofs.Sound.{sound_push}
use Rattle.transport_pool.proofs.Finding.{found_there, found_member}
use Rattle.transport_pool.proofs.Keeps.{IsMemberOf, keeps_made, keeps_leave, keeps_wait, keeps_lose, keeps_lend_idle, keeps_dial, keeps_learn, keeps_rest}
use Rattle.transport_pool.proofs.Keeps.{keeps_exchange, length_without_first, among_member, lent_apart}

leave_keeps : (pool : PoolState) (session : ℕ) → IsSound pool → IsSound (after_leave pool session)
leave_keeps pool session s = keeps_leave pool (left_by session pool.waiting) session refl s

second_false : (a b : Bool) → (a || b) ≡ false → b ≡ false
second_false true b h = cc
second_false false b h = h

wait_keeps : (pool : PoolState) (session : ℕ) → IsSound pool → IsSound (after_wait pool session)
wait_keeps pool session s =
    let more : PoolState = record pool { waiting = pool.waiting ++ session ∷ [] } in
    elim (is_waiting session pool.waiting || leb 64 (length pool.waiting))
    as (λ b. (is_waiting session pool.waiting || leb 64 (length pool.waiting)) ≡ b → IsSound (cond b pool more)) [
      | true ↦ λ yes. s
      | false ↦ λ no.
          let few : leb 64 (length pool.waiting) ≡ false = second_false (is_waiting session pool.waiting) (leb 64 (length pool.waiting)) no in
          let room : length pool.waiting < 64 = grind (arith, nat_tests) in
          let size = length-append pool.waiting (session ∷ []) in
          keeps_wait pool (pool.waiting ++ session ∷ []) (omega arith) s
    ] refl

abbrev IsThere : ℕ → List Numbered → Numbered → Type 0
IsThere member idle t = (1 ≤ times t.number idle) × (t.member ≡ member)

both : (member : ℕ) (idle : List Numbered) (o : Option Numbered) → IfSome o (λ t. 1 ≤ times t.number idle) → IfSome o (λ t. t.member ≡ member)
    → IfSome o (IsThere member idle)
both member idle None h k = tt
both member idle (Some t) h k = (h, k)

idle_there : (member : ℕ) (fresh : Bool) (idle : List Numbered) → IfSome (idle_of member fresh idle) (IsThere member idle)
idle_there member true idle = tt
idle_there member false idle =
    let o : Option Numbered = find (λ t. t.member == member) (reverse idle) in
    both member idle o (found_there member idle o refl) (found_member member idle o refl)

lent_keeps : (pool : PoolState) (member : ℕ) (o : Option Numbered) → is_member member ≡ true → IfSome o (IsThere member pool.idle)
    → length pool.lent < pool.cap → IsSound pool → IsSound (lent_out pool member o).state
lent_keeps pool member (Some t) m h room s = keeps_lend_idle pool _ _ t refl refl room h.0 (ap is_member h.1 ∙ m) s
lent_keeps pool member None m h room s =
    let worn : Stepped = record { state = pool; answer = Worn } in
    let more : Stepped = record {
      state = record pool { lent = pool.lent ++ next_transport pool member ∷ []; drawn = pool.drawn + 1 };
      answer = Dial (pool.drawn + 1) member;
    } in
    elim (eqb pool.drawn 18446744073709551615) as (λ b. eqb pool.drawn 18446744073709551615 ≡ b → IsSound (let r : Stepped = cond b worn more in r.state)) [
      | true ↦ λ yes. s
      | false ↦ λ no.
          let most = s.drawn in
          let next : pool.drawn + 1 ≤ 18446744073709551615 = grind (arith, nat_tests) in
          keeps_dial pool _ (next_transport pool member) _ refl refl refl next room m s
    ] refl

lend_by_keeps : (pool : PoolState) (session : ℕ) (fresh : Bool) (o : Option ℕ) → IfSome o (λ member. is_member member ≡ true) → IsSound pool
    → IsSound (lent_by pool session fresh o).state
lend_by_keeps pool session fresh None h s = leave_keeps pool session s
lend_by_keeps pool session fresh (Some member) h s =
    let waits : Stepped = record { state = after_wait pool session; answer = Queue } in
    let lends : Stepped = lent_out (after_leave pool session) member (idle_of member fresh pool.idle) in
    elim (must_wait pool session) as (λ b. must_wait pool session ≡ b → IsSound (let r : Stepped = cond b waits lends in r.state)) [
      | true ↦ λ yes. wait_keeps pool session s
      | false ↦ λ no.
          let full : eqb (length pool.lent) pool.cap ≡ false = second_false _ (eqb (length pool.lent) pool.cap) no in
          let most = s.lent in
          let room : length pool.lent < pool.cap = grind (arith, nat_tests) in
          lent_keeps (after_leave pool session) member (idle_of member fresh pool.idle) h (idle_there member fresh pool.idle) room (leave_keeps pool session s)
    ] refl

rested_keeps : (pool : PoolState) (t : Numbered) → times t.number pool.idle + times t.number pool.lent ≡ 0 → t.number ≤ pool.drawn → IsMemberOf t
    → IsSound pool → IsSound (rested pool t).state
rested_keeps pool t unused drawn m s =
    let oldest = oldest_of pool.idle t in
    let rests : Stepped = record { state = record pool { idle = pool.idle ++ t ∷ [] }; answer = Nothing } in
    let hands : Stepped = record { state = record pool { idle = without oldest.number pool.idle ++ t ∷ [] }; answer = Handed oldest.number } in
    elim (nat_lt (length pool.idle) most_idle) as (λ b. nat_lt (length pool.idle) most_idle ≡ b → IsSound (let r : Stepped = cond b rests hands in r.state)) [
      | true ↦ λ yes. let room : length pool.idle < 32 = grind (arith, nat_tests) in keeps_rest pool _ t refl room unused drawn m s
      | false ↦ λ no.
          let some : 0 < length pool.idle = grind (arith, nat_tests) in
          let shorter = length_without_first pool.idle t some in
          let most = s.idle in
          keeps_exchange pool _ t oldest refl (omega arith) unused drawn m s
    ] refl

give_keeps : (pool : PoolState) (number member : ℕ) → IsSound pool → IsSound (give_step pool number member).state
give_keeps pool number member s =
    let t : Numbered = record { number = number; member = member } in
    let less : PoolState = record pool { lent = without number pool.lent } in
    let back : Stepped = record { state = pool; answer = Handed number } in
    elim (is_among number member pool.lent) as (λ b. is_among number member pool.lent ≡ b → IsSound (let r : Stepped = cond b (rested less t) back in
    r.state)) [
      | true ↦ λ yes.
          let apart = lent_apart pool number member yes s in
          rested_keeps less t apart.0 apart.1 (among_member number member pool.lent s.lent_members yes) (keeps_lose pool (without number pool.lent)
          number refl s)
      | false ↦ λ no. s
    ] refl

learned_keeps : (pool : PoolState) (o : Option Listing) → IsSound pool → IsSound (learned pool o)
learned_keeps pool None s = s
learned_keeps pool (Some list) s = keeps_learn pool list s

learn_keeps : (pool : PoolState) (list : Listing) → IsSound pool → IsSound (after_learn pool list)
learn_keeps pool list s =
    elim (is_newer list pool.list) as (λ b. IsSound (cond b (learned pool (unless_empty (known_rows pool.known list))) pool)) [
      | true ↦ learned_keeps pool (unless_empty (known_rows pool.known list)) s
      | false ↦ s
    ]

-- ---- lists of members

rows_with : (list : Listing) (row : ServerRow) → RowsAreSound list.rows → RowsAreSound (with_row list row).rows
rows_with list row h =
    elim (is_listable list.rows row.member) as (λ b. is_listable list.rows row.member ≡ b → RowsAreSound (let l : Listing =
    cond b (record list { rows = list.rows ++ row ∷ [] }) list in l.rows)) [
      | true ↦ λ yes. sound_push list.rows row h yes
      | false ↦ λ no. h
    ] refl

rows_known : (known : ℕ) (rows : List ServerRow) (list : Listing) → RowsAreSound list.rows → RowsAreSound (fold (with_known known) list rows).rows
rows_known known [] list h = h
rows_known known (row ∷ rows) list h =
    rows_known known rows (with_known known list row)
    (elim (has_member known row.member) as (λ b. RowsAreSound (let l : Listing = cond b (with_row list row) list in
    l.rows)) [ true ↦ rows_with list row h | false ↦ h ])

learned_rows : (pool : PoolState) (list : Listing) → RowsAreSound list.rows → RowsAreSound pool.list.rows
    → RowsAreSound (learned pool (unless_empty list)).list.rows
learned_rows pool list l h = elim (eqb (length list.rows) 0) as (λ b. RowsAreSound (learned pool (cond b None (Some list))).list.rows) [ true ↦ h | false ↦ l ]

learn_rows : (pool : PoolState) (list : Listing) → RowsAreSound [] → RowsAreSound pool.list.rows → RowsAreSound (after_learn pool list).list.rows
learn_rows pool list none h =
    elim (is_newer list pool.list) as (λ b. RowsAreSound (let p : PoolState =
    cond b (learned pool (unless_empty (known_rows pool.known list))) pool in p.list.rows)) [
      | true ↦ learned_rows pool (known_rows pool.known list) (rows_known pool.known list.rows (record no_rows { number = list.number }) none) h
      | false ↦ h
    ]

-- ---- the list that a lend leaves

abbrev SameList : PoolState → PoolState → Type 0
SameList pool next = next.list ≡ pool.list

lent_list : (pool : PoolState) (member : ℕ) (o : Option Numbered) → SameList pool (lent_out pool member o).state
lent_list pool member (Some t) = refl
lent_list pool member None =
    let worn : Stepped = record { state = pool; answer = Worn } in
    let more : Stepped = record {
      state = record pool { lent = pool.lent ++ next_transport pool member ∷ []; drawn = pool.drawn + 1 };
      answer = Dial (pool.drawn + 1) member;
    } in
    elim (eqb pool.drawn 18446744073709551615) as (λ b. SameList pool (let r : Stepped = cond b worn more in r.state)) [ true ↦ refl | false ↦ refl ]

wait_list : (pool : PoolState) (session : ℕ) → SameList pool (after_wait pool session)
wait_list pool session =
    let more : PoolState = record pool { waiting = pool.waiting ++ session ∷ [] } in
    elim (is_waiting session pool.waiting || leb 64 (length pool.waiting)) as (λ b. SameList pool (cond b pool more)) [ true ↦ refl | false ↦ refl ]

lend_list : (pool : PoolState) (session : ℕ) (fresh : Bool) (o : Option ℕ) → SameList pool (lent_by pool session fresh o).state
lend_list pool session fresh None = refl
lend_list pool session fresh (Some member) =
    let waits : Stepped = record { state = after_wait pool session; answer = Queue } in
    let lends : Stepped = lent_out (after_leave pool session) member (idle_of member fresh pool.idle) in
    elim (must_wait pool session) as (λ b. SameList pool (let r : Stepped = cond b waits lends in r.state)) [
      | true ↦ wait_list pool session
      | false ↦ lent_list (after_leave pool session) member (idle_of member fresh pool.idle)
    ]

rested_list : (pool : PoolState) (t : Numbered) → SameList pool (rested pool t).state
rested_list pool t =
    let oldest = oldest_of pool.idle t in
    let rests : Stepped = record { state = record pool { idle = pool.idle ++ t ∷ [] }; answer = Nothing } in
    let hands : Stepped = record { state = record pool { idle = without oldest.number pool.idle ++ t ∷ [] }; answer = Handed oldest.number } in
    elim (nat_lt (length pool.idle) most_idle) as (λ b. SameList pool (let r : Stepped = cond b rests hands in r.state)) [ true ↦ refl | false ↦ refl ]

give_list : (pool : PoolState) (number member : ℕ) → SameList pool (give_step pool number member).state
give_list pool number member =
    let t : Numbered = record { number = number; member = member } in
    let less : PoolState = record pool { lent = without number pool.lent } in
    let back : Stepped = record { state = pool; answer = Handed number } in
    elim (is_among number member pool.lent) as (λ b. SameList pool (let r : Stepped = cond b (rested less t) back in
    r.state)) [ true ↦ rested_list less t | false ↦ refl ]

same_rows : (pool next : PoolState) → SameList pool next → RowsAreSound pool.list.rows → RowsAreSound next.list.rows
same_rows pool next e h = let P : Listing → Type 0 = λ list. RowsAreSound list.rows in subst P (sym e) h

-- each step keeps the limits
step_keeps : (pool : PoolState) (call : PoolCall) → RowsAreSound [] → Holds pool → Holds (pool_step pool call).state
unfolding pool_step
step_keeps pool (Lend session tried fresh) none h = record {
  limits = lend_by_keeps pool session fresh (pick pool.list.rows (counts_of pool.lent) tried) (picked_member pool.list.rows (counts_of pool.lent)
      tried h.rows) h.limits;
  rows = same_rows pool (lend_step pool session tried fresh).state (lend_list pool session fresh (pick pool.list.rows (counts_of pool.lent) tried)) h.rows;
}
step_keeps pool (GiveBack number member) none h = record {
  limits = give_keeps pool number member h.limits;
  rows = same_rows pool (give_step pool number member).state (give_list pool number member) h.rows;
}
step_keeps pool (Lost number) none h = record { limits = keeps_lose pool (without number pool.lent) number refl h.limits; rows = h.rows }
step_keeps pool (Learn list) none h = record { limits = learn_keeps pool list h.limits; rows = learn_rows pool list none h.rows }
step_keeps pool (Leave session) none h = record { limits = leave_keeps pool session h.limits; rows = h.rows }

pub calls_keep : RowsAreSound [] → (pool : PoolState) (calls : List PoolCall) → Holds pool → Holds (after_calls pool calls)
calls_keep none pool [] h = h
calls_keep none pool (call ∷ calls) h = calls_keep none (pool_step pool call).state calls (step_keeps pool call none h)

pub new_holds : (cap : ℕ) (list : Listing) → cap ≤ 32 → RowsAreSound list.rows → Holds (empty_pool cap list)
new_holds cap list most rows = record { limits = keeps_made (empty_pool cap list) refl refl refl refl most; rows = rows }
