-- What a lend and a giving back make of the idle transports, by what they answer.
use Rattle.std.proofs.Common.{◌≡◌, ◌≢◌, ℕ, ◌+◌, ◌<◌, ◌≤◌, ◌==◌, ◌&&◌, ◌||◌, Bool, true, false, eqb, leb, nat_lt, cond, List, [], ◌∷◌, ◌++◌}
use Rattle.std.proofs.Common.{length, find, reverse, slice_index_or, Option, Some, None, IfSome, is_none, refl, ap, sym, ◌∙◌, subst, arith}
use Rattle.std.proofs.lemmas.Bool.Decides.{nat_tests}
use Rattle.std.proofs.lemmas.List.{reverse-append}
use Rattle.server_list.specs.Tried.{is_member}
use Rattle.server_list.specs.Choice.{pick, are_tried}
use Rattle.server_list.specs.declared.list.ServerRow.{ServerRow}
use Rattle.server_list.proofs.Picking.{picked_member, no_pick}
use Rattle.transport_pool.specs.State.{PoolState, without, is_among, is_waiting, counts_of}
use Rattle.transport_pool.specs.Steps.{Stepped, must_wait, after_leave, after_wait, next_transport, idle_of, lent_out, lent_by, rested}
use Rattle.transport_pool.specs.Steps.{oldest_of, most_idle, is_newer, learned, pool_step}
use Rattle.server_list.specs.Lists.{Listing}
use Rattle.server_list.specs.Layout.{known_rows, unless_empty}
use Rattle.transport_pool.specs.Sound.{times, IsSound, RowsAreSound}
use Rattle.transport_pool.specs.declared.numbers.Numbered.{Numbered}
use Rattle.transport_pool.specs.declared.entry.PoolAnswer.{PoolAnswer}
use Rattle.transport_pool.specs.declared.entry.PoolAnswer.TheVariants.{Idle, Dial, Queue, NoneLeft, Worn, Handed, Nothing}
use Rattle.transport_pool.specs.declared.entry.PoolCall.TheVariants.{Lend, GiveBack, Lost, Learn, Leave}
use Rattle.transport_pool.proofs.Finding.{has_number}
use Rattle.transport_pool.proofs.Keeps.{lent_apart}

-- ---- lending

-- What a lend makes of the idle ones: with Idle one goes that was there, else none. Nothing is handed back.
abbrev pub Lends : PoolState → ℕ → PoolAnswer → PoolState → Type 0
Lends pool tried (Idle number member) next =
    (next.idle ≡ without number pool.idle) × (is_among number member pool.idle ≡ true)
Lends pool tried (Dial number member) next = (next.idle ≡ pool.idle) × (is_member member ≡ true)
Lends pool tried NoneLeft next =
    (next.idle ≡ pool.idle) × (next.list ≡ pool.list) × (are_tried pool.list.rows tried ≡ true)
Lends pool tried Queue next = next.idle ≡ pool.idle
Lends pool tried Worn next = next.idle ≡ pool.idle
Lends pool tried _ next = ⊥

or_true : (b : Bool) → (b || true) ≡ true
or_true true = refl
or_true false = refl

or_assoc : (a b c : Bool) → (a || (b || c)) ≡ ((a || b) || c)
or_assoc true b c = refl
or_assoc false b c = refl

or_false : (a : Bool) → (a || false) ≡ a
or_false true = refl
or_false false = refl

or_swap : (a b : Bool) → (a || b) ≡ (b || a)
or_swap true b = sym (or_true b)
or_swap false b = sym (or_false b)

among_append : (number member : ℕ) (xs ys : List Numbered)
    → is_among number member (xs ++ ys) ≡ (is_among number member xs || is_among number member ys)
among_append number member [] ys = refl
among_append number member (x ∷ xs) ys =
    let h = among_append number member xs ys in
    let here : Bool = eqb x.number number && eqb x.member member in
    ap (λ (b : Bool). here || b) h ∙ or_assoc here (is_among number member xs) (is_among number member ys)

among_back : (number member : ℕ) (ts : List Numbered) → is_among number member (reverse ts) ≡ is_among number member ts
among_back number member [] = refl
among_back number member (t ∷ ts) =
    let e : reverse (t ∷ ts) ≡ reverse ts ++ t ∷ [] = reverse-append (t ∷ []) ts in
    let here : Bool = eqb t.number number && eqb t.member member in
    ap (is_among number member) e ∙ among_append number member (reverse ts) (t ∷ []) ∙ ap (λ (b : Bool). b || (here || false)) (among_back number member ts)
    ∙ ap (λ (b : Bool). is_among number member ts || b) (or_false here) ∙ or_swap (is_among number member ts) here

found_among : (member : ℕ) (ts : List Numbered) (t : Numbered) → find (λ x. x.member == member) ts ≡ Some t → is_among t.number t.member ts ≡ true
found_among member [] t e = cc
found_among member (x ∷ xs) t e =
    elim (eqb x.member member) as (λ b. eqb x.member member ≡ b → is_among t.number t.member (x ∷ xs) ≡ true) [
      | true ↦ λ yes.
          let s : Some x ≡ Some t = rw yes at e in
          let same : x ≡ t = cc in
          let P : Numbered → Type 0 = λ y. is_among y.number y.member (x ∷ xs) ≡ true in
          let a : eqb x.number x.number ≡ true = grind (arith, nat_tests) in
          let b : eqb x.member x.member ≡ true = grind (arith, nat_tests) in
          subst P same (rw (a, b) refl)
      | false ↦ λ no.
          let h = found_among member xs t (rw no at e) in
          let here : Bool = eqb x.number t.number && eqb x.member t.member in
          ap (λ (b : Bool). here || b) h ∙ or_true here
    ] refl

back_among : (member : ℕ) (ts : List Numbered) (o : Option Numbered) → find (λ x. x.member == member) (reverse ts) ≡ o
    → IfSome o (λ t. is_among t.number t.member ts ≡ true)
back_among member ts None e = tt
back_among member ts (Some t) e = sym (among_back t.number t.member ts) ∙ found_among member (reverse ts) t e

idle_among : (member : ℕ) (fresh : Bool) (idle : List Numbered) → IfSome (idle_of member fresh idle) (λ t. is_among t.number t.member idle ≡ true)
idle_among member true idle = tt
idle_among member false idle = back_among member idle (find (λ t. t.member == member) (reverse idle)) refl

out_so : (pool : PoolState) (tried member : ℕ) (o : Option Numbered) → is_member member ≡ true
    → IfSome o (λ t. is_among t.number t.member pool.idle ≡ true)
    → Lends pool tried (lent_out pool member o).answer (lent_out pool member o).state
out_so pool tried member (Some t) m h = (refl, h)
out_so pool tried member None m h =
    let worn : Stepped = record { state = pool; answer = Worn } in
    let more : Stepped = record {
      state = record pool { lent = pool.lent ++ next_transport pool member ∷ []; drawn = pool.drawn + 1 };
      answer = Dial (pool.drawn + 1) member;
    } in
    elim (eqb pool.drawn 18446744073709551615) as (λ b. let r : Stepped = cond b worn more in Lends pool tried r.answer r.state) [
      | true ↦ refl
      | false ↦ (refl, m)
    ]

wait_idle : (pool : PoolState) (session : ℕ) → (after_wait pool session).idle ≡ pool.idle
wait_idle pool session =
    let more : PoolState = record pool { waiting = pool.waiting ++ session ∷ [] } in
    elim (is_waiting session pool.waiting || leb 64 (length pool.waiting)) as (λ b. let p : PoolState = cond b pool more in p.idle ≡ pool.idle) [
      | true ↦ refl
      | false ↦ refl
    ]

by_so : (pool : PoolState) (session tried : ℕ) (fresh : Bool) (o : Option ℕ) → IfSome o (λ member. is_member member ≡ true)
    → (is_none o ≡ true → are_tried pool.list.rows tried ≡ true)
    → Lends pool tried (lent_by pool session fresh o).answer (lent_by pool session fresh o).state
by_so pool session tried fresh None m h = (refl, refl, h refl)
by_so pool session tried fresh (Some member) m h =
    let waits : Stepped = record { state = after_wait pool session; answer = Queue } in
    let lends : Stepped = lent_out (after_leave pool session) member (idle_of member fresh pool.idle) in
    elim (must_wait pool session) as (λ b. let r : Stepped = cond b waits lends in Lends pool tried r.answer r.state) [
      | true ↦ wait_idle pool session
      | false ↦ out_so (after_leave pool session) tried member (idle_of member fresh pool.idle) m (idle_among member fresh pool.idle)
    ]

pub lends_so : (pool : PoolState) (session tried : ℕ) (fresh : Bool) → RowsAreSound pool.list.rows
    → Lends pool tried (pool_step pool (Lend session tried fresh)).answer (pool_step pool (Lend session tried fresh)).state
unfolding pool_step
lends_so pool session tried fresh s =
    let counts = counts_of pool.lent in
    let rows : List ServerRow = pool.list.rows in
    by_so pool session tried fresh (pick rows counts tried) (picked_member rows counts tried s) (λ e. sym (no_pick rows counts tried) ∙ e)

-- ---- giving back

-- One that was lent comes to rest, and one goes where another is handed out.
pub record Rests (pool : PoolState) (t : Numbered) (base : List Numbered) (next : PoolState) : Type 0 where
  pub idle : next.idle ≡ base ++ t ∷ []
  pub unused : times t.number pool.idle ≡ 0

abbrev pub Gives : PoolState → Numbered → PoolAnswer → PoolState → Type 0
Gives pool t Nothing next = Rests pool t pool.idle next
Gives pool t (Handed number) next =
    (number ≡ t.number → next.idle ≡ pool.idle)
    × (number ≢ t.number → Rests pool t (without number pool.idle) next × (times number pool.idle ≡ 1))
Gives pool t _ next = ⊥

first_times : (ts : List Numbered) (d : Numbered) → 0 < length ts → 1 ≤ times (slice_index_or ts 0 d).number ts
first_times [] d h = absurd (omega arith)
first_times (t ∷ ts) d h = let one : has_number t.number t ≡ 1 = grind (arith, nat_tests) in omega arith

rested_so : (pool less : PoolState) (t : Numbered) → less.idle ≡ pool.idle → IsSound pool → times t.number pool.idle ≡ 0
    → Gives pool t (rested less t).answer (rested less t).state
rested_so pool less t e s unused =
    let oldest = oldest_of less.idle t in
    let rests : Stepped = record { state = record less { idle = less.idle ++ t ∷ [] }; answer = Nothing } in
    let hands : Stepped = record { state = record less { idle = without oldest.number less.idle ++ t ∷ [] }; answer = Handed oldest.number } in
    elim (nat_lt (length less.idle) most_idle)
    as (λ b. nat_lt (length less.idle) most_idle ≡ b → (let r : Stepped = cond b rests hands in Gives pool t r.answer r.state)) [
      | true ↦ λ yes. record { idle = ap (λ (ts : List Numbered). ts ++ t ∷ []) e; unused = unused }
      | false ↦ λ no.
          let full : 0 < length less.idle = grind (arith, nat_tests) in
          let there : 1 ≤ times oldest.number less.idle = first_times less.idle t full in
          let there' : 1 ≤ times oldest.number pool.idle = (let P : List Numbered → Type 0 = λ ts. 1 ≤ times oldest.number ts in subst P e there) in
          let apart = s.apart oldest.number in (
            (λ same. let P : ℕ → Type 0 = λ n. 1 ≤ times n pool.idle in let bad = subst P same there' in absurd (omega arith)),
            (λ differ. (
              record { idle = ap (λ (ts : List Numbered). without oldest.number ts ++ t ∷ []) e; unused = unused },
              omega arith,
            )),
          )
    ] refl

pub gives_so : (pool : PoolState) (number member : ℕ) → IsSound pool
    → Gives pool (record { number = number; member = member }) (pool_step pool (GiveBack number member)).answer (pool_step pool (GiveBack number
    member)).state
unfolding pool_step
gives_so pool number member s =
    let t : Numbered = record { number = number; member = member } in
    let less : PoolState = record pool { lent = without number pool.lent } in
    let back : Stepped = record { state = pool; answer = Handed number } in
    elim (is_among number member pool.lent)
    as (λ b. is_among number member pool.lent ≡ b → (let r : Stepped = cond b (rested less t) back in Gives pool t r.answer r.state)) [
      | true ↦ λ yes.
          let apart = lent_apart pool number member yes s in
          let apart0 = apart.0 in
          rested_so pool less t refl s (omega arith)
      | false ↦ λ no. ((λ same. refl), (λ differ. absurd (differ refl)))
    ] refl

-- ---- calls that leave the idle transports

pub lost_idle : (pool : PoolState) (number : ℕ) → (pool_step pool (Lost number)).state.idle ≡ pool.idle
unfolding pool_step
lost_idle pool number = refl

pub leave_idle : (pool : PoolState) (session : ℕ) → (pool_step pool (Leave session)).state.idle ≡ pool.idle
unfolding pool_step
leave_idle pool session = refl

learned_idle : (pool : PoolState) (o : Option Listing) → (learned pool o).idle ≡ pool.idle
learned_idle pool None = refl
learned_idle pool (Some list) = refl

pub learn_idle : (pool : PoolState) (list : Listing) → (pool_step pool (Learn list)).state.idle ≡ pool.idle
unfolding pool_step
learn_idle pool list =
    elim (is_newer list pool.list)
    as (λ b. let p : PoolState = cond b (learned pool (unless_empty (known_rows pool.known list))) pool in p.idle ≡ pool.idle) [
      | true ↦ learned_idle pool (unless_empty (known_rows pool.known list))
      | false ↦ refl
    ]
