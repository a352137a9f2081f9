-- What each change of a pool keeps.
use Rattle.std.proofs.Common.{◌≡◌, ℕ, ◌+◌, ◌<◌, ◌≤◌, ◌==◌, Bool, true, false, not, eqb, nat_lt, cond, if◌then◌else◌, List, [], ◌∷◌, ◌++◌}
use Rattle.std.proofs.Common.{length, filter}
use Rattle.std.proofs.Common.{slice_index_or, refl, ap, sym, ◌∙◌, arith}
use Rattle.std.proofs.Common.{◌&&◌, subst}
use Rattle.std.proofs.lemmas.Bool.{and_parts}
use Rattle.std.proofs.lemmas.Bool.Decides.{nat_tests}
use Rattle.std.proofs.lemmas.List.{length-append}
use Rattle.std.specs.List.{AllByRecursion}
use Rattle.server_list.specs.Tried.{is_member}
use Rattle.server_list.specs.Lists.{Listing}
use Rattle.transport_pool.specs.State.{PoolState, without, is_among, left_by}
use Rattle.transport_pool.specs.Sound.{times, IsSound}
use Rattle.transport_pool.specs.declared.numbers.Numbered.{Numbered}
use Rattle.transport_pool.proofs.Finding.{has_number, times_append}

abbrev pub IsMemberOf : Numbered → Type 0
IsMemberOf transport = is_member transport.member ≡ true

-- ---- lists that are filtered

pub length_filter : {X : Type 0} (p : X → Bool) (xs : List X) → length (filter p xs) ≤ length xs
length_filter p [] = omega arith
length_filter p (x ∷ xs) = elim (p x) as (λ b. length (cond b (x ∷ filter p xs) (filter p xs)) ≤ length (x ∷ xs)) [
  | true ↦ let h = length_filter p xs in omega arith
  | false ↦ let h = length_filter p xs in omega arith
]

pub all_filter : {X : Type 0} (P : X → Type 0) (p : X → Bool) (xs : List X) → AllByRecursion P xs → AllByRecursion P (filter p xs)
all_filter P p [] h = tt
all_filter P p (x ∷ xs) h = elim (p x) as (λ b. AllByRecursion P (cond b (x ∷ filter p xs) (filter p xs))) [
  | true ↦ (h.0, all_filter P p xs h.1)
  | false ↦ all_filter P p xs h.1
]

pub all_push : {X : Type 0} (P : X → Type 0) (xs : List X) (y : X) → AllByRecursion P xs → P y → AllByRecursion P (xs ++ y ∷ [])
all_push P [] y h p = (p, tt)
all_push P (x ∷ xs) y h p = (h.0, all_push P xs y h.1 p)

-- ---- how often a number stands in a list

-- without a number, that number stands nowhere, and the others stand as often as before
pub times_without : (number gone : ℕ) (ts : List Numbered) → times number (without gone ts) ≡ (if gone == number then 0 else times number ts)
times_without number gone [] = let none : (b : Bool) → ◌≡◌ {A = ℕ} 0 (cond b 0 0) = λ b. elim b as (λ c. ◌≡◌ {A =
    ℕ} 0 (cond c 0 0)) [ true ↦ refl | false ↦ refl ] in none (eqb gone number)
times_without number gone (t ∷ ts) =
    let h = times_without number gone ts in
    elim (eqb t.number gone) as (λ b. eqb t.number gone ≡ b → times number (cond (not b) (t ∷ without gone ts) (without gone ts)) ≡ (if gone ==
    number then 0 else times number (t ∷ ts))) [
      | true ↦ λ yes. grind (arith, nat_tests)
      | false ↦ λ no. grind (arith, nat_tests)
    ] refl

-- the first of a list leaves it shorter
pub length_without_first : (ts : List Numbered) (d : Numbered) → 0 < length ts → length (without (slice_index_or ts 0 d).number ts) < length ts
length_without_first [] d h = omega arith
length_without_first (t ∷ ts) d h =
    let l = length_filter (λ (x : Numbered). not (x.number == t.number)) ts in
    let e : eqb t.number t.number ≡ true = grind (arith, nat_tests) in
    rw e (omega arith)

pub length_without_found : (ts : List Numbered) (t : Numbered) → 0 < length ts → t ≡ slice_index_or ts 0 t → length (without t.number ts) < length ts
length_without_found ts t h e =
    let P : Numbered → Type 0 = λ x. length (without x.number ts) < length ts in subst P (sym e) (length_without_first ts t h)

-- ---- what stays

pub keeps_leave : (pool : PoolState) (waiting : List ℕ) (session : ℕ) → waiting ≡ left_by session pool.waiting → IsSound pool
    → IsSound (record pool { waiting = waiting })
keeps_leave pool waiting session e s = record {
  most = s.most;
  lent = s.lent;
  idle = s.idle;
  waiting = (let l = length_filter (λ other. not (other == session)) pool.waiting in let w = s.waiting in rw e (omega arith));
  drawn = s.drawn;
  lent_members = s.lent_members;
  idle_members = s.idle_members;
  apart = s.apart;
}

pub keeps_wait : (pool : PoolState) (waiting : List ℕ) → length waiting ≤ 64 → IsSound pool → IsSound (record pool { waiting = waiting })
keeps_wait pool waiting l s = record {
  most = s.most;
  lent = s.lent;
  idle = s.idle;
  waiting = l;
  drawn = s.drawn;
  lent_members = s.lent_members;
  idle_members = s.idle_members;
  apart = s.apart;
}

pub keeps_lose : (pool : PoolState) (lent : List Numbered) (number : ℕ) → lent ≡ without number pool.lent → IsSound pool → IsSound (record pool { lent = lent })
keeps_lose pool lent number e s = record {
  most = s.most;
  lent = (let l = length_filter (λ (t : Numbered). not (t.number == number)) pool.lent in let w = s.lent in rw e (omega arith));
  idle = s.idle;
  waiting = s.waiting;
  drawn = s.drawn;
  lent_members = rw e (all_filter IsMemberOf (λ t. not (t.number == number)) pool.lent s.lent_members);
  idle_members = s.idle_members;
  apart = (λ n. let t = times_without n number pool.lent in let a = s.apart n in rw e (grind (arith, nat_tests)));
}

pub keeps_lend_idle : (pool : PoolState) (lent idle : List Numbered) (t : Numbered) → lent ≡ pool.lent ++ t ∷ []
    → idle ≡ without t.number pool.idle → length pool.lent < pool.cap → 1 ≤ times t.number pool.idle → IsMemberOf t → IsSound pool
    → IsSound (record pool { lent = lent; idle = idle })
keeps_lend_idle pool lent idle t e f room there m s = record {
  most = s.most;
  lent = (let l = length-append pool.lent (t ∷ []) in rw e (omega arith));
  idle = (let l = length_filter (λ (x : Numbered). not (x.number == t.number)) pool.idle in let w = s.idle in rw f (omega arith));
  waiting = s.waiting;
  drawn = s.drawn;
  lent_members = rw e (all_push IsMemberOf pool.lent t s.lent_members m);
  idle_members = rw f (all_filter IsMemberOf (λ x. not (x.number == t.number)) pool.idle s.idle_members);
  apart = (λ n. let k = times_without n t.number pool.idle in let j = times_append n pool.lent (t ∷ []) in let a = s.apart n in
      rw (e, f) (grind (arith, nat_tests)));
}

pub keeps_dial : (pool : PoolState) (lent : List Numbered) (t : Numbered) (drawn : ℕ) → lent ≡ pool.lent ++ t ∷ [] → drawn ≡ pool.drawn + 1
    → t.number ≡ drawn → drawn ≤ 18446744073709551615 → length pool.lent < pool.cap → IsMemberOf t → IsSound pool → IsSound (record pool {
      lent =
          lent;
      drawn = drawn;
    })
keeps_dial pool lent t drawn e d g most room m s = record {
  most = s.most;
  lent = (let l = length-append pool.lent (t ∷ []) in rw e (omega arith));
  idle = s.idle;
  waiting = s.waiting;
  drawn = most;
  lent_members = rw e (all_push IsMemberOf pool.lent t s.lent_members m);
  idle_members = s.idle_members;
  apart = (λ n. let j = times_append n pool.lent (t ∷ []) in let a = s.apart n in rw e (grind (arith, nat_tests)));
}

-- another list changes nothing else
pub keeps_learn : (pool : PoolState) (list : Listing) → IsSound pool → IsSound (record pool { list = list })
keeps_learn pool list s = record {
  most = s.most;
  lent = s.lent;
  idle = s.idle;
  waiting = s.waiting;
  drawn = s.drawn;
  lent_members = s.lent_members;
  idle_members = s.idle_members;
  apart = s.apart;
}

-- a number that stood nowhere stands once
stays_apart : (n : ℕ) (t : Numbered) (base idle lent drawn : ℕ) (after : ℕ) → after ≡ base + (has_number n t + 0) → base ≤ idle
    → idle + lent + (if nat_lt drawn n then 1 else 0) ≤ 1 → (n ≡ t.number → idle + lent ≡ 0) → t.number ≤ drawn
    → after + lent + (if nat_lt drawn n then 1 else 0) ≤ 1
stays_apart n t base idle lent drawn after j f a unused known = grind (arith, nat_tests)

rests : (pool : PoolState) (base idle : List Numbered) (t : Numbered) → idle ≡ base ++ t ∷ [] → length base < 32 → ((n : ℕ)
    → times n base ≤ times n pool.idle) → AllByRecursion IsMemberOf base → times t.number pool.idle + times t.number pool.lent ≡ 0
    → t.number ≤ pool.drawn → IsMemberOf t → IsSound pool → IsSound (record pool { idle = idle })
rests pool base idle t e room fewer members unused drawn m s = record {
  most = s.most;
  lent = s.lent;
  idle = (let l = length-append base (t ∷ []) in rw e (omega arith));
  waiting = s.waiting;
  drawn = s.drawn;
  lent_members = s.lent_members;
  idle_members = rw e (all_push IsMemberOf base t members m);
  apart = (λ n. let j = times_append n base (t ∷ []) in let f = fewer n in let a = s.apart n in
      rw e (stays_apart n t (times n base) (times n pool.idle) (times n pool.lent) pool.drawn (times n (base ++ t ∷ [])) j f a (λ same. let P : ℕ
      → Type 0 = λ k. times k pool.idle + times k pool.lent ≡ 0 in subst P (sym same) unused) drawn));
}

pub keeps_rest : (pool : PoolState) (idle : List Numbered) (t : Numbered) → idle ≡ pool.idle ++ t ∷ [] → length pool.idle < 32
    → times t.number pool.idle + times t.number pool.lent ≡ 0 → t.number ≤ pool.drawn → IsMemberOf t → IsSound pool → IsSound (record pool { idle = idle })
keeps_rest pool idle t e room unused drawn m s = rests pool pool.idle idle t e room (λ n. omega arith) s.idle_members unused drawn m s

fewer_without : (number gone : ℕ) (ts : List Numbered) → times number (without gone ts) ≤ times number ts
fewer_without number gone ts = let h = times_without number gone ts in grind (arith, nat_tests)

pub keeps_exchange : (pool : PoolState) (idle : List Numbered) (t oldest : Numbered) → idle ≡ without oldest.number pool.idle ++ t ∷ []
    → length (without oldest.number pool.idle) < 32 → times t.number pool.idle + times t.number pool.lent ≡ 0 → t.number ≤ pool.drawn
    → IsMemberOf t → IsSound pool → IsSound (record pool { idle = idle })
keeps_exchange pool idle t oldest e room unused drawn m s =
    rests pool (without oldest.number pool.idle) idle t e room (λ n. fewer_without n oldest.number pool.idle) (all_filter IsMemberOf (λ x. not
    (x.number == oldest.number)) pool.idle s.idle_members) unused drawn m s

-- ---- what is lent

-- a transport that is lent counts there, and has a member's number
pub among_times : (number member : ℕ) (ts : List Numbered) → is_among number member ts ≡ true → 1 ≤ times number ts
among_times number member [] e = cc
among_times number member (t ∷ ts) e = elim (eqb t.number number) as (λ b. eqb t.number number ≡ b → 1 ≤ times number (t ∷ ts)) [
  | true ↦ λ yes. let one : has_number number t ≡ 1 = grind (arith, nat_tests) in omega arith
  | false ↦ λ no. let h = among_times number member ts (rw no at e) in omega arith
] refl

pub among_member : (number member : ℕ) (ts : List Numbered) → AllByRecursion IsMemberOf ts → is_among number member ts ≡ true → is_member member ≡ true
among_member number member [] m e = cc
among_member number member (t ∷ ts) m e = elim (eqb t.number number && eqb t.member member)
    as (λ b. (eqb t.number number && eqb t.member member) ≡ b → is_member member ≡ true) [
      | true ↦ λ yes. let p = and_parts (eqb t.number number) (eqb t.member member) yes in let p1 = p.1 in let same : t.member ≡ member =
          grind (arith, nat_tests) in ap is_member (sym same) ∙ m.0
      | false ↦ λ no. among_member number member ts m.1 (rw no at e)
    ] refl

-- of a transport that is lent, nothing is left where it isn't
pub lent_apart : (pool : PoolState) (number member : ℕ) → is_among number member pool.lent ≡ true → IsSound pool
    → (times number pool.idle + times number (without number pool.lent) ≡ 0) × (number ≤ pool.drawn)
lent_apart pool number member e s =
    let one = among_times number member pool.lent e in
    let a = s.apart number in
    let gone = times_without number number pool.lent in
    let same : eqb number number ≡ true = grind (arith, nat_tests) in
    (grind (arith, nat_tests), grind (arith, nat_tests))

-- a pool without transports
pub keeps_made : (pool : PoolState) → pool.lent ≡ [] → pool.idle ≡ [] → pool.waiting ≡ [] → pool.drawn ≡ 0 → pool.cap ≤ 32 → IsSound pool
keeps_made pool e f g h most = record {
  most = most;
  lent = rw e (omega arith);
  idle = rw f (omega arith);
  waiting = rw g (omega arith);
  drawn = rw h (omega arith);
  lent_members = rw e tt;
  idle_members = rw f tt;
  apart = λ n. rw (e, f, h) (grind (arith, nat_tests));
}
