-- Each unit of work is committed at most once, and as it is told: over all events, by the fact that every session keeps.
use Rattle.std.proofs.Common.{◌≡◌, ◌≢◌, ℕ, suc, ◌+◌, ◌==◌, ◌&&◌, Bool, true, false, if◌then◌else◌, List, [], ◌∷◌, Option, Some, None, length, filter}
use Rattle.std.proofs.Common.{ap, sym, refl, subst, ◌∙◌, arith, true≢false, eqb, eqb-true, eq-eqb}
use Rattle.std.proofs.lemmas.Bool.{cond-false}
use Rattle.plain_model.specs.Group.{Meaning, Values, Laws}
use Rattle.plain_model.specs.Core.{new_core}
use Rattle.plain_model.specs.Plain.{Session, State, Event, What, Begin, Sent, Run, Answer, Lose, RunLate, Accept, NoneLeft, Close, Leave, IsPossible}
use Rattle.plain_model.specs.Plain.{ArePossible, new_session, start, put, to_run, session_after, after_event}
use Rattle.plain_model.specs.Standing.{attached}
use Rattle.plain_model.specs.Told.{UnitName, unit_name, committed_by, unit_before, committed, commits_of, Outcome, Committed, RolledBack}
use Rattle.plain_model.specs.Told.{ToldRerouted, Telling, told_by, is_of, first_of, told, IsFair, EachUnitIsFair}
use Rattle.plain_model.proofs.Puts.{by_equal, put_same, put_other, put_holds}
use Rattle.plain_model.proofs.Segments.{nothing_cut}
use Rattle.plain_model.proofs.Accounts.{Account, new_account, count, note, Fits}
use Rattle.plain_model.proofs.Facts.{Fact, works_start}
use Rattle.plain_model.proofs.Begins.{begin_keeps}
use Rattle.plain_model.proofs.Runs.{run_keeps}
use Rattle.plain_model.proofs.Answering.{answer_keeps}
use Rattle.plain_model.proofs.Loses.{lose_keeps}
use Rattle.plain_model.proofs.RunsLate.{late_keeps}
use Rattle.plain_model.proofs.Ends.{accept_keeps, none_left_keeps, close_keeps, leave_keeps, sent_keeps}
use Rattle.plain_model.proofs.Keeps.{AreValues, data_kept, values_kept}

-- the account after an event of its session
abbrev pub account_after : {S U : Type 0} → Meaning S U → S → Session U → What → Account → Account
account_after m s q what l = note (told_by q what) (count (committed_by m s q what) l)

pub event_keeps : {S U : Type 0} {m : Meaning S U} {v : Values S U} → Laws m v
    → (name : List ℕ) (s : S) (q : Session U) (l : Account) (what : What) → v.shared s → AreValues v q → Fact q l → IsPossible q what
    → Fact (session_after name m s q what) (account_after m s q what l)
event_keeps laws name s q l (Begin reading) sh are f may = begin_keeps name reading q.core q.ran q.part q.in_flight l f may.0 may.1 may.2
event_keeps laws name s q l Sent sh are f may = sent_keeps q l f may
event_keeps laws name s q l Run sh are f may = run_keeps laws s q l (to_run q) sh are.held f may.0 may.1 may.2 refl
event_keeps laws name s q l Answer sh are f may = answer_keeps name q l f may.0
event_keeps laws name s q l Lose sh are f may = lose_keeps q l f
event_keeps {m = m} laws name s q l (RunLate n) sh are f may = late_keeps m s n q l (q.in_flight n).commands f may refl
event_keeps laws name s q l Accept sh are f may = accept_keeps name q l f may.0 may.1
event_keeps laws name s q l NoneLeft sh are f may = none_left_keeps name q l f may.0 may.1
event_keeps laws name s q l (Close which) sh are f may = close_keeps which q l f may
event_keeps laws name s q l (Leave failed) sh are f may = leave_keeps failed q l f

-- ---- all events

-- the accounts of all sessions
abbrev pub accounts : {S U : Type 0} → List ℕ → Meaning S U → State S U → (ℕ → Account) → List Event → ℕ → Account
accounts name m p ls [] = ls
accounts name m p ls (e ∷ es) = accounts name m (after_event name m p e) (put ls e.session (account_after m p.shared (p.session e.session) e.what
    (ls e.session))) es

pub record Holds {S U : Type 0} (v : Values S U) (q : Session U) (l : Account) : Type 0 where
  pub values : AreValues v q
  pub fact : Fact q l

fair : {U : Type 0} (q : Session U) (l : Account) (n : ℕ) → Fact q l → IsFair (l.commits n) (l.told n)
fair q l n f = record {
  at_most = f.books.once n;
  committed = λ e. fits Committed e;
  rolled_back = λ e. fits RolledBack e;
  rerouted = λ e. fits ToldRerouted e;
}
  where
    fits : (o : Outcome) → l.told n ≡ Some o → Fits (Some o) (l.commits n)
    fits o e = subst (λ t. Fits t (l.commits n)) e (f.books.fits n)

events_keep : {S U : Type 0} {m : Meaning S U} {v : Values S U} → Laws m v → (name : List ℕ) (es : List Event) (p : State S U) (ls : ℕ → Account)
    → v.shared p.shared
    → ((i : ℕ) → Holds v (p.session i) (ls i)) → ArePossible name m p es → (i n : ℕ)
    → IsFair ((accounts name m p ls es i).commits n) ((accounts name m p ls es i).told n)
events_keep laws name [] p ls sh holds may i n = fair (p.session i) (ls i) n (holds i).fact
events_keep {U = U} {m = m} {v = v} laws name (e ∷ es) p ls sh holds may i n =
    let q = p.session e.session in
    let l = ls e.session in
    let h = holds e.session in
    let q2 : Session U = session_after name m p.shared q e.what in
    let l2 : Account = account_after m p.shared q e.what l in
    let new : Holds v q2 l2 = record {
      values = values_kept laws name p.shared q l e.what sh h.values h.fact;
      fact = event_keeps laws name p.shared q l e.what sh h.values h.fact may.0;
    } in
    events_keep laws name es (after_event name m p e) (put ls e.session l2) (data_kept laws p.shared q l e.what sh h.values h.fact)
    (λ j. put_holds p.session e.session q2 (λ k z. Holds v z (put ls e.session l2 k))
    (subst (λ a. Holds v q2 a) (sym (put_same ls e.session l2)) new)
    (λ k ne. subst (λ a. Holds v (p.session k) a) (sym (put_other ls e.session l2 k ne)) (holds k)) j)
    may.1 i n

-- ---- the accounts say what was committed and told

same_number : (a b : ℕ) → a ≡ b → (a == b) ≡ true
same_number a b e = eq-eqb a b e

other_number : (a b : ℕ) → a ≢ b → (a == b) ≡ false
other_number a b ne = go (eqb a b) refl
  where
    go : (z : Bool) → eqb a b ≡ z → (a == b) ≡ false
    go true e = absurd (ne (eqb-true a b e))
    go false e = e

and_false : (a b : Bool) → b ≡ false → (a && b) ≡ false
and_false true b e = e
and_false false b e = refl

-- one name in front counts where it is the unit's
one_name : (i n : ℕ) (j k : ℕ) (names : List UnitName) → commits_of i n (unit_name j k ∷ names) ≡ (if ((j == i) &&
    (k == n)) then 1 else 0) + commits_of i n names
one_name i n j k names = go ((j == i) && (k == n))
  where
    counted : List UnitName
    counted = filter (λ (name : UnitName). (name.session == i) && (name.unit == n)) names

    go : (b : Bool) → length (if b then unit_name j k ∷ counted else counted) ≡ (if b then 1 else 0) + length counted
    go true = omega arith
    go false = omega arith

noted_commits : (t : Option Telling) (l : Account) (n : ℕ) → (note t l).commits n ≡ l.commits n
noted_commits None l n = refl
noted_commits (Some t) l n = refl

-- the session's own event
own_commits : (j n : ℕ) (o : Option ℕ) (names : List UnitName) (l : Account)
    → commits_of j n (unit_before j o names) + l.commits n ≡ commits_of j n names + (count o l).commits n
own_commits j n None names l = refl
own_commits j n (Some k) names l = by_equal k n
    (λ e. let first : commits_of j n (unit_name j k ∷ names) ≡ 1 + commits_of j n names =
    one_name j n j k names ∙ ap (λ b. (if b then 1 else 0) + commits_of j n names) (ap (λ b. b && (k == n)) (same_number j j refl) ∙ same_number k n e) in
    let now : put l.commits k (suc (l.commits k)) n ≡ suc (l.commits n) =
    subst (λ z. put l.commits k (suc (l.commits k)) z ≡ suc (l.commits z)) e (put_same l.commits k (suc (l.commits k))) in
    omega arith)
    (λ ne. let first : commits_of j n (unit_name j k ∷ names) ≡ 0 + commits_of j n names =
    one_name j n j k names ∙ ap (λ b. (if b then 1 else 0) + commits_of j n names) (and_false (j == j) (k == n) (other_number k n ne)) in
    let now : put l.commits k (suc (l.commits k)) n ≡ l.commits n = put_other l.commits k (suc (l.commits k)) n (λ e. ne (sym e)) in
    omega arith)

-- another session's
other_commits : (i j n : ℕ) (o : Option ℕ) (names : List UnitName) → j ≢ i → commits_of i n (unit_before j o names) ≡ commits_of i n names
other_commits i j n None names ne = refl
other_commits i j n (Some k) names ne =
    let first : commits_of i n (unit_name j k ∷ names) ≡ 0 + commits_of i n names =
    one_name i n j k names ∙ ap (λ b. (if b then 1 else 0) + commits_of i n names) (ap (λ b. b && (k == n)) (other_number j i ne)) in
    omega arith

pub commits_are : {S U : Type 0} (name : List ℕ) (m : Meaning S U) (es : List Event) (p : State S U) (ls : ℕ → Account) (i n : ℕ)
    → commits_of i n (committed name m p es) + (ls i).commits n ≡ (accounts name m p ls es i).commits n
commits_are name m [] p ls i n = omega arith
commits_are name m (e ∷ es) p ls i n =
    let j = e.session in
    let o = committed_by m p.shared (p.session j) e.what in
    let t = told_by (p.session j) e.what in
    let names = committed name m (after_event name m p e) es in
    let l2 : Account = note t (count o (ls j)) in
    by_equal i j
    (λ ij. subst (λ k. commits_of k n (unit_before j o names) + (ls k).commits n ≡ commits_of k n names + (put ls j l2 k).commits n) (sym ij)
    (own_commits j n o names (ls j) ∙ ap (λ c. commits_of j n names + c) (sym (ap (λ (a : Account). a.commits n) (put_same ls j l2)
    ∙ noted_commits t (count o (ls j)) n))))
    (λ ne. ap (λ c. c + (ls i).commits n) (other_commits i j n o names (λ ji. ne (sym ji)))
    ∙ ap (λ (a : Account). commits_of i n names + a.commits n) (sym (put_other ls j l2 i ne)))
    ∙ commits_are name m es (after_event name m p e) (put ls j l2) i n

first_both : (a b c : Option Outcome) → first_of a (first_of b c) ≡ first_of (first_of a b) c
first_both None b c = refl
first_both (Some a) b c = refl

first_none : (a : Option Outcome) → first_of a None ≡ a
first_none None = refl
first_none (Some a) = refl

counted_told : (o : Option ℕ) (l : Account) (n : ℕ) → (count o l).told n ≡ l.told n
counted_told None l n = refl
counted_told (Some k) l n = refl

own_told : (j n : ℕ) (t : Option Telling) (l : Account) → first_of (l.told n) (is_of j n j t) ≡ (note t l).told n
own_told j n None l = first_none (l.told n)
own_told j n (Some t) l = by_equal t.unit n
    (λ e. ap (λ b. first_of (l.told n) (if b then Some t.outcome else None)) (ap (λ b. b && (t.unit == n)) (same_number j j refl) ∙ same_number t.unit n e)
    ∙ sym (subst (λ z. put l.told t.unit (first_of (l.told t.unit) (Some t.outcome)) z ≡ first_of (l.told z) (Some t.outcome)) e
    (put_same l.told t.unit (first_of (l.told t.unit) (Some t.outcome)))))
    (λ ne. ap (λ b. first_of (l.told n) (if b then Some t.outcome else None)) (and_false (j == j) (t.unit == n) (other_number t.unit n ne))
    ∙ first_none (l.told n)
    ∙ sym (put_other l.told t.unit (first_of (l.told t.unit) (Some t.outcome)) n (λ e. ne (sym e))))

other_told : (i j n : ℕ) (t : Option Telling) → j ≢ i → is_of i n j t ≡ None
other_told i j n None ne = refl
other_told i j n (Some t) ne = cond-false ((j == i) && (t.unit == n)) (Some t.outcome) None (ap (λ b. b && (t.unit == n)) (other_number j i ne))

pub told_are : {S U : Type 0} (name : List ℕ) (m : Meaning S U) (es : List Event) (p : State S U) (ls : ℕ → Account) (i n : ℕ)
    → first_of ((ls i).told n) (told name m p es i n) ≡ (accounts name m p ls es i).told n
told_are name m [] p ls i n = first_none ((ls i).told n)
told_are name m (e ∷ es) p ls i n =
    let j = e.session in
    let o = committed_by m p.shared (p.session j) e.what in
    let t = told_by (p.session j) e.what in
    let later = told name m (after_event name m p e) es i n in
    let l2 : Account = note t (count o (ls j)) in
    first_both ((ls i).told n) (is_of i n j t) later
    ∙ ap (λ a. first_of a later) (by_equal i j
    (λ ij. subst (λ k. first_of ((ls k).told n) (is_of k n j t) ≡ (put ls j l2 k).told n) (sym ij)
    (ap (λ a. first_of a (is_of j n j t)) (sym (counted_told o (ls j) n)) ∙ own_told j n t (count o (ls j))
    ∙ sym (ap (λ (a : Account). a.told n) (put_same ls j l2))))
    (λ ne. ap (first_of ((ls i).told n)) (other_told i j n t (λ ji. ne (sym ji))) ∙ first_none ((ls i).told n)
    ∙ ap (λ (a : Account). a.told n) (sym (put_other ls j l2 i ne))))
    ∙ told_are name m es (after_event name m p e) (put ls j l2) i n

-- ---- from the beginning

pub start_holds : {S U : Type 0} {m : Meaning S U} {v : Values S U} → Laws m v → Holds v (new_session m) new_account
start_holds laws = record {
  values = record { held = laws.base_unit attached; in_flight = λ n. laws.base_unit attached };
  fact = record {
    books = record {
      positive = omega arith;
      above = λ n lt. refl;
      once = λ n. omega arith;
      fits = λ n. tt;
      before = λ e. refl;
      pending = λ n h. absurd (true≢false (sym h));
      shape = λ n. nothing_cut;
      untold = λ e n le. refl;
      untold_before = λ e ne. refl;
    };
    bereft_sent = λ e. refl;
    works = works_start new_core (λ ne. refl) tt tt;
    working = refl;
  };
}

pub each_unit_is_fair : {S U : Type 0} {m : Meaning S U} {v : Values S U} → Laws m v → (name : List ℕ) → EachUnitIsFair name m v.shared
each_unit_is_fair {m = m} laws name s sh es may i n =
    let p = start m s in
    let ls = λ (i : ℕ). new_account in
    subst (λ c. IsFair c (told name m p es i n)) (sym (omega_zero (commits_of i n (committed name m p es)) ∙ commits_are name m es p ls i n))
    (subst (λ t. IsFair ((accounts name m p ls es i).commits n) t) (sym (told_are name m es p ls i n)) (events_keep laws name es p ls sh
    (λ j. start_holds laws) may i n))
  where
    omega_zero : (c : ℕ) → c ≡ c + 0
    omega_zero c = omega arith
