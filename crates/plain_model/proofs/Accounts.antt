-- An account of one session: how often each of its units was committed, and what was told of it first; and what it keeps.
use Rattle.std.proofs.Common.{◌≡◌, ◌≢◌, ◌⊎◌, inl, inr, ℕ, suc, pred, ◌≤◌, ◌<◌, Bool, true, false, Option, Some, None, ap, sym, subst, ◌∙◌, le_refl}
use Rattle.std.proofs.Common.{arith, true≢false}
use Rattle.plain_model.specs.Core.{Owed, Nothing, Rerouted, has_commit}
use Rattle.plain_model.specs.Plain.{InFlight, put}
use Rattle.plain_model.specs.Told.{Outcome, Committed, RolledBack, ToldRerouted, ToldUnknown, Telling, first_of}
use Rattle.plain_model.proofs.Puts.{by_equal, put_same, put_other, put_holds}
use Rattle.plain_model.proofs.Segments.{IsSegment}

pub record Account : Type 0 where
  pub commits : ℕ → ℕ
  pub told : ℕ → Option Outcome

abbrev pub new_account : Account
new_account = record { commits = λ n. 0; told = λ n. None }

-- one more commit of unit n
abbrev pub more : ℕ → Account → Account
more n l = record { commits = put l.commits n (suc (l.commits n)); told = l.told }

abbrev pub count : Option ℕ → Account → Account
count None l = l
count (Some n) l = more n l

abbrev pub tell : ℕ → Outcome → Account → Account
tell n outcome l = record { commits = l.commits; told = put l.told n (first_of (l.told n) (Some outcome)) }

abbrev pub note : Option Telling → Account → Account
note None l = l
note (Some t) l = tell t.unit t.outcome l

-- ---- what is told fits the count

abbrev pub Fits : Option Outcome → ℕ → Type 0
Fits None c = Unit {0}
Fits (Some Committed) c = c ≡ 1
Fits (Some RolledBack) c = c ≡ 0
Fits (Some ToldRerouted) c = c ≡ 0
Fits (Some ToldUnknown) c = Unit {0}

-- nothing was told that says whether it was committed
abbrev pub IsOpen : Option Outcome → Type 0
IsOpen None = Unit {0}
IsOpen (Some Committed) = ⊥
IsOpen (Some RolledBack) = ⊥
IsOpen (Some ToldRerouted) = ⊥
IsOpen (Some ToldUnknown) = Unit {0}

open_fits : (v : Option Outcome) (c : ℕ) → IsOpen v → Fits v c
open_fits None c o = tt
open_fits (Some Committed) c o = absurd o
open_fits (Some RolledBack) c o = absurd o
open_fits (Some ToldRerouted) c o = absurd o
open_fits (Some ToldUnknown) c o = tt

-- ---- what an account keeps

-- a lost unit with a commit on its way
pub record Pending (unit : ℕ) (owed : Owed) (l : Account) (n : ℕ) : Type 0 where
  pub below : n < unit
  pub none : l.commits n ≡ 0
  pub open_still : IsOpen (l.told n)
  pub not_before : owed ≡ Rerouted → n ≡ pred unit → ⊥

-- `unit` is in work, `owed` is owed, `bereft` says that no member was left
pub record Books {U : Type 0} (unit : ℕ) (owed : Owed) (bereft : Bool) (flight : ℕ → InFlight U) (l : Account) : Type 0 where
  pub positive : 0 < unit
  pub above : (n : ℕ) → unit < n → l.commits n ≡ 0
  pub once : (n : ℕ) → l.commits n ≤ 1
  pub fits : (n : ℕ) → Fits (l.told n) (l.commits n)
  pub before : owed ≡ Rerouted → l.commits (pred unit) ≡ 0
  pub pending : (n : ℕ) → has_commit (flight n).commands ≡ true → Pending unit owed l n
  pub shape : (n : ℕ) → IsSegment (flight n).commands
  pub untold : bereft ≡ false → (n : ℕ) → unit ≤ n → l.told n ≡ None
  pub untold_before : bereft ≡ false → owed ≢ Nothing → l.told (pred unit) ≡ None

pub rerouted_nothing : {o : Owed} → o ≡ Nothing → o ≡ Rerouted → ⊥
rerouted_nothing a b = cc

-- ---- a commit is counted

pub books_more : {U : Type 0} (unit : ℕ) (owed : Owed) (bereft : Bool) (flight flight2 : ℕ → InFlight U) (l : Account) (n : ℕ)
    → Books unit owed bereft flight l
    → n ≤ unit → l.commits n ≡ 0 → IsOpen (l.told n) → (owed ≡ Rerouted → n ≡ pred unit → ⊥)
    → ((k : ℕ) → has_commit (flight2 k).commands ≡ true → (k ≢ n) × (has_commit (flight k).commands ≡ true)) → ((k : ℕ) → IsSegment (flight2 k).commands)
    → Books unit owed bereft flight2 (more n l)
books_more unit owed bereft flight flight2 l n b le none opened not_before kept shape = record {
  positive = b.positive;
  above = λ k lt. put_other l.commits n (suc (l.commits n)) k (λ e. omega arith) ∙ b.above k lt;
  once = put_holds l.commits n (suc (l.commits n)) (λ k c. c ≤ 1) (omega arith) (λ k ne. b.once k);
  fits = put_holds l.commits n (suc (l.commits n)) (λ k c. Fits (l.told k) c) (open_fits (l.told n) (suc (l.commits n)) opened) (λ k ne. b.fits k);
  before = λ e. put_other l.commits n (suc (l.commits n)) (pred unit) (λ is. not_before e (sym is)) ∙ b.before e;
  pending = λ k e. let both = kept k e in let p = b.pending k both.1 in record {
    below = p.below;
    none = put_other l.commits n (suc (l.commits n)) k both.0 ∙ p.none;
    open_still = p.open_still;
    not_before = p.not_before;
  };
  shape = shape;
  untold = b.untold;
  untold_before = b.untold_before;
}

-- ---- something is told

told_now : (l : Account) (n : ℕ) (v : Outcome) → l.told n ≡ None → (tell n v l).told n ≡ Some v
told_now l n v e = put_same l.told n (first_of (l.told n) (Some v)) ∙ ap (λ z. first_of z (Some v)) e

told_other : (l : Account) (n : ℕ) (v : Outcome) (k : ℕ) → k ≢ n → (tell n v l).told k ≡ l.told k
told_other l n v k ne = put_other l.told n (first_of (l.told n) (Some v)) k ne

tell_fits : (l : Account) (n : ℕ) (v : Outcome) → l.told n ≡ None → Fits (Some v) (l.commits n) → ((k : ℕ) → Fits (l.told k) (l.commits k))
    → (k : ℕ) → Fits ((tell n v l).told k) (l.commits k)
tell_fits l n v e here there k = by_equal k n
    (λ ek. subst (λ z. Fits ((tell n v l).told z) (l.commits z)) (sym ek) (subst (λ z. Fits z (l.commits n)) (sym (told_now l n v e)) here))
    (λ ne. subst (λ z. Fits z (l.commits k)) (sym (told_other l n v k ne)) (there k))

-- the unit in work has ended, and that is told
pub books_ended : {U : Type 0} (unit : ℕ) (owed : Owed) (bereft : Bool) (flight : ℕ → InFlight U) (l : Account) (v : Outcome)
    → Books unit owed bereft flight l → bereft ≡ false → owed ≡ Nothing → Fits (Some v) (l.commits unit)
    → Books (suc unit) owed bereft flight (tell unit v l)
books_ended unit owed bereft flight l v b live o fits =
    let none = b.untold live unit (le_refl unit) in
    record {
      positive = omega arith;
      above = λ k lt. b.above k (omega arith);
      once = b.once;
      fits = tell_fits l unit v none fits b.fits;
      before = λ e. absurd (rerouted_nothing o e);
      pending = λ k h. let p = b.pending k h in let lt = p.below in record {
        below = omega arith;
        none = p.none;
        open_still = subst IsOpen (sym (told_other l unit v k (λ e. omega arith))) p.open_still;
        not_before = λ e. absurd (rerouted_nothing o e);
      };
      shape = b.shape;
      untold = λ e k le. told_other l unit v k (λ eq. omega arith) ∙ b.untold e k (omega arith);
      untold_before = λ e ne. absurd (ne o);
    }

-- a word on a unit of which nothing was told
pub books_told : {U : Type 0} (unit : ℕ) (o o2 : Owed) (bereft bereft2 : Bool) (flight : ℕ → InFlight U) (l : Account) (n : ℕ) (v : Outcome)
    → Books unit o bereft flight l
    → l.told n ≡ None → Fits (Some v) (l.commits n) → ((k : ℕ) → has_commit (flight k).commands ≡ true → k ≡ n → IsOpen (Some v))
    → (o2 ≡ Rerouted → o ≡ Rerouted) → (bereft2 ≡ false → (n < unit) × (bereft ≡ false) × (o2 ≡ Nothing))
    → Books unit o2 bereft2 flight (tell n v l)
books_told unit o o2 bereft bereft2 flight l n v b none fits opens back live = record {
  positive = b.positive;
  above = b.above;
  once = b.once;
  fits = tell_fits l n v none fits b.fits;
  before = λ e. b.before (back e);
  pending = λ k h. let p = b.pending k h in record {
    below = p.below;
    none = p.none;
    open_still = by_equal k n
        (λ ek. subst (λ z. IsOpen ((tell n v l).told z)) (sym ek) (subst IsOpen (sym (told_now l n v none)) (opens k h ek)))
        (λ ne. subst IsOpen (sym (told_other l n v k ne)) p.open_still);
    not_before = λ e. p.not_before (back e);
  };
  shape = b.shape;
  untold = λ e k le. let lt : n < unit = (live e).0 in told_other l n v k (λ eq. omega arith) ∙ b.untold (live e).1 k le;
  untold_before = λ e ne. absurd (ne (live e).2);
}

-- ---- an error becomes owed

pub books_owed : {U : Type 0} (unit : ℕ) (owed o : Owed) (bereft : Bool) (flight flight2 : ℕ → InFlight U) (l : Account)
    → Books unit owed bereft flight l → ((o ≡ Rerouted → ⊥) → bereft ≡ false)
    → (o ≡ Rerouted → l.commits unit ≡ 0)
    → ((k : ℕ) → has_commit (flight2 k).commands ≡ true → (has_commit (flight k).commands ≡ true) ⊎ ((k ≡ unit) × (l.commits unit ≡ 0) × (o ≡ Rerouted → ⊥)))
    → ((k : ℕ) → IsSegment (flight2 k).commands)
    → Books (suc unit) o bereft flight2 l
books_owed unit owed o bereft flight flight2 l b live none kept shape = record {
  positive = omega arith;
  above = λ k lt. b.above k (omega arith);
  once = b.once;
  fits = b.fits;
  before = none;
  pending = λ k h. go k (kept k h);
  shape = shape;
  untold = λ e k le. b.untold e k (omega arith);
  untold_before = λ e ne. b.untold e unit (le_refl unit);
}
  where
    go : (k : ℕ) → (has_commit (flight k).commands ≡ true) ⊎ ((k ≡ unit) × (l.commits unit ≡ 0) × (o ≡ Rerouted → ⊥)) → Pending (suc unit) o l k
    go k (inl h) = let p = b.pending k h in let lt = p.below in record {
      below = omega arith;
      none = p.none;
      open_still = p.open_still;
      not_before = λ e eq. omega arith;
    }
    go k (inr h) = record {
      below = let e = h.0 in omega arith;
      none = ap l.commits h.0 ∙ h.1;
      open_still = subst IsOpen (sym (ap l.told h.0 ∙ b.untold (live h.2) unit (le_refl unit))) tt;
      not_before = λ e eq. absurd (h.2 e);
    }

-- ---- the end

-- no member was left, before the database was accessed: nothing is told
pub books_bereft : {U : Type 0} (unit : ℕ) (o : Owed) (bereft : Bool) (flight : ℕ → InFlight U) (l : Account) → Books unit o bereft flight l
    → Books unit o true flight l
books_bereft unit o bereft flight l b = record {
  positive = b.positive;
  above = b.above;
  once = b.once;
  fits = b.fits;
  before = b.before;
  pending = b.pending;
  shape = b.shape;
  untold = λ e. absurd (true≢false e);
  untold_before = λ e. absurd (true≢false e);
}
