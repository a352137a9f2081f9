-- What is told of a loss, what stays in work, and how many commits there are.
use Rattle.std.proofs.Common.{◌≡◌, inl, inr, ℕ, suc, ◌||◌, Bool, true, false, if◌then◌else◌, List, [], ◌∷◌, length, Option, Some, None, is_some, ap}
use Rattle.std.proofs.Common.{sym, refl, ◌∙◌, arith, true≢false}
use Rattle.std.proofs.lemmas.Bool.{cond-false}
use Rattle.unit_segments.specs.declared.command.Command.{Command}
use Rattle.unit_segments.specs.Strip.{has_ended, is_committed}
use Rattle.plain_model.specs.Group.{Meaning}
use Rattle.plain_model.specs.Core.{Core, Owed, Rerouted, Unknown}
use Rattle.plain_model.specs.Lost.{commit_sent, owes, lost_owing, lost}
use Rattle.plain_model.specs.Plain.{Session, Begin, Sent, Run, Answer, Lose, RunLate, Accept, NoneLeft, Close, Leave, segment_of, to_run, run_first}
use Rattle.plain_model.specs.Plain.{run_late, after_event}
use Rattle.plain_model.specs.Told.{Outcome, Committed, RolledBack, Telling, UnitName, unit_before, told_by, committed_by, committed}
use Rattle.plain_model.specs.InWork.{tells_loss, LossIsTold, StaysInWork, CanRunAgain, commit_events, AllAreCounted}
use Rattle.plain_model.proofs.Cores.{where_lost}

-- ---- what is told

none_some : {X : Type 0} {x : X} → None ≡ Some x → ⊥
none_some e = cc

some_is : {X : Type 0} {x y : X} → Some x ≡ Some y → x ≡ y
some_is e = cc

-- an answered segment tells no loss
answer_tells : (b : Bool) → tells_loss (if b then Committed else RolledBack) ≡ false
answer_tells true = refl
answer_tells false = refl

answered_tells : {U : Type 0} (q : Session U) (t : Telling) → told_by q Answer ≡ Some t → tells_loss t.outcome ≡ true → ⊥
answered_tells {U} q t e loss = go (has_ended (segment_of q) q.part) e
  where
    outcome : Outcome
    outcome = if is_committed (segment_of q) q.part then Committed else RolledBack

    go : (b : Bool) → (if b then Some (record { unit = q.core.unit; outcome = outcome }) else None) ≡ Some t → ⊥
    go true f = true≢false (sym loss ∙ sym (ap (λ (v : Telling). tells_loss v.outcome) (some_is f)) ∙ answer_tells (is_committed (segment_of q) q.part))
    go false f = none_some f

pub loss_is_told : {U : Type 0} → LossIsTold U
loss_is_told q (Begin reading) t e loss = absurd (none_some e)
loss_is_told q Sent t e loss = absurd (none_some e)
loss_is_told q Run t e loss = absurd (none_some e)
loss_is_told q Answer t e loss = absurd (answered_tells q t e loss)
loss_is_told q Lose t e loss = absurd (none_some e)
loss_is_told q (RunLate n) t e loss = absurd (none_some e)
loss_is_told q Accept t e loss = inl refl
loss_is_told q NoneLeft t e loss = inr refl
loss_is_told q (Close which) t e loss = absurd (none_some e)
loss_is_told q (Leave failed) t e loss = absurd (none_some e)

-- ---- what stays in work

run_segments : {S U : Type 0} (m : Meaning S U) (s : S) (q : Session U) (cs : List Command) → (run_first m s q cs).core.segments ≡ q.core.segments
run_segments m s q [] = refl
run_segments m s q (c ∷ cs) = refl

late_segments : {S U : Type 0} (m : Meaning S U) (s : S) (n : ℕ) (q : Session U) (u : U) (cs : List Command)
    → (run_late m s n q u cs).core.segments ≡ q.core.segments
late_segments m s n q u [] = refl
late_segments m s n q u (c ∷ cs) = refl

lost_segments_owing : (o : Owed) (k : Core) → (lost_owing o k).segments ≡ k.segments
lost_segments_owing o k = where_lost (λ j. j.segments ≡ k.segments) o k (λ n e. refl) (λ n e. refl) refl

lost_segments : (k : Core) → (lost k).segments ≡ k.segments
unfolding lost
lost_segments k = lost_segments_owing k.owed k

pub stays_in_work : {S U : Type 0} (name : List ℕ) (m : Meaning S U) → StaysInWork name m
stays_in_work name m s q (Begin reading) owed work may e = absurd (work may.1)
stays_in_work name m s q Sent owed work may e = refl
stays_in_work name m s q Run owed work may e = run_segments m s q (to_run q)
stays_in_work name m s q Answer owed work may e = absurd (true≢false e)
stays_in_work name m s q Lose owed work may e = lost_segments q.core
stays_in_work name m s q (RunLate n) owed work may e = late_segments m s n q (q.in_flight n).held (q.in_flight n).commands
stays_in_work name m s q Accept owed work may e = absurd (may.1 owed)
stays_in_work name m s q NoneLeft owed work may e = absurd (true≢false e)
stays_in_work name m s q (Close which) owed work may e = absurd (true≢false e)
stays_in_work name m s q (Leave failed) owed work may e = absurd (true≢false e)

pub can_run_again : CanRunAgain
unfolding lost
can_run_again k owed sent quiet =
    ap (λ o. (lost_owing o k).owed) owed
    ∙ ap (λ (j : Core). j.owed) (cond-false (commit_sent k) (owes Unknown k)
    (if k.spoken || k.pinned then owes Rerouted k else record k { sent = false }) sent)
    ∙ ap (λ (j : Core). j.owed) (cond-false (k.spoken || k.pinned) (owes Rerouted k) (record k { sent = false }) quiet)
    ∙ owed

-- ---- how many commits there are

one_more : (i : ℕ) (o : Option ℕ) (names : List UnitName) (n : ℕ) → length names ≡ n → length (unit_before i o names) ≡ (if is_some o then suc n else n)
one_more i None names n e = e
one_more i (Some k) names n e = let more : suc (length names) ≡ suc n = ap suc e in omega arith

pub all_are_counted : {S U : Type 0} (name : List ℕ) (m : Meaning S U) → AllAreCounted name m
all_are_counted name m p [] = refl
all_are_counted name m p (e ∷ es) =
    one_more e.session (committed_by m p.shared (p.session e.session) e.what) (committed name m (after_event name m p e) es) (commit_events name m
    (after_event name m p e) es)
    (all_are_counted name m (after_event name m p e) es)
