-- The conversation is lost: what a session keeps.
use Rattle.std.proofs.Common.{◌≡◌, ◌≢◌, inl, inr, ℕ, suc, ◌&&◌, ◌||◌, Bool, true, false, if◌then◌else◌, List, [], drop, ap, sym, refl, subst, ◌∙◌}
use Rattle.std.proofs.Common.{le_refl, true≢false}
use Rattle.std.proofs.lemmas.Bool.{cond_both, cond-true, cond-false}
use Rattle.dss_frame.specs.declared.dss.Dss.{Dss}
use Rattle.unit_segments.specs.declared.command.Command.{Command}
use Rattle.unit_segments.specs.Spelling.{numbered}
use Rattle.unit_segments.specs.Strip.{stops}
use Rattle.plain_model.specs.Core.{Core, Owed, Nothing, Rerouted, Unknown, first, has_commit}
use Rattle.plain_model.specs.Lost.{commit_sent, owes, lost_owing, lost}
use Rattle.plain_model.specs.Plain.{Session, InFlight, put, segment_of, left_to_run, to_run, left_in_flight}
use Rattle.plain_model.proofs.Puts.{by_equal, put_same, put_other, put_holds}
use Rattle.plain_model.proofs.Segments.{IsSegment, first_cut, nothing_cut, numbered_segment, drop_segment}
use Rattle.plain_model.proofs.Replies.{AreUpTo, commit_left}
use Rattle.plain_model.proofs.Accounts.{Account, books_owed}
use Rattle.plain_model.proofs.Cores.{is_bereft}
use Rattle.plain_model.proofs.Facts.{Fact, FactOf, Works, won, works_start, still_won, same_unit}
use Rattle.plain_model.proofs.Runs.{and_true}

-- what is left to run is a segment, and while a commit is in it nothing is won
pub left_segment : (g : List Command) (ran : ℕ) (part : List Dss) → IsSegment g → IsSegment (left_to_run g ran part)
left_segment g ran part s = cond_both (stops g part) [] (drop ran (numbered 1 g)) IsSegment (λ e. nothing_cut) (λ e. drop_segment ran (numbered 1 g)
    (numbered_segment 1 g s))

left_won : (g : List Command) (ran : ℕ) (part : List Dss) → IsSegment g → AreUpTo ran part → has_commit (left_to_run g ran part) ≡ true → won g part ≡ 0
left_won g ran part s up = go (stops g part) refl
  where
    go : (b : Bool) → stops g part ≡ b → has_commit (left_to_run g ran part) ≡ true → won g part ≡ 0
    go true e h = absurd (true≢false (sym h ∙ ap has_commit (cond-true (stops g part) [] (drop ran (numbered 1 g)) e)))
    go false e h = ap (λ b. if b then 1 else 0) (commit_left ran g part s.cut (sym (ap has_commit (cond-false (stops g part) [] (drop ran
        (numbered 1 g)) e)) ∙ h) up)

-- where no commit was sent nothing is won
not_sent : (k : Core) (ran : ℕ) (part : List Dss) → Works k ran part → commit_sent k ≡ false → won (first k.segments) part ≡ 0
not_sent k ran part w e = go k.sent refl
  where
    go : (b : Bool) → k.sent ≡ b → won (first k.segments) part ≡ 0
    go false f = ap (λ p. won (first k.segments) p) (w.still_none f).1
    go true f = ap (λ b. if b then 1 else 0) (w.wins (subst (λ b. (b && has_commit (first k.segments)) ≡ false) f e))

unknown_rerouted : Unknown ≡ Rerouted → ⊥
unknown_rerouted e = cc

abbrev calm : Core → Core
calm k = record k { sent = false }

-- the same unit, no longer sent
calmed : {U : Type 0} (q : Session U) (l : Account) → Fact q l → won (segment_of q) q.part ≡ 0 → FactOf (calm q.core) 0 [] q.in_flight l
calmed q l f none = same_unit q.core (calm q.core) q.ran q.part q.in_flight l f refl refl refl (λ ne. refl) (λ e. refl) f.works.cut f.works.again none

-- an error was owed before
lost_again : {U : Type 0} (q : Session U) (l : Account) → Fact q l → q.core.owed ≢ Nothing → FactOf (calm q.core) 0 [] (left_in_flight q) l
lost_again {U} q l f ne =
    let sent = f.works.owed_sent ne in
    subst (λ flight. FactOf (calm q.core) 0 [] flight l)
    (sym (cond-false (commit_sent q.core) (put q.in_flight q.core.unit (record { held = q.held; commands = to_run q })) q.in_flight (ap
    (λ b. b && has_commit (first q.core.segments)) sent)))
    (calmed q l f (still_won q.core q.ran q.part q.in_flight l f sent))

-- a commit was sent
lost_unknown : {U : Type 0} (q : Session U) (l : Account) → Fact q l → commit_sent q.core ≡ true
    → FactOf (owes Unknown q.core) 0 [] (put q.in_flight q.core.unit (record { held = q.held; commands = to_run q })) l
lost_unknown {U} q l f e = record {
  books = books_owed q.core.unit q.core.owed Unknown (is_bereft q.core.end) q.in_flight (put q.in_flight q.core.unit here) l f.books
      (λ isnt. live (is_bereft q.core.end) refl) (λ r. absurd (unknown_rerouted r))
      (λ k h. by_equal k q.core.unit
      (λ ek. inr (
        ek,
        f.working ∙ left_won (segment_of q) q.ran q.part seg f.works.up_to
            (sym (ap (λ (v : InFlight U). has_commit v.commands) (put_same q.in_flight q.core.unit here))
            ∙ subst (λ n. has_commit (put q.in_flight q.core.unit here n).commands ≡ true) ek h),
        unknown_rerouted,
      ))
      (λ ne. inl (subst (λ (v : InFlight U). has_commit v.commands ≡ true) (put_other q.in_flight q.core.unit here k ne) h)))
      (put_holds q.in_flight q.core.unit here (λ n v. IsSegment v.commands) (left_segment (segment_of q) q.ran q.part seg) (λ k ne. f.books.shape k));
  bereft_sent = λ t. refl;
  works = works_start (owes Unknown q.core) (λ ne. refl) f.works.cut tt;
  working = f.books.above (suc q.core.unit) (le_refl (suc q.core.unit));
}
  where
    here : InFlight U
    here = record { held = q.held; commands = to_run q }

    seg : IsSegment (segment_of q)
    seg = first_cut q.core.segments f.works.cut

    live : (v : Bool) → is_bereft q.core.end ≡ v → is_bereft q.core.end ≡ false
    live true t = absurd (true≢false (sym (and_true q.core.sent (has_commit (first q.core.segments)) e).0 ∙ f.bereft_sent t))
    live false t = t

-- none was, and the unit can't be run again
lost_rerouted : {U : Type 0} (q : Session U) (l : Account) → Fact q l → won (segment_of q) q.part ≡ 0 → FactOf (owes Rerouted q.core) 0 [] q.in_flight l
lost_rerouted q l f none = record {
  books = books_owed q.core.unit q.core.owed Rerouted (is_bereft q.core.end) q.in_flight q.in_flight l f.books (λ isnt. absurd (isnt refl))
      (λ r. f.working ∙ none) (λ k h. inl h) f.books.shape;
  bereft_sent = λ t. refl;
  works = works_start (owes Rerouted q.core) (λ ne. refl) f.works.cut tt;
  working = f.books.above (suc q.core.unit) (le_refl (suc q.core.unit));
}

lost_owing_keeps : {U : Type 0} (q : Session U) (l : Account) (o : Owed) → Fact q l → q.core.owed ≡ o → FactOf (lost_owing o q.core) 0 [] (left_in_flight q) l
lost_owing_keeps {U} q l Nothing f eo = go (commit_sent q.core) refl
  where
    Kept : Bool → Type 0
    Kept b = FactOf (if b then owes Unknown q.core else (if q.core.spoken || q.core.pinned then owes Rerouted q.core else calm q.core)) 0 []
        (if b then put q.in_flight q.core.unit (record { held = q.held; commands = to_run q }) else q.in_flight) l

    go : (b : Bool) → commit_sent q.core ≡ b → Kept (commit_sent q.core)
    go true e = subst Kept (sym e) (lost_unknown q l f e)
    go false e = subst Kept (sym e)
        (let none = not_sent q.core q.ran q.part f.works e in
        cond_both {A = Core} (q.core.spoken || q.core.pinned) (owes Rerouted q.core) (calm q.core) (λ k. FactOf k 0 [] q.in_flight l)
        (λ t. lost_rerouted q l f none) (λ t. calmed q l f none))
lost_owing_keeps q l Rerouted f eo = lost_again q l f (λ e. rerouted_is (sym e ∙ eo))
  where
    rerouted_is : Nothing ≡ Rerouted → ⊥
    rerouted_is e = cc
lost_owing_keeps q l Unknown f eo = lost_again q l f (λ e. unknown_is (sym e ∙ eo))
  where
    unknown_is : Nothing ≡ Unknown → ⊥
    unknown_is e = cc

pub lose_keeps : {U : Type 0} (q : Session U) (l : Account) → Fact q l → FactOf (lost q.core) 0 [] (left_in_flight q) l
unfolding lost
lose_keeps q l f = lost_owing_keeps q l q.core.owed f refl
