-- An owed error is told, no member is left, a limit is passed, the application ends: what a session keeps.
use Rattle.std.proofs.Common.{◌≡◌, ◌≢◌, ℕ, pred, Bool, true, false, List, [], Option, Some, None, ap, sym, refl, subst, ◌∙◌, le_refl, arith, true≢false}
use Rattle.access_handshake.specs.declared.stage.Stage.{Stage}
use Rattle.access_handshake.specs.declared.stage.Stage.TheVariants.{New, Attached, Chosen, Checked, Accessed}
use Rattle.plain_model.specs.Core.{Core, Owed, Nothing, Rerouted, Unknown, End, LimitKind, first, has_commit}
use Rattle.plain_model.specs.Lost.{accepted, none_left, closed, left, end_or, app_end}
use Rattle.plain_model.specs.Plain.{Session, InFlight, GoesOn, IsSending}
use Rattle.plain_model.specs.Told.{ToldRerouted, ToldUnknown, owed_telling, last_telling, none_left_telling}
use Rattle.std.specs.List.{AllByRecursion}
use Rattle.unit_segments.specs.Strip.{is_committed}
use Rattle.plain_model.specs.Group.{IsCommand}
use Rattle.plain_model.proofs.Segments.{AreSegments}
use Rattle.plain_model.proofs.Accounts.{Account, Books, note, books_told, books_bereft}
use Rattle.plain_model.proofs.Cores.{is_bereft}
use Rattle.plain_model.proofs.Facts.{Fact, FactOf, won, works_start, still_won}

nothing_rerouted : Nothing ≡ Rerouted → ⊥
nothing_rerouted e = cc

rerouted_nothing : Rerouted ≡ Nothing → ⊥
rerouted_nothing e = cc

unknown_nothing : Unknown ≡ Nothing → ⊥
unknown_nothing e = cc

-- ---- a first byte of the segment was taken

pub sent_keeps : {U : Type 0} (q : Session U) (l : Account) → Fact q l → IsSending q.core → FactOf (record q.core { sent = true }) q.ran q.part q.in_flight l
sent_keeps q l f sending = record {
  books = f.books;
  bereft_sent = λ e. absurd (true≢false (sym e ∙ ap is_bereft sending.live));
  works = record {
    still_none = λ e. absurd (true≢false e);
    owed_sent = λ ne. absurd (ne sending.owed);
    cut = f.works.cut;
    up_to = f.works.up_to;
    again = f.works.again;
    wins = f.works.wins;
  };
  working = f.working;
}

-- ---- an owed error is told

books_accept : {U : Type 0} (unit : ℕ) (o : Owed) (bereft : Bool) (flight : ℕ → InFlight U) (l : Account) → Books unit o bereft flight l
    → bereft ≡ false → o ≢ Nothing
    → Books unit Nothing bereft flight (note (owed_telling o unit) l)
books_accept unit Nothing bereft flight l b live ne = absurd (ne refl)
books_accept unit Rerouted bereft flight l b live ne = books_told unit Rerouted Nothing bereft bereft flight l (pred unit) ToldRerouted b
    (b.untold_before live ne) (b.before refl)
    (λ k h e. absurd ((b.pending k h).not_before refl e)) (λ e. absurd (nothing_rerouted e)) (λ e. let pos = b.positive in (omega arith, live, refl))
books_accept unit Unknown bereft flight l b live ne = books_told unit Unknown Nothing bereft bereft flight l (pred unit) ToldUnknown b
    (b.untold_before live ne) tt
    (λ k h e. tt) (λ e. absurd (nothing_rerouted e)) (λ e. let pos = b.positive in (omega arith, live, refl))

owed_counts : (o : Owed) (n : ℕ) (l : Account) (k : ℕ) → (note (owed_telling o n) l).commits k ≡ l.commits k
owed_counts Nothing n l k = refl
owed_counts Rerouted n l k = refl
owed_counts Unknown n l k = refl

pub accept_keeps : {U : Type 0} (name : List ℕ) (q : Session U) (l : Account) → Fact q l → GoesOn q.core → q.core.owed ≢ Nothing
    → FactOf (accepted name q.core).core 0 [] q.in_flight (note (owed_telling q.core.owed q.core.unit) l)
unfolding accepted
accept_keeps name q l f goes ne =
    let sent = f.works.owed_sent ne in
    record {
      books = books_accept q.core.unit q.core.owed (is_bereft q.core.end) q.in_flight l f.books (ap is_bereft goes.live) ne;
      bereft_sent = f.bereft_sent;
      works = works_start (accepted name q.core).core (λ no_more. sent) tt f.works.again;
      working = owed_counts q.core.owed q.core.unit l q.core.unit ∙ f.working ∙ still_won q.core q.ran q.part q.in_flight l f sent;
    }

-- ---- no member is left

books_last : {U : Type 0} (unit : ℕ) (o : Owed) (bereft : Bool) (flight : ℕ → InFlight U) (l : Account) → Books unit o bereft flight l
    → bereft ≡ false → l.commits unit ≡ 0
    → Books unit o true flight (note (last_telling o unit) l)
books_last unit Nothing bereft flight l b live none = books_told unit Nothing Nothing bereft true flight l unit ToldRerouted b (b.untold live unit
    (le_refl unit)) none
    (λ k h e. let lt = (b.pending k h).below in absurd (omega arith)) (λ e. e) (λ e. absurd (true≢false e))
books_last unit Rerouted bereft flight l b live none = books_told unit Rerouted Rerouted bereft true flight l (pred unit) ToldRerouted b
    (b.untold_before live rerouted_nothing) (b.before refl)
    (λ k h e. absurd ((b.pending k h).not_before refl e)) (λ e. e) (λ e. absurd (true≢false e))
books_last unit Unknown bereft flight l b live none = books_told unit Unknown Unknown bereft true flight l (pred unit) ToldUnknown b
    (b.untold_before live unknown_nothing) tt
    (λ k h e. tt) (λ e. e) (λ e. absurd (true≢false e))

last_counts : (o : Owed) (n : ℕ) (l : Account) (k : ℕ) → (note (last_telling o n) l).commits k ≡ l.commits k
last_counts Nothing n l k = refl
last_counts Rerouted n l k = refl
last_counts Unknown n l k = refl

books_none_left : {U : Type 0} (stage : Stage) (k : Core) (flight : ℕ → InFlight U) (l : Account) → Books k.unit k.owed (is_bereft k.end) flight l
    → is_bereft k.end ≡ false → l.commits k.unit ≡ 0
    → Books k.unit k.owed true flight (note (none_left_telling stage k) l) × ((note (none_left_telling stage k) l).commits k.unit ≡ 0)
books_none_left New k flight l b live none = (books_bereft k.unit k.owed (is_bereft k.end) flight l b, none)
books_none_left Attached k flight l b live none = (books_bereft k.unit k.owed (is_bereft k.end) flight l b, none)
books_none_left Chosen k flight l b live none = (books_bereft k.unit k.owed (is_bereft k.end) flight l b, none)
books_none_left Checked k flight l b live none = (books_bereft k.unit k.owed (is_bereft k.end) flight l b, none)
books_none_left Accessed k flight l b live none = (books_last k.unit k.owed (is_bereft k.end) flight l b live none, last_counts k.owed k.unit l k.unit ∙ none)

pub none_left_keeps : {U : Type 0} (name : List ℕ) (q : Session U) (l : Account) → Fact q l → GoesOn q.core → q.core.sent ≡ false
    → FactOf (none_left name q.core).core 0 [] q.in_flight (note (none_left_telling q.core.standing.stage q.core) l)
unfolding none_left
none_left_keeps name q l f goes sent =
    let both = books_none_left q.core.standing.stage q.core q.in_flight l f.books (ap is_bereft goes.live) (f.working
    ∙ still_won q.core q.ran q.part q.in_flight l f sent) in
    record {
      books = both.0;
      bereft_sent = λ e. sent;
      works = works_start (none_left name q.core).core (λ ne. sent) f.works.cut f.works.again;
      working = both.1;
    }

-- ---- other ends

-- a core that differs in its end and its replies alone
ended : {U : Type 0} (q : Session U) (l : Account) (k : Core) → Fact q l → k.unit ≡ q.core.unit → k.owed ≡ q.core.owed → k.sent ≡ q.core.sent
    → k.segments ≡ q.core.segments → k.again ≡ q.core.again
    → is_bereft k.end ≡ is_bereft q.core.end → FactOf k q.ran q.part q.in_flight l
ended q l k f eu eo es eg ea eb = record {
  books = subst (λ n. Books n k.owed (is_bereft k.end) q.in_flight l) (sym eu) (subst (λ o. Books q.core.unit o (is_bereft k.end) q.in_flight l)
      (sym eo) (subst (λ b. Books q.core.unit q.core.owed b q.in_flight l) (sym eb) f.books));
  bereft_sent = λ e. es ∙ f.bereft_sent (sym eb ∙ e);
  works = record {
    still_none = λ e. f.works.still_none (sym es ∙ e);
    owed_sent = λ ne. es ∙ f.works.owed_sent (λ e. ne (eo ∙ e));
    cut = subst AreSegments (sym eg) f.works.cut;
    up_to = f.works.up_to;
    again = subst (AllByRecursion IsCommand) (sym ea) f.works.again;
    wins = λ e. ap (λ gs. is_committed (first gs) q.part) eg ∙ f.works.wins (sym (ap (λ gs. has_commit (first gs)) eg) ∙ e);
  };
  working = ap l.commits eu ∙ f.working ∙ sym (ap (λ gs. won (first gs) q.part) eg);
}

pub close_keeps : {U : Type 0} (which : LimitKind) (q : Session U) (l : Account) → Fact q l → GoesOn q.core
    → FactOf (closed which q.core).core q.ran q.part q.in_flight l
unfolding closed
close_keeps which q l f goes = ended q l (closed which q.core).core f refl refl refl refl refl (sym (ap is_bereft goes.live))

left_bereft : (failed : Bool) (end : Option End) → is_bereft (Some (end_or end (app_end failed))) ≡ is_bereft end
left_bereft true None = refl
left_bereft false None = refl
left_bereft failed (Some end) = refl

pub leave_keeps : {U : Type 0} (failed : Bool) (q : Session U) (l : Account) → Fact q l → FactOf (left failed q.core) q.ran q.part q.in_flight l
unfolding left
leave_keeps failed q l f = ended q l (left failed q.core) f refl refl refl refl refl (left_bereft failed q.core.end)
