-- What runs again comes to the same, whatever the data are: what every session keeps.
use Rattle.std.proofs.Common.{◌≡◌, ℕ, ◌==◌, ◌||◌, Bool, true, false, if◌then◌else◌, List, [], ◌∷◌, Option, Some, None, find, is_some}
use Rattle.std.proofs.Common.{ap, sym, refl, subst, ◌∙◌, true≢false}
use Rattle.std.proofs.lemmas.Bool.{cond_both, cond-false}
use Rattle.std.specs.List.{AllByRecursion}
use Rattle.ddm_codepoints.specs.CodeClass.{class_of}
use Rattle.ddm_codepoints.specs.CodePoint.{secchk, accrdb, enduowrm}
use Rattle.access_handshake.specs.declared.stage.Stage.{Stage}
use Rattle.access_handshake.specs.declared.stage.Stage.TheVariants.{Accessed}
use Rattle.unit_segments.specs.declared.command.Command.{Command}
use Rattle.unit_segments.specs.declared.registers.RegisterFault.{RegisterFault}
use Rattle.unit_segments.specs.declared.stripped.Stripped.{Stripped}
use Rattle.unit_segments.specs.Segment.{segments_of}
use Rattle.unit_segments.specs.Strip.{end_number, has_ended, is_object_of, replies_to}
use Rattle.plain_model.specs.Standing.{Standing, after_secchk, after_accrdb, after_end}
use Rattle.plain_model.specs.Group.{Meaning, Values, Laws, IsCommand, led, answers}
use Rattle.plain_model.specs.Local.{Locally, is_local, answered_locally}
use Rattle.plain_model.specs.Core.{Core, Owed, Nothing, Rerouted, Unknown, Settled, first, has_commit, number_in, still, moved_too, with_local}
use Rattle.plain_model.specs.Core.{settle_by, settle_segments, settle_owed, settled, finish_by, finished}
use Rattle.plain_model.specs.Begun.{Reading, Chain, Fault, TooLong, begun}
use Rattle.plain_model.specs.Answered.{standing_after, is_work, with_work, with_end, unit_after, answered_core, register_fault, answered_by}
use Rattle.plain_model.specs.Answered.{answered}
use Rattle.plain_model.specs.Lost.{owes, lost_owing, lost, accepted, none_left, closed, left}
use Rattle.plain_model.specs.Plain.{Session, State, Event, What, Begin, Sent, Run, Answer, Lose, RunLate, Accept, NoneLeft, Close, Leave, IsPossible}
use Rattle.plain_model.specs.Plain.{ArePossible, new_session, start, plain, put, segment_of, seen_of, to_run, run_first, run_late, session_after}
use Rattle.plain_model.specs.Plain.{after_event}
use Rattle.plain_model.specs.Sound.{IsSound}
use Rattle.plain_model.specs.Repeats.{renumbered_as, IsDoneAt, NeedsNoData, NoRepeatNeedsData}
use Rattle.plain_model.proofs.Puts.{put_same, put_other, put_holds}
use Rattle.plain_model.proofs.Segments.{first_cut}
use Rattle.plain_model.proofs.Replies.{none_zero}
use Rattle.plain_model.proofs.Runs.{and_true}
use Rattle.plain_model.proofs.Accounts.{Account, new_account}
use Rattle.plain_model.proofs.Cores.{settled_finished, after_unit, where_lost}
use Rattle.plain_model.proofs.Facts.{Fact}
use Rattle.plain_model.proofs.Answering.{seen_ended}
use Rattle.plain_model.proofs.Keeps.{data_kept, values_kept}
use Rattle.plain_model.proofs.Fair.{account_after, event_keeps, Holds, start_holds}
use Rattle.plain_model.proofs.Sounding.{event_sound, start_sound}
use Rattle.plain_model.proofs.Leading.{led_same, answered_same, sets_stay}
use Rattle.plain_model.proofs.Staged.{IsStill, locally_stays, end_works, commit_works, work_accessed, isnt_access}

-- ---- local answers leave a session with access where it stands

settled_by : (answer : Locally) (gs : List (List Command)) (k : Core) (next : Core → Settled) → IsStill k.standing answer
    → ((j : Core) → j.standing ≡ k.standing → (next j).core.standing ≡ k.standing) → (settle_by answer gs k next).core.standing ≡ k.standing
settled_by answer gs k next is holds = cond_both answer.stopped (record { core = with_local answer [] k; moved = answer.moved })
    (moved_too answer.moved (next (with_local answer gs k))) (λ s. s.core.standing ≡ k.standing)
    (λ e. is.standing) (λ e. holds (with_local answer gs k) is.standing)

settled_stands : (name : List ℕ) (gs : List (List Command)) (k : Core) → k.standing.stage ≡ Accessed → (settle_segments name gs k).core.standing ≡ k.standing
unfolding settle_segments
settled_stands name [] k at = refl
settled_stands name (g ∷ gs) k at = cond_both (is_local name k.standing g) (settle_by (answered_locally name g k.standing) gs k
    (settle_segments name gs)) (still k) (λ s. s.core.standing ≡ k.standing)
    (λ f. settled_by (answered_locally name g k.standing) gs k (settle_segments name gs) (locally_stays name g k.standing at)
    (λ j e. settled_stands name gs j (ap (λ (st : Standing). st.stage) e ∙ at) ∙ e))
    (λ f. refl)

owed_stands : (name : List ℕ) (o : Owed) (k : Core) → k.standing.stage ≡ Accessed → (settle_owed name o k).core.standing ≡ k.standing
owed_stands name Nothing k at = settled_stands name k.segments k at
owed_stands name Rerouted k at = refl
owed_stands name Unknown k at = refl

pub finished_stands : (s : Settled) → (finished s).core.standing ≡ s.core.standing
finished_stands s = go s.core.segments
  where
    go : (gs : List (List Command)) → (finish_by gs s.moved s.core).core.standing ≡ s.core.standing
    go [] = refl
    go (g ∷ gs) = refl

stage_stays : (name : List ℕ) (k : Core) → k.standing.stage ≡ Accessed → (finished (settled name k)).core.standing.stage ≡ Accessed
stage_stays name k at = ap (λ (st : Standing). st.stage) (finished_stands (settled name k) ∙ owed_stands name k.owed k at) ∙ at

-- ---- what was done, was done of a session with access

all_done : (stage : Stage) (k : Core) → stage ≡ Accessed → IsDoneAt stage k
all_done stage k at = record { again = λ ne. at; spoken = λ e. at; pinned = λ e. at; owed = λ ne. at }

-- what holds of one core holds of another in which the same was done, where a session with access still has it
pub same_done : (stage to : Stage) (k j : Core) → j.again ≡ k.again → j.spoken ≡ k.spoken → j.pinned ≡ k.pinned → j.owed ≡ k.owed
    → (stage ≡ Accessed → to ≡ Accessed) → IsDoneAt stage k → IsDoneAt to j
same_done stage to k j ea es ep eo stays d = record {
  again = λ ne. stays (d.again (λ e. ne (ea ∙ e)));
  spoken = λ e. stays (d.spoken (sym es ∙ e));
  pinned = λ e. stays (d.pinned (sym ep ∙ e));
  owed = λ ne. stays (d.owed (λ e. ne (eo ∙ e)));
}

settled_done : (name : List ℕ) (k : Core) → IsDoneAt k.standing.stage k
    → IsDoneAt (finished (settled name k)).core.standing.stage (finished (settled name k)).core
settled_done name k d =
    let same = settled_finished name k in
    same_done k.standing.stage (finished (settled name k)).core.standing.stage k (finished (settled name k)).core same.again same.spoken
    same.pinned same.owed (stage_stays name k) d

begin_done : (name : List ℕ) (reading : Reading) (k : Core) → IsDoneAt k.standing.stage k
    → IsDoneAt (begun name reading k).core.standing.stage (begun name reading k).core
unfolding begun
begin_done name (Chain commands) k d = settled_done name (record k { segments = segments_of commands })
    (same_done k.standing.stage k.standing.stage k (record k { segments = segments_of commands }) refl refl refl refl (λ e. e) d)
begin_done name (Fault place error number) k d = record { again = d.again; spoken = d.spoken; pinned = d.pinned; owed = d.owed }
begin_done name (TooLong number) k d = record { again = d.again; spoken = d.spoken; pinned = d.pinned; owed = d.owed }

-- ---- a segment is answered

stage_after : (name : List ℕ) (st : Standing) (g : List Command) (r : Stripped) → is_local name st g ≡ false → st.stage ≡ Accessed
    → (standing_after st g r).stage ≡ Accessed
unfolding class_of
stage_after name st [] r front at = at
stage_after name st (c ∷ g) r front at =
    ap (λ (to : Standing). to.stage) (cond-false (c.code == secchk) (after_secchk st c r.replies)
    (if c.code == accrdb then after_accrdb st c r.replies else (if r.ended then after_end st r.sets else st))
    (isnt_access name st c secchk at front refl)
    ∙ cond-false (c.code == accrdb) (after_accrdb st c r.replies) (if r.ended then after_end st r.sets else st) (isnt_access name st c accrdb at front refl))
    ∙ cond_both r.ended (after_end st r.sets) st (λ (to : Standing). to.stage ≡ Accessed) (λ e. at) (λ e. at)

unit_done : (to : Stage) (r : Stripped) (k : Core) → (r.ended ≡ true → is_work (first k.segments) ≡ true)
    → (is_work (first k.segments) ≡ true → to ≡ Accessed) → (k.standing.stage ≡ Accessed → to ≡ Accessed) → IsDoneAt k.standing.stage k
    → IsDoneAt to (unit_after r k)
unit_done to r k ends works stays d =
    cond_both {A = Core} r.ended (with_end r k) (if is_work (first k.segments) then with_work r k else k) (IsDoneAt to)
    (λ e. all_done to (with_end r k) (works (ends e)))
    (λ e. cond_both {A = Core} (is_work (first k.segments)) (with_work r k) k (IsDoneAt to)
    (λ f. all_done to (with_work r k) (works f))
    (λ f. same_done k.standing.stage to k k refl refl refl refl stays d))

-- where the session stands then, before local answers are given
pub answered_stands : (r : Stripped) (k : Core) → (answered_core r k).standing ≡ standing_after k.standing (first k.segments) r
answered_stands r k = ap (λ (st : Standing). standing_after st (first (unit_after r k).segments) r) (after_unit r k).standing
    ∙ ap (λ gs. standing_after k.standing (first gs) r) (after_unit r k).segments

pub core_done : (name : List ℕ) (r : Stripped) (k : Core) → (r.ended ≡ true → is_work (first k.segments) ≡ true)
    → is_local name k.standing (first k.segments) ≡ false → IsDoneAt k.standing.stage k → IsDoneAt (answered_core r k).standing.stage (answered_core r k)
core_done name r k ends front d =
    same_done to.stage (answered_core r k).standing.stage (unit_after r k) (answered_core r k) refl refl refl refl
    (λ at. ap (λ (st : Standing). st.stage) (answered_stands r k) ∙ at) u
  where
    to : Standing
    to = standing_after k.standing (first k.segments) r

    stays : k.standing.stage ≡ Accessed → to.stage ≡ Accessed
    stays at = stage_after name k.standing (first k.segments) r front at

    u : IsDoneAt to.stage (unit_after r k)
    u = unit_done to.stage r k ends (λ work. stays (work_accessed name k.standing (first k.segments) front work)) stays d

answer_done : (name : List ℕ) (r : Stripped) (k : Core) → (r.ended ≡ true → is_work (first k.segments) ≡ true)
    → is_local name k.standing (first k.segments) ≡ false → IsDoneAt k.standing.stage k
    → IsDoneAt (answered name r k).core.standing.stage (answered name r k).core
unfolding answered
answer_done name r k ends front d = go (register_fault r k)
  where
    j : IsDoneAt (answered_core r k).standing.stage (answered_core r k)
    j = core_done name r k ends front d

    go : (fault : Option RegisterFault)
        → IsDoneAt (answered_by name (number_in (first k.segments)) fault (answered_core r k)).core.standing.stage
        (answered_by name (number_in (first k.segments)) fault (answered_core r k)).core
    go None = settled_done name (answered_core r k) j
    go (Some why) = record { again = j.again; spoken = j.spoken; pinned = j.pinned; owed = j.owed }

-- ---- the conversation is lost

abbrev pub Done : Core → Type 0
Done k = IsDoneAt k.standing.stage k

calm_done : (k : Core) → Done k → Done (record k { sent = false })
calm_done k d = record { again = d.again; spoken = d.spoken; pinned = d.pinned; owed = d.owed }

or_either : (a b : Bool) (P : Type 0) → (a || b) ≡ true → (a ≡ true → P) → (b ≡ true → P) → P
or_either true b P e left right = left refl
or_either false b P e left right = right e

lost_owing_done : (name : List ℕ) (o : Owed) (k : Core) → o ≡ k.owed → IsSound name k
    → (has_commit (first k.segments) ≡ true → is_work (first k.segments) ≡ true) → Done k → Done (lost_owing o k)
lost_owing_done name o k eo s works d = where_lost Done o k
    (λ n e. all_done k.standing.stage (owes Unknown k) (work_accessed name k.standing (first k.segments) (s.front (sym eo ∙ n))
    (works (and_true k.sent (has_commit (first k.segments)) e).1)))
    (λ n e. all_done k.standing.stage (owes Rerouted k) (or_either k.spoken k.pinned (k.standing.stage ≡ Accessed) e d.spoken d.pinned))
    (calm_done k d)

pub lost_done : (name : List ℕ) (k : Core) → IsSound name k
    → (has_commit (first k.segments) ≡ true → is_work (first k.segments) ≡ true) → Done k → Done (lost k)
unfolding lost
lost_done name k s works d = lost_owing_done name k.owed k refl s works d

-- ---- one event

pub ended_works : {U : Type 0} (q : Session U) (l : Account) → Fact q l → (seen_of q).ended ≡ true → is_work (segment_of q) ≡ true
ended_works q l f e = end_works 1 (segment_of q) (first_cut q.core.segments f.works.cut).run (λ none. true≢false (sym ended ∙ nothing none))
  where
    ended : has_ended (segment_of q) q.part ≡ true
    ended = sym (seen_ended (segment_of q) q.part q.asking) ∙ e

    nothing : end_number (segment_of q) ≡ 0 → has_ended (segment_of q) q.part ≡ false
    nothing none = ap (λ n. is_some (find (is_object_of enduowrm) (replies_to n q.part))) none
        ∙ ap (λ replies. is_some (find (is_object_of enduowrm) replies)) (none_zero q.ran q.part f.works.up_to)

run_done : {S U : Type 0} (m : Meaning S U) (s : S) (q : Session U) (cs : List Command) → Done q.core → Done (run_first m s q cs).core
run_done m s q [] d = d
run_done m s q (c ∷ cs) d = d

late_done : {S U : Type 0} (m : Meaning S U) (s : S) (n : ℕ) (q : Session U) (u : U) (cs : List Command) → Done q.core
    → Done (run_late m s n q u cs).core
late_done m s n q u [] d = d
late_done m s n q u (c ∷ cs) d = d

event_done : {S U : Type 0} (name : List ℕ) (m : Meaning S U) (s : S) (q : Session U) (l : Account) (what : What) → Fact q l → IsSound name q.core
    → Done q.core → IsPossible q what → Done (session_after name m s q what).core
unfolding accepted none_left closed left
event_done name m s q l (Begin reading) f sound d may = begin_done name reading q.core d
event_done name m s q l Sent f sound d may = record { again = d.again; spoken = d.spoken; pinned = d.pinned; owed = d.owed }
event_done name m s q l Run f sound d may = run_done m s q (to_run q) d
event_done name m s q l Answer f sound d may =
    answer_done name (seen_of q) q.core (ended_works q l f) (sound.front may.0.owed) d
event_done name m s q l Lose f sound d may = lost_done name q.core sound (commit_works (segment_of q) (first_cut q.core.segments f.works.cut).run) d
event_done name m s q l (RunLate n) f sound d may = late_done m s n q (q.in_flight n).held (q.in_flight n).commands d
event_done name m s q l Accept f sound d may = record { again = d.again; spoken = d.spoken; pinned = d.pinned; owed = λ ne. absurd (ne refl) }
event_done name m s q l NoneLeft f sound d may = record { again = d.again; spoken = d.spoken; pinned = d.pinned; owed = d.owed }
event_done name m s q l (Close which) f sound d may = record { again = d.again; spoken = d.spoken; pinned = d.pinned; owed = d.owed }
event_done name m s q l (Leave failed) f sound d may = record { again = d.again; spoken = d.spoken; pinned = d.pinned; owed = d.owed }

-- ---- what a session keeps comes to the same

pub record Repeats {S U : Type 0} (name : List ℕ) (v : Values S U) (q : Session U) (l : Account) : Type 0 where
  pub holds : Holds v q l
  pub sound : IsSound name q.core
  pub done : Done q.core

pub some_again : (stage : Stage) (k : Core) (c : Command) (cs : List Command) → IsDoneAt stage k → k.again ≡ c ∷ cs → stage ≡ Accessed
some_again stage k c cs d e = d.again (λ none. cons_nil (sym e ∙ none))
  where
    cons_nil : {x : Command} {xs : List Command} → x ∷ xs ≡ [] → ⊥
    cons_nil f = cc

record Same {S U : Type 0} (m : Meaning S U) (st : Standing) (cs : List Command) (s t : S) : Type 0 where
  pub unit : led m s (m.base st) cs ≡ led m t (m.base st) cs
  pub replies : answers m s (m.base st) cs ≡ answers m t (m.base st) cs

is_same : {S U : Type 0} {m : Meaning S U} {v : Values S U} → Laws m v → (name : List ℕ) (k : Core) (s t : S) → v.shared s → v.shared t
    → AllByRecursion IsCommand k.again → IsSound name k → Done k → Same m k.standing k.again s t
is_same {S} {U} {m = m} laws name k s t ss st all sound d = go k.again refl
  where
    go : (cs : List Command) → k.again ≡ cs → Same m k.standing k.again s t
    go [] e = subst (λ cs. Same m k.standing cs s t) (sym e) (record { unit = refl; replies = refl })
    go (c ∷ cs) e =
        let both = laws.sets_alone k.standing k.again s t (some_again k.standing.stage k c cs d e) sound.sets all ss st in
        record { unit = both.0; replies = both.1 }

pub lost_standing : (o : Owed) (k : Core) → (lost_owing o k).standing ≡ k.standing
lost_standing o k = where_lost (λ j. j.standing ≡ k.standing) o k (λ n e. refl) (λ n e. refl) refl

pub after : {S U : Type 0} {m : Meaning S U} {v : Values S U} → Laws m v → (name : List ℕ) (s : S) (q : Session U) (l : Account) (what : What)
    → v.shared s → IsPossible q what → Repeats name v q l → Repeats name v (session_after name m s q what) (account_after m s q what l)
after {m = m} laws name s q l what sh may r = record {
  holds = record {
    values = values_kept laws name s q l what sh r.holds.values r.holds.fact;
    fact = event_keeps laws name s q l what sh r.holds.values r.holds.fact may;
  };
  sound = event_sound name m s q what r.sound may;
  done = event_done name m s q l what r.holds.fact r.sound r.done may;
}

pub comes_same : {S U : Type 0} {m : Meaning S U} {v : Values S U} → Laws m v → (name : List ℕ) (q : Session U) (l : Account) → Repeats name v q l
    → NeedsNoData m v.shared q
unfolding lost
comes_same {m = m} laws name q l r = record {
  done = r.done;
  unit = λ ds are s t ss st.
      (is_same laws name q.core s t ss st r.holds.fact.works.again r.sound r.done).unit
      ∙ sym (led_same laws q.core.again ds t (m.base q.core.standing) st (laws.base_unit q.core.standing) r.holds.fact.works.again are);
  replies = λ ds are s t ss st.
      ap (renumbered_as ds) (is_same laws name q.core s t ss st r.holds.fact.works.again r.sound r.done).replies
      ∙ sym (answered_same laws q.core.again ds t (m.base q.core.standing) st (laws.base_unit q.core.standing) r.holds.fact.works.again are);
  data_stay = λ s ss. sets_stay laws q.core.again s (m.base q.core.standing) ss (laws.base_unit q.core.standing) r.holds.fact.works.again r.sound.sets;
  lost = λ s t ss st.
      let a = after laws name s q l Lose ss tt r in
      ap (λ st. led m s (m.base st) (lost q.core).again) (sym (lost_standing q.core.owed q.core))
      ∙ (is_same laws name (lost q.core) s t ss st a.holds.fact.works.again a.sound a.done).unit;
}

events_same : {S U : Type 0} {m : Meaning S U} {v : Values S U} → Laws m v → (name : List ℕ) (es : List Event) (p : State S U) (ls : ℕ → Account)
    → v.shared p.shared → ((i : ℕ) → Repeats name v (p.session i) (ls i)) → ArePossible name m p es → (i : ℕ)
    → NeedsNoData m v.shared ((plain name m p es).session i)
events_same laws name [] p ls sh all may i = comes_same laws name (p.session i) (ls i) (all i)
events_same {U = U} {m = m} {v = v} laws name (e ∷ es) p ls sh all may i =
    let q = p.session e.session in
    let l = ls e.session in
    let r = all e.session in
    let q2 : Session U = session_after name m p.shared q e.what in
    let l2 : Account = account_after m p.shared q e.what l in
    events_same laws name es (after_event name m p e) (put ls e.session l2)
    (data_kept laws p.shared q l e.what sh r.holds.values r.holds.fact)
    (λ j. put_holds p.session e.session q2 (λ k z. Repeats name v z (put ls e.session l2 k))
    (subst (λ a. Repeats name v q2 a) (sym (put_same ls e.session l2)) (after laws name p.shared q l e.what sh may.0 r))
    (λ k ne. subst (λ a. Repeats name v (p.session k) a) (sym (put_other ls e.session l2 k ne)) (all k)) j)
    may.1 i

pub start_repeats : {S U : Type 0} {m : Meaning S U} {v : Values S U} → Laws m v → (name : List ℕ) → Repeats name v (new_session m) new_account
start_repeats laws name = record {
  holds = start_holds laws;
  sound = start_sound name;
  done = record {
    again = λ ne. absurd (ne refl);
    spoken = λ e. absurd (true≢false (sym e));
    pinned = λ e. absurd (true≢false (sym e));
    owed = λ ne. absurd (ne refl);
  };
}

pub no_repeat_needs_data : {S U : Type 0} {m : Meaning S U} {v : Values S U} → Laws m v → (name : List ℕ) → NoRepeatNeedsData name m v.shared
no_repeat_needs_data {m = m} laws name s sh es may i =
    events_same laws name es (start m s) (λ k. new_account) sh (λ k. start_repeats laws name) may i
