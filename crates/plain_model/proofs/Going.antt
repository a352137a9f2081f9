-- What runs again succeeds, whatever happens: over all events.
use Rattle.std.proofs.Common.{◌≡◌, ◌≢◌, ℕ, true, not, if◌then◌else◌, List, [], ◌∷◌, ◌++◌}
use Rattle.std.proofs.Common.{Option, Some, None, ap, sym, refl, subst, ◌∙◌}
use Rattle.std.specs.List.{AllByRecursion, flat_map}
use Rattle.dss_frame.specs.declared.dss.Dss.{Dss}
use Rattle.ddm_codepoints.specs.CodeClass.{class_of}
use Rattle.access_handshake.specs.declared.stage.Stage.TheVariants.{New, Accessed}
use Rattle.unit_segments.specs.declared.command.Command.{Command}
use Rattle.unit_segments.specs.declared.registers.RegisterFault.{RegisterFault}
use Rattle.unit_segments.specs.Command.{ends_unit}
use Rattle.unit_segments.specs.Segment.{segments_of}
use Rattle.unit_segments.specs.Spelling.{numbered}
use Rattle.unit_segments.specs.Accepts.{sets_only}
use Rattle.plain_model.specs.Standing.{Standing, attached}
use Rattle.plain_model.specs.UnitEnd.{unasked}
use Rattle.plain_model.specs.Group.{Meaning, Values, Laws, IsCommand, Set, led, answers}
use Rattle.plain_model.specs.Core.{Core, Owed, Nothing, first, number_in, settled, finished, new_core}
use Rattle.plain_model.specs.Begun.{Reading, Chain, Fault, TooLong, begun}
use Rattle.plain_model.specs.Answered.{answered_core, answered_by, answered, register_fault, without_error}
use Rattle.plain_model.specs.Lost.{lost_owing, lost, accepted, none_left, closed, left}
use Rattle.plain_model.specs.Plain.{Session, State, Event, What, Begin, Sent, Run, Answer, Lose, RunLate, Accept, NoneLeft, Close, Leave, IsPossible}
use Rattle.plain_model.specs.Plain.{ArePossible, new_session, start, plain, put, segment_of, seen_of, left_to_run, to_run, with_after, run_first, run_late}
use Rattle.plain_model.specs.Plain.{session_after, after_event}
use Rattle.plain_model.specs.Repeats.{AreSame, renumbered_as}
use Rattle.plain_model.specs.Succeeds.{CanRepeat, Succeeds, EachRepeatSucceeds}
use Rattle.plain_model.proofs.Puts.{put_same, put_other, put_holds}
use Rattle.plain_model.proofs.Segments.{IsSegment, cons_nil, first_cut, numbered_segment, drop_segment}
use Rattle.plain_model.proofs.Runs.{left_is}
use Rattle.plain_model.proofs.Cores.{where_lost}
use Rattle.plain_model.proofs.Accounts.{Account, new_account}
use Rattle.plain_model.proofs.Keeps.{data_kept}
use Rattle.plain_model.proofs.Answering.{seen_ended}
use Rattle.plain_model.proofs.Fair.{account_after}
use Rattle.plain_model.proofs.Leading.{answered_same}
use Rattle.plain_model.proofs.Repeating.{Repeats, Done, after, comes_same, start_repeats, lost_standing, ended_works, core_done, answered_stands}
use Rattle.plain_model.proofs.Stands.{passed_is}
use Rattle.plain_model.proofs.Landing.{AtRest, IsAt, at_start, at_run, at_answer}
use Rattle.plain_model.proofs.Aheads.{AreGood, IsAhead, ahead_start, ahead_rest, ahead_run, good_sets, good_renumbered, good_calm, answers_length}
use Rattle.plain_model.proofs.Succeeding.{Calm, Rests, settled_rests, IsAnswerable, answered_led}

-- ---- what a session keeps

record IsGoing {S U : Type 0} (m : Meaning S U) (v : Values S U) (q : Session U) : Type 0 where
  pub at : IsAt m v q.core q.ran q.part q.asking q.held
  pub ahead : Calm q.core (IsAhead m v q.core.typdef q.core.standing q.core.again (segment_of q) q.ran q.part q.held)

-- as long as its session goes on
abbrev Goes : {S U : Type 0} → Meaning S U → Values S U → Session U → Type 0
Goes m v q = q.core.end ≡ None → IsGoing m v q

-- before the segment in work begins to run
rests : {S U : Type 0} {m : Meaning S U} {v : Values S U} (q : Session U) → q.ran ≡ 0 → IsGoing m v q → Rests m v q.core q.held
rests {m = m} {v = v} q z g = record {
  rest = g.at.rest z;
  led = λ sp pi at. ahead_rest m v q.core.typdef q.core.standing q.core.again (segment_of q) q.ran q.part q.held z (g.ahead sp pi at);
}

going : {S U : Type 0} {m : Meaning S U} {v : Values S U} → Laws m v → (q : Session U) (k : Core) (u : U) (out : List ℕ) → Rests m v k u
    → IsGoing m v (record q { core = k; held = u; ran = 0; part = []; asking = []; out = out })
going {m = m} {v = v} laws q k u out r = record {
  at = at_start laws k u r.rest;
  ahead = λ sp pi at. ahead_start m v k.typdef k.standing k.again (first k.segments) u (r.led sp pi at);
}

none_some : {A : Type 0} {x : A} → Some x ≡ None → ⊥
none_some e = cc

-- ---- the next command runs

run_going : {S U : Type 0} {m : Meaning S U} {v : Values S U} → Laws m v → (name : List ℕ) (s : S) (q : Session U) (l : Account)
    (cs : List Command) → v.shared s → Repeats name v q l → q.core.owed ≡ Nothing → left_to_run (segment_of q) q.ran q.part ≡ cs → IsGoing m v q
    → IsGoing m v (run_first m s q cs)
run_going laws name s q l [] sh r owed e g = g
run_going {m = m} {v = v} laws name s q l (c ∷ cs) sh r owed e g =
    let left = left_is (segment_of q) q.ran q.part c cs e in
    let seg = first_cut q.core.segments r.holds.fact.works.cut in
    let is : IsCommand c = (subst IsSegment left (drop_segment q.ran (numbered 1 (segment_of q)) (numbered_segment 1 (segment_of q) seg))).commands.0 in
    record {
      at = at_run laws name q.core s q.held sh r.holds.values.held q.ran q.part q.asking c cs seg (r.sound.front owed) is left
          r.holds.fact.works.up_to g.at;
      ahead = λ sp pi at. ahead_run laws q.core.typdef q.core.standing q.core.again (segment_of q) q.ran q.part s q.held c cs at sh r.sound.sets
          r.holds.fact.works.again seg.commands left (g.ahead sp pi at);
    }

-- ---- the segment is answered

answer_going : {S U : Type 0} {m : Meaning S U} {v : Values S U} → Laws m v → (name : List ℕ) (q : Session U) (l : Account) → Repeats name v q l
    → q.core.owed ≡ Nothing → to_run q ≡ [] → IsGoing m v q → Goes m v (with_after m (answered name (seen_of q) q.core) q)
unfolding answered
answer_going {S} {U} {m = m} {v = v} laws name q l r owed none g = go (register_fault (seen_of q) q.core) refl
  where
    j : Core
    j = answered_core (seen_of q) q.core

    answerable : IsAnswerable m v name q.core q.ran q.part q.asking q.held
    answerable = record {
      at = g.at;
      ahead = g.ahead;
      front = r.sound.front owed;
      segment = first_cut q.core.segments r.holds.fact.works.cut;
      up = r.holds.fact.works.up_to;
      none = none;
      sets = r.sound.sets;
      commands = r.holds.fact.works.again;
      done = r.done;
      ended = λ e. ended_works q l r.holds.fact (seen_ended (segment_of q) q.part q.asking ∙ e);
    }

    done : Done j
    done = core_done name (seen_of q) q.core (ended_works q l r.holds.fact) (r.sound.front owed) r.done

    rest : register_fault (seen_of q) q.core ≡ None → Rests m v j q.held
    rest e = record {
      rest = subst (λ st. AtRest v st q.held) (sym (answered_stands (seen_of q) q.core))
          (at_answer laws name q.core q.ran q.part q.asking q.held (r.sound.front owed) r.holds.fact.works.up_to none e g.at);
      led = answered_led laws name q.core q.ran q.part q.asking q.held answerable e;
    }

    go : (fault : Option RegisterFault) → register_fault (seen_of q) q.core ≡ fault
        → Goes m v (with_after m (answered_by name (number_in (first q.core.segments)) fault j) q)
    go (Some why) e = λ end. absurd (none_some end)
    go None e = λ end. going laws q (finished (settled name j)).core
        (if (finished (settled name j)).moved then m.base (finished (settled name j)).core.standing else q.held)
        (q.out ++ (finished (settled name j)).said)
        (settled_rests laws name j q.held done (rest e))

-- ---- the conversation is lost

lost_end : (o : Owed) (k : Core) → (lost_owing o k).end ≡ k.end
lost_end o k = where_lost (λ j. j.end ≡ k.end) o k (λ n e. refl) (λ n e. refl) refl

abbrev CalmGood : {S U : Type 0} → Meaning S U → (S → Type 0) → Core → Type 0
CalmGood {S} m is_shared k = Calm k ((t : S) → is_shared t → AreGood k.typdef (answers m t (m.base k.standing) k.again))

lost_good : {S U : Type 0} (m : Meaning S U) (is_shared : S → Type 0) (o : Owed) (k : Core) → CalmGood m is_shared k → CalmGood m is_shared (lost_owing o k)
lost_good m is_shared o k g = where_lost (CalmGood m is_shared) o k (λ n e sp pi at t ts. tt) (λ n e sp pi at t ts. tt) g

-- SETs leave a session where it stands
sets_stand : {S U : Type 0} {m : Meaning S U} {v : Values S U} → Laws m v → (cs : List Command) (st : Standing) (s : S) (u : U) → st.stage ≡ Accessed
    → v.shared s → v.stands st u → AllByRecursion IsCommand cs → AllByRecursion Set cs → v.stands st (led m s u cs)
unfolding class_of
sets_stand laws [] st s u at sh stood all sets = stood
sets_stand {m = m} {v = v} laws (c ∷ cs) st s u at sh stood all sets =
    sets_stand laws cs st (m.data_after s u (unasked c)) (m.unit_after s u (unasked c)) at
    (laws.data_kept s u c sh (laws.standing_unit st u stood) all.0).0
    (subst (λ (d : Command). v.stands st (m.unit_after s u d)) (sym (passed_is c (ap (λ n. ends_unit (class_of n)) sets.0)))
    (laws.passed st s u c sh stood all.0 at (ap class_of sets.0)))
    all.1 sets.1

led_stand : {S U : Type 0} {m : Meaning S U} {v : Values S U} → Laws m v → (cs : List Command) (st : Standing) (s : S) → (cs ≢ [] → st.stage ≡ Accessed)
    → v.shared s → v.stands st (m.base st) → AllByRecursion IsCommand cs → AllByRecursion Set cs → v.stands st (led m s (m.base st) cs)
led_stand laws [] st s at sh stood all sets = stood
led_stand {m = m} laws (c ∷ cs) st s at sh stood all sets = sets_stand laws (c ∷ cs) st s (m.base st) (at (λ e. cons_nil e)) sh stood all sets

lose_going : {S U : Type 0} {m : Meaning S U} {v : Values S U} → Laws m v → (name : List ℕ) (s : S) (q : Session U) (l : Account) → v.shared s
    → Repeats name v q l → Goes m v q → Goes m v (session_after name m s q Lose)
unfolding lost
lose_going {S} {U} {m = m} {v = v} laws name s q l sh r goes = λ end. record {
  at = at_start laws k u (rest (goes (sym (lost_end q.core.owed q.core) ∙ end))).rest;
  ahead = λ sp pi at. ahead_start m v k.typdef k.standing k.again (first k.segments) u ((rest (goes (sym (lost_end q.core.owed q.core) ∙ end))).led sp pi at);
}
  where
    k : Core
    k = lost q.core

    u : U
    u = led m s (m.base q.core.standing) k.again

    a : Repeats name v (session_after name m s q Lose) (account_after m s q Lose l)
    a = after laws name s q l Lose sh tt r

    same : k.standing ≡ q.core.standing
    same = lost_standing q.core.owed q.core

    rest : IsGoing m v q → Rests m v k u
    rest g = record {
      rest = λ new. subst (λ st. v.stands st u) (sym same) (led_stand laws k.again q.core.standing s
          (λ ne. sym (ap (λ (st : Standing). st.stage) same) ∙ a.done.again ne) sh
          (g.at.base (λ old. new (ap (λ (st : Standing). st.stage) same ∙ old))) a.holds.fact.works.again a.sound.sets);
      led = λ sp pi at. record {
        leads = λ t ts. (comes_same laws name q l r).lost s t sh ts;
        good = lost_good m v.shared q.core.owed q.core (λ sp pi at. (g.ahead sp pi at).good) sp pi at;
      };
    }

-- ---- one event

reading_going : {S U : Type 0} {m : Meaning S U} {v : Values S U} → Laws m v → (name : List ℕ) (reading : Reading) (q : Session U) → q.ran ≡ 0
    → Done q.core → IsGoing m v q → Goes m v (with_after m (begun name reading q.core) q)
unfolding begun
reading_going {m = m} {v = v} laws name (Chain commands) q z done g = λ end.
    let k : Core = record q.core { segments = segments_of commands } in
    let r = rests q z g in
    going laws q (finished (settled name k)).core (if (finished (settled name k)).moved then m.base (finished (settled name k)).core.standing else q.held)
    (q.out ++ (finished (settled name k)).said)
    (settled_rests laws name k q.held (record { again = done.again; spoken = done.spoken; pinned = done.pinned; owed = done.owed })
    (record { rest = r.rest; led = r.led }))
reading_going laws name (Fault place error number) q z done g = λ end. absurd (none_some end)
reading_going laws name (TooLong number) q z done g = λ end. absurd (none_some end)

late_going : {S U : Type 0} {m : Meaning S U} {v : Values S U} (s : S) (n : ℕ) (q : Session U) (u : U) (cs : List Command) → Goes m v q
    → Goes m v (run_late m s n q u cs)
late_going s n q u [] goes = goes
late_going {m = m} {v = v} s n q u (c ∷ cs) goes = λ end. let g = goes end in record { at = g.at; ahead = g.ahead }

sent_going : {S U : Type 0} {m : Meaning S U} {v : Values S U} (q : Session U) → IsGoing m v q → IsGoing m v (record q { core = record q.core { sent = true } })
sent_going q g = record {
  at = record { idle = g.at.idle; asked_up = g.at.asked_up; rest = g.at.rest; base = g.at.base; work = g.at.work; access = g.at.access };
  ahead = g.ahead;
}

accept_going : {S U : Type 0} {m : Meaning S U} {v : Values S U} → Laws m v → (name : List ℕ) (q : Session U) → q.ran ≡ 0 → IsGoing m v q
    → Goes m v (with_after m (accepted name q.core) q)
unfolding accepted
accept_going {m = m} {v = v} laws name q z g = λ end.
    let r = rests q z g in
    going laws q (accepted name q.core).core q.held (q.out ++ (accepted name q.core).said) (record { rest = r.rest; led = r.led })

event_going : {S U : Type 0} {m : Meaning S U} {v : Values S U} → Laws m v → (name : List ℕ) (s : S) (q : Session U) (l : Account)
    (what : What) → v.shared s → Repeats name v q l → Goes m v q → IsPossible q what → Goes m v (session_after name m s q what)
unfolding none_left closed left
event_going laws name s q l (Begin reading) sh r goes may =
    let g = goes may.0 in reading_going laws name reading q (g.at.idle (ap first may.1)) r.done g
event_going laws name s q l Sent sh r goes may = λ end. sent_going q (goes may.live)
event_going laws name s q l Run sh r goes may = λ end. run_going laws name s q l (to_run q) sh r may.0.owed refl (goes may.0.live)
event_going laws name s q l Answer sh r goes may = answer_going laws name q l r may.0.owed may.2 (goes may.0.live)
event_going laws name s q l Lose sh r goes may = lose_going laws name s q l sh r goes
event_going laws name s q l (RunLate n) sh r goes may = late_going s n q (q.in_flight n).held (q.in_flight n).commands goes
event_going laws name s q l Accept sh r goes may =
    accept_going laws name q (r.holds.fact.works.still_none (r.holds.fact.works.owed_sent may.1)).0 (goes may.0.live)
event_going laws name s q l NoneLeft sh r goes may = λ end. absurd (none_some end)
event_going laws name s q l (Close which) sh r goes may = λ end. absurd (none_some end)
event_going laws name s q l (Leave failed) sh r goes may = λ end. absurd (none_some end)

-- ---- all events

succeeds : {S U : Type 0} {m : Meaning S U} {v : Values S U} → Laws m v → (name : List ℕ) (q : Session U) (l : Account) → Repeats name v q l → Goes m v q
    → CanRepeat q.core → Succeeds m v.shared q
succeeds {S} {U} {m = m} {v = v} laws name q l r goes can = record {
  unit = λ z. ((rests q z (goes can.live)).led can.unspoken can.unpinned can.accessed).leads;
  replies = λ ds are s sh.
      ap (λ rs. sets_only q.core.typdef ds (flat_map (λ (r : List Dss). r) rs)) (alike ds are s sh)
      ∙ good_sets q.core.typdef q.core.again ds (answers m s (m.base q.core.standing) q.core.again) r.sound.sets are
      (answers_length m s (m.base q.core.standing) q.core.again) (good s sh);
  no_error = λ ds are s sh.
      ap (λ rs. without_error (flat_map (λ (r : List Dss). r) rs)) (alike ds are s sh)
      ∙ ap not (good_calm q.core.typdef (renumbered_as ds (answers m s (m.base q.core.standing) q.core.again))
      (good_renumbered q.core.typdef ds (answers m s (m.base q.core.standing) q.core.again) (good s sh)));
}
  where
    good : (s : S) → v.shared s → AreGood q.core.typdef (answers m s (m.base q.core.standing) q.core.again)
    good = ((goes can.live).ahead can.unspoken can.unpinned can.accessed).good

    alike : (ds : List Command) → AreSame q.core.again ds → (s : S) → v.shared s
        → answers m s (m.base q.core.standing) ds ≡ renumbered_as ds (answers m s (m.base q.core.standing) q.core.again)
    alike ds are s sh = answered_same laws q.core.again ds s (m.base q.core.standing) sh (laws.base_unit q.core.standing) r.holds.fact.works.again are

record Keeps {S U : Type 0} (name : List ℕ) (m : Meaning S U) (v : Values S U) (q : Session U) (l : Account) : Type 0 where
  pub repeats : Repeats name v q l
  pub goes : Goes m v q

events_succeed : {S U : Type 0} {m : Meaning S U} {v : Values S U} → Laws m v → (name : List ℕ) (es : List Event) (p : State S U)
    (ls : ℕ → Account) → v.shared p.shared → ((i : ℕ) → Keeps name m v (p.session i) (ls i)) → ArePossible name m p es → (i : ℕ)
    → CanRepeat ((plain name m p es).session i).core → Succeeds m v.shared ((plain name m p es).session i)
events_succeed laws name [] p ls sh all may i can = succeeds laws name (p.session i) (ls i) (all i).repeats (all i).goes can
events_succeed {U = U} {m = m} {v = v} laws name (e ∷ es) p ls sh all may i can =
    let q = p.session e.session in
    let l = ls e.session in
    let r = (all e.session).repeats in
    let q2 : Session U = session_after name m p.shared q e.what in
    let l2 : Account = account_after m p.shared q e.what l in
    events_succeed laws name es (after_event name m p e) (put ls e.session l2)
    (data_kept laws p.shared q l e.what sh r.holds.values r.holds.fact)
    (λ j. put_holds p.session e.session q2 (λ k z. Keeps name m v z (put ls e.session l2 k))
    (subst (λ a. Keeps name m v q2 a) (sym (put_same ls e.session l2)) (record {
      repeats = after laws name p.shared q l e.what sh may.0 r;
      goes = event_going laws name p.shared q l e.what sh r (all e.session).goes may.0;
    }))
    (λ k ne. subst (λ a. Keeps name m v (p.session k) a) (sym (put_other ls e.session l2 k ne)) (all k)) j)
    may.1 i can

start_going : {S U : Type 0} {m : Meaning S U} {v : Values S U} → Laws m v → Goes m v (new_session m)
start_going {m = m} laws = λ end. record {
  at = at_start laws new_core (m.base attached) (λ new. absurd (new refl));
  ahead = λ sp pi at. absurd (new_accessed at);
}
  where
    new_accessed : New ≡ Accessed → ⊥
    new_accessed e = cc

pub each_repeat_succeeds : {S U : Type 0} {m : Meaning S U} {v : Values S U} → Laws m v → (name : List ℕ) → EachRepeatSucceeds name m v.shared
each_repeat_succeeds {m = m} {v = v} laws name s sh es may i can =
    events_succeed laws name es (start m s) (λ k. new_account) sh
    (λ k. record { repeats = start_repeats laws name; goes = start_going laws }) may i can
