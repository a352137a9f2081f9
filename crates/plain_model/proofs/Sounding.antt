-- The core of every session stays sound.
use Rattle.std.proofs.Common.{◌≡◌, ℕ, ◌==◌, ◌&&◌, not, true, false, if◌then◌else◌, List, [], ◌∷◌, ◌++◌, Option, Some, None, ap, sym, refl}
use Rattle.std.proofs.Common.{subst, ◌∙◌, true≢false, eqb-true}
use Rattle.std.proofs.lemmas.Bool.{cond_both}
use Rattle.std.specs.List.{AllByRecursion}
use Rattle.dss_frame.specs.declared.dss.Dss.{Dss}
use Rattle.ddm_codepoints.specs.declared.typdef.TypDef.{TypDef}
use Rattle.ddm_codepoints.specs.CodePoint.{excsqlset}
use Rattle.unit_segments.specs.declared.command.Command.{Command}
use Rattle.unit_segments.specs.declared.registers.RegisterFault.{RegisterFault}
use Rattle.unit_segments.specs.declared.stripped.Stripped.{Stripped}
use Rattle.unit_segments.specs.Segment.{segments_of}
use Rattle.unit_segments.specs.Spelling.{chain_bytes}
use Rattle.unit_segments.specs.Accepts.{sets_only, is_good_card}
use Rattle.plain_model.specs.Group.{Meaning, Set}
use Rattle.plain_model.specs.Local.{Locally, is_local, answered_locally}
use Rattle.plain_model.specs.Core.{Core, Owed, Nothing, Rerouted, Unknown, Settled, first, number_in, still, moved_too, with_local, settle_by}
use Rattle.plain_model.specs.Core.{settle_segments, settle_owed, settled, finish_by, finished, new_core}
use Rattle.plain_model.specs.Begun.{Reading, Chain, Fault, TooLong, begun}
use Rattle.plain_model.specs.Answered.{fit, without_error, joins_again, with_work, with_end, is_work, unit_after, answered_core, answered_by}
use Rattle.plain_model.specs.Answered.{register_fault, answered}
use Rattle.plain_model.specs.Lost.{owes, lost_owing, lost, accepted, none_left, closed, left}
use Rattle.plain_model.specs.Plain.{Session, State, Event, What, Begin, Sent, Run, Answer, Lose, RunLate, Accept, NoneLeft, Close, Leave, IsPossible}
use Rattle.plain_model.specs.Plain.{ArePossible, seen_of, to_run, run_first, run_late, session_after, after_event, start, plain}
use Rattle.plain_model.specs.Sound.{IsSound, EachCoreIsSound}
use Rattle.plain_model.proofs.Puts.{put_holds}
use Rattle.plain_model.proofs.Replies.{all_append}
use Rattle.plain_model.proofs.Runs.{and_true}
use Rattle.plain_model.proofs.Cores.{settled_finished, after_unit, where_lost}

-- ---- the front

abbrev IsFront : List ℕ → Core → Type 0
IsFront name k = is_local name k.standing (first k.segments) ≡ false

front_by : (name : List ℕ) (answer : Locally) (left : List (List Command)) (k : Core) (next : Core → Settled) → ((j : Core) → j.segments ≡ left
    → IsFront name (next j).core)
    → IsFront name (settle_by answer left k next).core
front_by name answer left k next holds = cond_both answer.stopped (record { core = with_local answer [] k; moved = answer.moved })
    (moved_too answer.moved (next (with_local answer left k))) (λ s. IsFront name s.core)
    (λ e. refl) (λ e. holds (with_local answer left k) refl)

segments_front : (name : List ℕ) (gs : List (List Command)) (k : Core) → k.segments ≡ gs → IsFront name (settle_segments name gs k).core
unfolding settle_segments
segments_front name [] k e = ap (λ gs. is_local name k.standing (first gs)) e
segments_front name (g ∷ gs) k e = cond_both (is_local name k.standing g) (settle_by (answered_locally name g k.standing) gs k
    (settle_segments name gs)) (still k) (λ s. IsFront name s.core)
    (λ f. front_by name (answered_locally name g k.standing) gs k (settle_segments name gs) (segments_front name gs))
    (λ f. ap (λ hs. is_local name k.standing (first hs)) e ∙ f)

owed_front : (name : List ℕ) (o : Owed) (k : Core) → o ≡ Nothing → IsFront name (settle_owed name o k).core
owed_front name Nothing k e = segments_front name k.segments k refl
owed_front name Rerouted k e = absurd (isnt e)
  where
    isnt : Rerouted ≡ Nothing → ⊥
    isnt f = cc
owed_front name Unknown k e = absurd (isnt e)
  where
    isnt : Unknown ≡ Nothing → ⊥
    isnt f = cc

finished_front : (name : List ℕ) (s : Settled) → IsFront name s.core → IsFront name (finished s).core
finished_front name s f = go s.core.segments
  where
    go : (gs : List (List Command)) → IsFront name (finish_by gs s.moved s.core).core
    go [] = f
    go (g ∷ gs) = f

-- ---- what runs again

pub sets_are : (typ : TypDef) (cs : List Command) (replies : List Dss) → sets_only typ cs replies ≡ true → AllByRecursion Set cs
unfolding sets_only
sets_are typ [] [] e = tt
sets_are typ [] (d ∷ replies) e = tt
sets_are typ (c ∷ cs) [] e = absurd (true≢false (sym e))
sets_are typ (c ∷ cs) (d ∷ replies) e =
    let head = and_true (c.code == excsqlset) (d.corr == c.corr && (is_good_card typ d && sets_only typ cs replies)) e in
    let number = and_true (d.corr == c.corr) (is_good_card typ d && sets_only typ cs replies) head.1 in
    let card = and_true (is_good_card typ d) (sets_only typ cs replies) number.1 in
    (eqb-true c.code excsqlset head.0, sets_are typ cs replies card.1)

none_fit : fit [] ≡ true
unfolding chain_bytes
none_fit = refl

pub record RunsAgain (k : Core) : Type 0 where
  pub sets : AllByRecursion Set k.again
  pub fits : fit k.again ≡ true

nothing_again : (k : Core) → k.again ≡ [] → RunsAgain k
nothing_again k e = record { sets = subst (AllByRecursion Set) (sym e) tt; fits = ap fit e ∙ none_fit }

work_again : (r : Stripped) (k : Core) → RunsAgain k → RunsAgain (with_work r k)
work_again r k a = cond_both {A = Core} (joins_again r.replies k) (record k { again = k.again ++ first k.segments }) (record k { spoken = true }) RunsAgain
    (λ e. let well = and_true (without_error r.replies)
    (sets_only k.typdef (first k.segments) r.replies && (not k.spoken && fit (k.again ++ first k.segments))) e in
    let both = and_true (sets_only k.typdef (first k.segments) r.replies) (not k.spoken && fit (k.again ++ first k.segments)) well.1 in record {
      sets = all_append Set k.again (first k.segments) a.sets (sets_are k.typdef (first k.segments) r.replies both.0);
      fits = (and_true (not k.spoken) (fit (k.again ++ first k.segments)) both.1).1;
    })
    (λ e. record { sets = a.sets; fits = a.fits })

answered_again : (r : Stripped) (k : Core) → RunsAgain k → RunsAgain (unit_after r k)
answered_again r k a = cond_both {A = Core} r.ended (with_end r k) (if is_work (first k.segments) then with_work r k else k) RunsAgain
    (λ e. nothing_again (with_end r k) refl)
    (λ e. cond_both {A = Core} (is_work (first k.segments)) (with_work r k) k RunsAgain (λ f. work_again r k a) (λ f. a))

-- ---- one event

begin_sound : (name : List ℕ) (reading : Reading) (k : Core) → IsSound name k → IsSound name (begun name reading k).core
unfolding begun
begin_sound name (Chain commands) k s =
    let k2 : Core = record k { segments = segments_of commands } in
    let same = settled_finished name k2 in
    let j : Core = (finished (settled name k2)).core in
    record {
      sets = subst (AllByRecursion Set) (sym same.again) s.sets;
      fits = ap fit same.again ∙ s.fits;
      emptied = λ ne. let e = s.emptied (λ o. ne (same.owed ∙ o)) in record {
        again = same.again ∙ e.again;
        spoken = same.spoken
            ∙ e.spoken;
        pinned = same.pinned ∙ e.pinned;
        sent = same.sent ∙ e.sent;
      };
      front = λ o. finished_front name (settled name k2) (owed_front name k.owed k2 (sym same.owed ∙ o));
    }
begin_sound name (Fault place error number) k s = record {
  sets = s.sets;
  fits = s.fits;
  emptied = λ ne. let e = s.emptied ne in record { again = e.again; spoken = e.spoken; pinned = e.pinned; sent = e.sent };
  front = s.front;
}
begin_sound name (TooLong number) k s = record {
  sets = s.sets;
  fits = s.fits;
  emptied = λ ne. let e = s.emptied ne in record {
    again = e.again;
    spoken = e.spoken;
    pinned = e.pinned;
    sent = e.sent;
  };
  front = s.front;
}

answer_sound : (name : List ℕ) (r : Stripped) (k : Core) → IsSound name k → k.owed ≡ Nothing → IsSound name (answered name r k).core
unfolding answered
answer_sound name r k s owed = go (register_fault r k)
  where
    j : Core
    j = answered_core r k

    a : RunsAgain (unit_after r k)
    a = answered_again r k (record { sets = s.sets; fits = s.fits })

    nothing : j.owed ≡ Nothing
    nothing = (after_unit r k).owed ∙ owed

    go : (fault : Option RegisterFault) → IsSound name (answered_by name (number_in (first k.segments)) fault j).core
    go None =
        let same = settled_finished name j in
        record {
          sets = subst (AllByRecursion Set) (sym same.again) a.sets;
          fits = ap fit same.again ∙ a.fits;
          emptied = λ ne. absurd (ne (same.owed ∙ nothing));
          front = λ o. finished_front name (settled name j) (owed_front name j.owed j nothing);
        }
    go (Some why) = record { sets = a.sets; fits = a.fits; emptied = λ ne. absurd (ne nothing); front = λ o. refl }

owes_sound : (name : List ℕ) (o : Owed) (k : Core) → (o ≡ Nothing → ⊥) → IsSound name (owes o k)
owes_sound name o k isnt = record {
  sets = tt;
  fits = none_fit;
  emptied = λ ne. record { again = refl; spoken = refl; pinned = refl; sent = refl };
  front = λ e. absurd (isnt e);
}

calm_sound : (name : List ℕ) (k : Core) → IsSound name k → IsSound name (record k { sent = false })
calm_sound name k s = record {
  sets = s.sets;
  fits = s.fits;
  emptied = λ ne. let e = s.emptied ne in record {
    again = e.again;
    spoken = e.spoken;
    pinned = e.pinned;
    sent = refl;
  };
  front = s.front;
}

lost_sound_owing : (name : List ℕ) (o : Owed) (k : Core) → IsSound name k → IsSound name (lost_owing o k)
lost_sound_owing name o k s = where_lost (IsSound name) o k (λ n e. owes_sound name Unknown k unknown)
    (λ n e. owes_sound name Rerouted k rerouted) (calm_sound name k s)
  where
    unknown : Unknown ≡ Nothing → ⊥
    unknown e = cc

    rerouted : Rerouted ≡ Nothing → ⊥
    rerouted e = cc

lost_sound : (name : List ℕ) (k : Core) → IsSound name k → IsSound name (lost k)
unfolding lost
lost_sound name k s = lost_sound_owing name k.owed k s

accept_sound : (name : List ℕ) (k : Core) → IsSound name k → IsSound name (accepted name k).core
unfolding accepted
accept_sound name k s = record { sets = s.sets; fits = s.fits; emptied = λ ne. absurd (ne refl); front = λ o. refl }

run_sound : {S U : Type 0} (name : List ℕ) (m : Meaning S U) (s : S) (q : Session U) (cs : List Command) → IsSound name q.core
    → IsSound name (run_first m s q cs).core
run_sound name m s q [] sound = sound
run_sound name m s q (c ∷ cs) sound = sound

late_sound : {S U : Type 0} (name : List ℕ) (m : Meaning S U) (s : S) (n : ℕ) (q : Session U) (u : U) (cs : List Command) → IsSound name q.core
    → IsSound name (run_late m s n q u cs).core
late_sound name m s n q u [] sound = sound
late_sound name m s n q u (c ∷ cs) sound = sound

ended_sound : (name : List ℕ) (k j : Core) → IsSound name k → j.again ≡ k.again → j.owed ≡ k.owed → j.spoken ≡ k.spoken → j.pinned ≡ k.pinned
    → j.sent ≡ k.sent → j.segments ≡ k.segments → j.standing ≡ k.standing → IsSound name j
ended_sound name k j s ea eo es ep et eg est = record {
  sets = subst (AllByRecursion Set) (sym ea) s.sets;
  fits = ap fit ea ∙ s.fits;
  emptied = λ ne. let e = s.emptied (λ o. ne (eo ∙ o)) in record { again = ea ∙ e.again; spoken = es ∙ e.spoken; pinned = ep ∙ e.pinned; sent = et ∙ e.sent };
  front = λ o. ap (λ gs. is_local name j.standing (first gs)) eg ∙ ap (λ st. is_local name st (first k.segments)) est ∙ s.front (sym eo ∙ o);
}

pub event_sound : {S U : Type 0} (name : List ℕ) (m : Meaning S U) (s : S) (q : Session U) (what : What) → IsSound name q.core → IsPossible q what
    → IsSound name (session_after name m s q what).core
unfolding none_left closed left
event_sound name m s q (Begin reading) sound may = begin_sound name reading q.core sound
event_sound name m s q Sent sound may = record { sets = sound.sets; fits = sound.fits; emptied = λ ne. absurd (ne may.owed); front = sound.front }
event_sound name m s q Run sound may = run_sound name m s q (to_run q) sound
event_sound name m s q Answer sound may = answer_sound name (seen_of q) q.core sound may.0.owed
event_sound name m s q Lose sound may = lost_sound name q.core sound
event_sound name m s q (RunLate n) sound may = late_sound name m s n q (q.in_flight n).held (q.in_flight n).commands sound
event_sound name m s q Accept sound may = accept_sound name q.core sound
event_sound name m s q NoneLeft sound may = ended_sound name q.core (none_left name q.core).core sound refl refl refl refl refl refl refl
event_sound name m s q (Close which) sound may = ended_sound name q.core (closed which q.core).core sound refl refl refl refl refl refl refl
event_sound name m s q (Leave failed) sound may = ended_sound name q.core (left failed q.core) sound refl refl refl refl refl refl refl

-- ---- all events

events_sound : {S U : Type 0} (name : List ℕ) (m : Meaning S U) (es : List Event) (p : State S U) → ((i : ℕ) → IsSound name (p.session i).core)
    → ArePossible name m p es → (i : ℕ) → IsSound name ((plain name m p es).session i).core
events_sound name m [] p sound may i = sound i
events_sound {U = U} name m (e ∷ es) p sound may i =
    events_sound name m es (after_event name m p e)
    (put_holds p.session e.session (session_after name m p.shared (p.session e.session) e.what) (λ k (q : Session U). IsSound name q.core)
    (event_sound name m p.shared (p.session e.session) e.what (sound e.session) may.0) (λ k ne. sound k))
    may.1 i

pub start_sound : (name : List ℕ) → IsSound name new_core
start_sound name = record { sets = tt; fits = none_fit; emptied = λ ne. absurd (ne refl); front = λ o. refl }

pub each_core_is_sound : {S U : Type 0} (name : List ℕ) (m : Meaning S U) → EachCoreIsSound name m
each_core_is_sound name m s es may i = events_sound name m es (start m s) (λ k. start_sound name) may i
