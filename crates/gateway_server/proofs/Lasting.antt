-- Where a session's application ends it, the counts of its link tell it.
use Rattle.std.proofs.Common.{◌≡◌, ◌<◌, ◌≤◌, ◌⊎◌, inl, inr, ℕ, zero, suc, Bool, true, false, not, ◌||◌, cond, List, [], ◌∷◌, ◌++◌, length, nat_lt, nat_eq, ◌&&◌, Option, Some, None, Result, Ok, Err}
use Rattle.std.proofs.Common.{refl, sym, ap, subst, ◌∙◌, arith}
use Rattle.std.proofs.lemmas.Bool.{lt-ltb}
use Rattle.std.proofs.lemmas.Bool.Decides.{nat_tests}
use Rattle.link_ends.specs.declared.source.Failed.{Failed}
use Rattle.link_ends.specs.Counts.{one_more, counted, Rose}
use Rattle.link_ends.specs.Link.{LinkState, IsHeard, IsSaid}
use Rattle.link_ends.specs.Source.{SourceState}
use Rattle.link_ends.specs.Doors.{DialState}
use Rattle.transport_pool.specs.Grants.{Resting}
use Rattle.transport_pool.specs.declared.terms.Terms.{Terms}
use Rattle.transport_pool.specs.declared.lend.Lend.{Lend as Lends}
use Rattle.unit_segments.specs.declared.command.Command.{Command}
use Rattle.plain_model.specs.Core as core
use Rattle.requester_core.specs.Talk.{Talking, to_send}
use Rattle.gateway_session.specs.declared.held.Held.{Held}
use Rattle.plain_model.specs.Lost.{end_or, app_end}
use Rattle.gateway_session.specs.declared.need.End.{End}
use Rattle.gateway_session.specs.declared.need.End.TheVariants as end
use Rattle.gateway_session.specs.declared.need.Need.{Need}
use Rattle.gateway_session.specs.declared.need.Need.TheVariants as need
use Rattle.gateway_session.specs.Session as session
use Rattle.gateway_session.specs.Session.{Session, need_ended, need_by_end, need_by_saying, need_by_work, need_by_held, need_by_talk, need_by_chain, is_released, end_of, uncounted, new_session}
use Rattle.gateway_session.specs.Steps.{after_app_end}
use Rattle.gateway_session.specs.Memory.{State, Runs, Closes, Closing, need_in, to_say_in, to_send_in, front_of, closing_with}
use Rattle.gateway_session.specs.Inputs.{Input, App, Lend, Dialled, Sent, Back, Given, Said, Lose, AppEnd, after_input, unsaid}
use Rattle.gateway_server.specs.declared.lease.Lease.{Lease}
use Rattle.gateway_server.specs.declared.lease.Lease.TheVariants as lease
use Rattle.gateway_server.specs.declared.event.Event.{Event}
use Rattle.gateway_server.specs.declared.event.Event.TheVariants as event
use Rattle.gateway_server.specs.Events.{input_of, event_heard, event_said, event_sent, event_back, event_dialled}
use Rattle.gateway_server.specs.Feeding.{after_turn}
use Rattle.gateway_server.specs.Leaving.{is_left, is_gone}
use Rattle.gateway_server.specs.Turned.{is_done, Dials, Sends, Reads, Gives, Calls}
use Rattle.gateway_server.specs.Went.{left_in}
use Rattle.gateway_server.specs.Leases.{lent_of}
use Rattle.gateway_server.specs.Served.{IsNew}
use Rattle.gateway_server.specs.Lasting.{Lasts, LeftBy}
use Rattle.gateway_server.proofs.Saying.{Seen, seen, is_app_end, input_goes, app_end_says, app_end_ends, app_end_gone}
use Rattle.gateway_server.proofs.Telling.{goes_on, stops, closes_on}
use Rattle.gateway_server.proofs.Unasked.{list_needs}

-- ---- a session that its application ended

-- the application has gone, where it ended the session
abbrev pub IsGone : State → Type 0
IsGone (Runs s) = is_left s.core.end ≡ true → s.gone ≡ true
IsGone (Closes closing) = Unit {0}

pub gone_from : (state : State) → is_gone state ≡ true → IsGone state
gone_from (Runs s) h = by (is_left s.core.end) s.gone h
  where
    by : (l g : Bool) → (not l || g) ≡ true → l ≡ true → g ≡ true
    by true g h e = h
    by false g h e = absurd cc
gone_from (Closes closing) h = tt

gone_to : (state : State) → IsGone state → is_gone state ≡ true
gone_to (Runs s) h = by (is_left s.core.end) s.gone h
  where
    by : (l g : Bool) → (l ≡ true → g ≡ true) → (not l || g) ≡ true
    by true g h = h refl
    by false g h = refl
gone_to (Closes closing) h = refl

abbrev ends_left : End → Bool
ends_left end.AppEnded = true
ends_left end.AppFault = true
ends_left _ = false

abbrev needs_left : Need → Bool
needs_left (need.Done e) = ends_left e
needs_left _ = false

end_left : (tried : ℕ) (e : core.End) → ends_left (end_of tried e) ≡ is_left (Some e)
end_left tried core.AppEnded = refl
end_left tried core.AppFault = refl
end_left tried (core.Refused place) = refl
end_left tried core.NoMember = refl
end_left tried (core.Limit kind) = refl

-- what it needs is nothing, once it has ended so and nobody is there
ended_gone : (e : End) (bytes : List ℕ) → is_done (need_ended e bytes true) ≡ true
ended_gone e [] = refl
ended_gone e (byte ∷ bytes) = refl

ended_left : (e : End) (bytes : List ℕ) (gone : Bool) → needs_left (need_ended e bytes gone) ≡ true → ends_left e ≡ true
ended_left e [] gone h = h
ended_left e (byte ∷ bytes) true h = h
ended_left e (byte ∷ bytes) false h = absurd cc

held_left : (held : Option Held) → needs_left (need_by_held held) ≡ true → ⊥
held_left None h = absurd cc
held_left (Some held) h = talk_left held.talk h
  where
    chain_left : (bytes : List ℕ) → needs_left (need_by_chain bytes) ≡ true → ⊥
    chain_left [] h = absurd cc
    chain_left (byte ∷ bytes) h = absurd cc

    talk_left : (talk : Option Talking) → needs_left (need_by_talk talk) ≡ true → ⊥
    talk_left None h = absurd cc
    talk_left (Some talking) h = chain_left (to_send talking) h

work_left : (segments : List (List Command)) (held : Option Held) → needs_left (need_by_work segments held) ≡ true → ⊥
work_left [] held h = absurd cc
work_left (segment ∷ segments) held h = held_left held h

saying_left : (bytes : List ℕ) (s : Session) → needs_left (need_by_saying bytes s) ≡ true → ⊥
saying_left [] s h = work_left s.core.segments s.held h
saying_left (byte ∷ bytes) s h = absurd cc

going_left : (b : Bool) (s : Session) → needs_left (cond b need.Give (need_by_saying s.to_say s)) ≡ true → ⊥
going_left true s h = absurd cc
going_left false s h = saying_left s.to_say s h

end_needs : (e : Option core.End) (s : Session) → needs_left (need_by_end e s) ≡ true → is_left e ≡ true
end_needs None s h = absurd (going_left (is_released s.held) s h)
end_needs (Some e) s h = sym (end_left s.tries.tried e) ∙ ended_left (end_of s.tries.tried e) s.to_say s.gone h

runs_left : (s : Session) → needs_left (session.need s) ≡ true → is_left s.core.end ≡ true
unfolding session.need
runs_left s h = end_needs s.core.end s h

gone_by : (e : Option core.End) (s : Session) → is_left e ≡ true → s.gone ≡ true → is_done (need_by_end e s) ≡ true
gone_by None s h g = absurd cc
gone_by (Some e) s h g =
    ap (λ (gone : Bool). is_done (need_ended (end_of s.tries.tried e) s.to_say gone)) g ∙ ended_gone (end_of s.tries.tried e) s.to_say

gone_done : (s : Session) → is_left s.core.end ≡ true → s.gone ≡ true → is_done (session.need s) ≡ true
unfolding session.need
gone_done s h g = gone_by s.core.end s h g

-- one that needs something wasn't ended so
still_there : (s : Session) → IsGone (Runs s) → is_done (session.need s) ≡ false → is_left s.core.end ≡ false
still_there s gone going = by (is_left s.core.end) refl
  where
    by : (b : Bool) → is_left s.core.end ≡ b → is_left s.core.end ≡ false
    by false e = e
    by true e = absurd (let done : is_done (session.need s) ≡ true = gone_done s e (gone e) in cc)

-- ---- inputs

closing_left : (c : Closing) → needs_left (need_in (Closes c)) ≡ true → ⊥
closing_left c h = absurd (let other : ends_left end.NoMemory ≡ true = ended_left end.NoMemory (c.rest ++ c.reply) c.gone h in cc)

closed_left : (c : Closing) (state : State) → state ≡ Closes c → needs_left (need_in state) ≡ true → ⊥
closed_left c state e h = closing_left c (ap (λ (x : State). needs_left (need_in x)) (sym e) ∙ h)

-- a session that goes on is ended so by its application's end alone
keeps_there : (i : Input) (s next : Session) → is_app_end i ≡ false → seen next ≡ seen (after_input i s) → is_left next.core.end ≡ true
    → is_left s.core.end ≡ true
keeps_there i s next other same h = (input_goes i s other).there (ap (λ (x : Seen). is_left x.end) (sym same) ∙ h)

runs_app_end : (i : Input) (s : Session) → IsGone (Runs s) → is_done (session.need s) ≡ false
    → needs_left (need_in (after_turn true i (Runs s))) ≡ true → is_app_end i ≡ true
runs_app_end i s gone going h = by (is_app_end i) refl
  where
    by : (b : Bool) → is_app_end i ≡ b → is_app_end i ≡ true
    by true e = e
    by false e = absurd (
        let step = goes_on i s in
        let needs : needs_left (session.need step.next) ≡ true = ap (λ (x : State). needs_left (need_in x)) (sym step.is) ∙ h in
        let there : is_left s.core.end ≡ true = keeps_there i s step.next e step.same (runs_left step.next needs) in
        let not : is_left s.core.end ≡ false = still_there s gone going in cc)

pub by_app_end : (m : Bool) (i : Input) (state : State) → IsGone state → is_done (need_in state) ≡ false
    → needs_left (need_in (after_turn m i state)) ≡ true → is_app_end i ≡ true
by_app_end true i (Runs s) gone going h = runs_app_end i s gone going h
by_app_end false i (Runs s) gone going h = absurd (closed_left (closing_with (unsaid i s) s) (after_turn false i (Runs s)) (stops i s) h)
by_app_end m i (Closes c) gone going h =
    let step = closes_on m i c in absurd (closed_left step.next (after_turn m i (Closes c)) step.is h)

-- ---- the application's end

abbrev is_fault : End → Bool
is_fault end.AppFault = true
is_fault _ = false

app_end_is : (tried : ℕ) (before : Option core.End) (failed : Bool) → is_left before ≡ false → is_left (Some (end_or before (app_end failed))) ≡ true
    → end_of tried (end_or before (app_end failed)) ≡ end_of tried (app_end failed)
app_end_is tried None failed other h = refl
app_end_is tried (Some e) failed other h = absurd (let same : is_left (Some e) ≡ true = h in cc)

fault_is : (tried : ℕ) (failed : Bool) → is_fault (end_of tried (app_end failed)) ≡ failed
fault_is tried true = refl
fault_is tried false = refl

abbrev needed_end : Need → End
needed_end (need.Done e) = e
needed_end _ = end.NoMemory

ended_is : (e : Option core.End) (x : core.End) (s : Session) → e ≡ Some x → s.gone ≡ true → need_by_end e s ≡ need.Done (end_of s.tries.tried x)
ended_is None x s same g = absurd cc
ended_is (Some y) x s same g = by s.to_say s.gone g ∙ ap (λ (o : core.End). need.Done (end_of s.tries.tried o)) (some_is y x same)
  where
    some_is : (y x : core.End) → Some y ≡ Some x → y ≡ x
    some_is y x e = cc

    by : (bytes : List ℕ) (gone : Bool) → gone ≡ true → need_ended (end_of s.tries.tried y) bytes gone ≡ need.Done (end_of s.tries.tried y)
    by [] gone g = refl
    by (byte ∷ bytes) true g = refl
    by (byte ∷ bytes) false g = absurd cc

need_is : (s : Session) (x : core.End) → s.core.end ≡ Some x → s.gone ≡ true → session.need s ≡ need.Done (end_of s.tries.tried x)
unfolding session.need
need_is s x e g = ended_is s.core.end x s e g

-- by which it ends
runs_failed : (failed : Bool) (s : Session) (e : End) → is_left s.core.end ≡ false → session.need (uncounted (after_app_end failed s)) ≡ need.Done e
    → ends_left e ≡ true → is_fault e ≡ failed
runs_failed failed s e there ended left_so =
    let new : Session = uncounted (after_app_end failed s) in
    let x = end_or s.core.end (app_end failed) in
    let is : session.need new ≡ need.Done (end_of new.tries.tried x) = need_is new x (app_end_ends failed s) (app_end_gone failed s) in
    let same : e ≡ end_of new.tries.tried x = ap needed_end (sym ended ∙ is) in
    let left_x : is_left (Some x) ≡ true = sym (end_left new.tries.tried x) ∙ ap ends_left (sym same) ∙ left_so in
    ap is_fault (same ∙ app_end_is new.tries.tried s.core.end failed there left_x) ∙ fault_is new.tries.tried failed

-- what is left to be said then is what was before
app_end_left : (failed : Bool) (s : Session) → left_in (after_turn true (AppEnd failed) (Runs s)) ≡ s.to_say
app_end_left failed s = app_end_says failed s

list_needed : (failed : Bool) (s : Session) → need_in (after_turn true (AppEnd failed) (Runs s)) ≡ session.need (uncounted (after_app_end failed s))
list_needed failed s = list_needs (Runs (uncounted (after_app_end failed s)))

-- ---- what the call that was made tells of the link

pub record Tells (old now : LinkState) (e : Event) (n : Need) : Type 0 where
  pub lasts : Lasts old now
  pub ended : e ≡ event.End false → (Rose old.ends now.ends × (n ≡ need.App)) ⊎ Rose old.stuck now.stuck
  pub fault : e ≡ event.End true → Rose old.faults now.faults

pub lasts_itself : (l : LinkState) → Lasts l l
lasts_itself l = record { faults = omega arith; ends = omega arith; stuck = omega arith }

abbrev quiet_end : Event → Bool
quiet_end (event.End failed) = false
quiet_end _ = true

tells_nothing : (old now : LinkState) (e : Event) (n : Need) → now ≡ old → quiet_end e ≡ true → Tells old now e n
tells_nothing old now e n same quiet =
    subst (λ (l : LinkState). Tells old l e n) (sym same) (record {
      lasts = lasts_itself old;
      ended = λ is. absurd (let other : quiet_end e ≡ false = ap quiet_end is in cc);
      fault = λ is. absurd (let other : quiet_end e ≡ false = ap quiet_end is in cc);
    })

some_room : (n : ℕ) → 0 < n → nat_lt 0 n ≡ true
some_room n h = lt-ltb 0 n h

one_later : (n : ℕ) → one_more n ≤ one_more (one_more n)
one_later n = omega arith

rose_once : (n : ℕ) → Rose n (one_more n)
rose_once n = record { reached = omega arith }

-- a read of the application's link

module _ (old now : LinkState) (before bytes : List ℕ) where
  heard_some : (count : ℕ) → IsHeard (Ok count) old now before bytes → 0 < length before → Tells old now (event_heard {F = Failed} (Ok count)) need.App
  heard_some zero h room =
      let source = h.read.after in
      let faults : now.faults ≡ old.faults = ap (λ (x : SourceState). x.faults) source in
      let ends : now.ends ≡ counted (nat_lt 0 (length before)) old.ends = ap (λ (x : SourceState). x.ends) source in
      let rises : now.ends ≡ one_more old.ends = ends ∙ ap (λ (b : Bool). counted b old.ends) (some_room (length before) room) in
      let stuck : now.stuck ≡ old.stuck = ap (λ (l : LinkState). l.stuck) h.after in
      record {
        lasts = record { faults = omega arith; ends = subst (λ (n : ℕ). one_more old.ends ≤ one_more n) (sym rises) (one_later old.ends); stuck = omega arith };
        ended = λ is. inl (subst (Rose old.ends) (sym rises) (rose_once old.ends), refl);
        fault = λ is. absurd cc;
      }
  heard_some (suc n) h room =
      let source = h.read.after in
      let some : nat_eq (suc n) 0 ≡ false = grind (arith, nat_tests) in
      let faults : now.faults ≡ old.faults = ap (λ (x : SourceState). x.faults) source in
      let ends : now.ends ≡ old.ends =
      ap (λ (x : SourceState). x.ends) source ∙ ap (λ (b : Bool). counted (b && nat_lt 0 (length before)) old.ends) some in
      let stuck : now.stuck ≡ old.stuck = ap (λ (l : LinkState). l.stuck) h.after in
      record {
        lasts = record { faults = omega arith; ends = omega arith; stuck = omega arith };
        ended = λ is. absurd cc;
        fault = λ is. absurd cc;
      }

  heard_none : (failed : Failed) → IsHeard (Err failed) old now before bytes → Tells old now (event_heard {F = Failed} (Err failed)) need.App
  heard_none failed h =
      let faults : now.faults ≡ one_more old.faults = ap (λ (l : LinkState). l.faults) h.after in
      let ends : now.ends ≡ old.ends = ap (λ (l : LinkState). l.ends) h.after in
      let stuck : now.stuck ≡ old.stuck = ap (λ (l : LinkState). l.stuck) h.after in
      record {
        lasts =
            record {
              faults = subst (λ (n : ℕ). one_more old.faults ≤ one_more n) (sym faults) (one_later old.faults);
              ends = omega arith;
              stuck = omega arith;
            };
        ended = λ is. absurd cc;
        fault = λ is. subst (Rose old.faults) (sym faults) (rose_once old.faults);
      }

  heard_tells : (r : Result ℕ Failed) → IsHeard r old now before bytes → 0 < length before → Tells old now (event_heard r) need.App
  heard_tells (Ok count) h room = heard_some count h room
  heard_tells (Err failed) h room = heard_none failed h

-- a write to it

module _ (old now : LinkState) (piece : List ℕ) where
  said_some : (count : ℕ) → IsSaid (Ok count) old now piece → 0 < length piece → Tells old now (event_said {F = Failed} (Ok count)) need.Say
  said_some zero h some =
      let faults : now.faults ≡ old.faults = ap (λ (l : LinkState). l.faults) h.after in
      let ends : now.ends ≡ old.ends = ap (λ (l : LinkState). l.ends) h.after in
      let stuck : now.stuck ≡ counted (nat_lt 0 (length piece)) old.stuck = ap (λ (l : LinkState). l.stuck) h.after in
      let rises : now.stuck ≡ one_more old.stuck = stuck ∙ ap (λ (b : Bool). counted b old.stuck) (some_room (length piece) some) in
      record {
        lasts =
            record {
              faults = omega arith;
              ends = omega arith;
              stuck = subst (λ (n : ℕ). one_more old.stuck ≤ one_more n) (sym rises) (one_later old.stuck);
            };
        ended = λ is. inr (subst (Rose old.stuck) (sym rises) (rose_once old.stuck));
        fault = λ is. absurd cc;
      }
  said_some (suc n) h some =
      let moved : nat_eq (suc n) 0 ≡ false = grind (arith, nat_tests) in
      let faults : now.faults ≡ old.faults = ap (λ (l : LinkState). l.faults) h.after in
      let ends : now.ends ≡ old.ends = ap (λ (l : LinkState). l.ends) h.after in
      let stuck : now.stuck ≡ old.stuck =
      ap (λ (l : LinkState). l.stuck) h.after ∙ ap (λ (b : Bool). counted (b && nat_lt 0 (length piece)) old.stuck) moved in
      record {
        lasts = record { faults = omega arith; ends = omega arith; stuck = omega arith };
        ended = λ is. absurd cc;
        fault = λ is. absurd cc;
      }

  said_none : (failed : Failed) → IsSaid (Err failed) old now piece → Tells old now (event_said {F = Failed} (Err failed)) need.Say
  said_none failed h =
      let faults : now.faults ≡ one_more old.faults = ap (λ (l : LinkState). l.faults) h.after in
      let ends : now.ends ≡ old.ends = ap (λ (l : LinkState). l.ends) h.after in
      let stuck : now.stuck ≡ old.stuck = ap (λ (l : LinkState). l.stuck) h.after in
      record {
        lasts =
            record {
              faults = subst (λ (n : ℕ). one_more old.faults ≤ one_more n) (sym faults) (one_later old.faults);
              ends = omega arith;
              stuck = omega arith;
            };
        ended = λ is. absurd cc;
        fault = λ is. subst (Rose old.faults) (sym faults) (rose_once old.faults);
      }

  said_tells : (r : Result ℕ Failed) → IsSaid r old now piece → 0 < length piece → Tells old now (event_said r) need.Say
  said_tells (Ok count) h some = said_some count h some
  said_tells (Err failed) h some = said_none failed h

-- what is to be said, where that is needed

ended_some : (e : End) (bytes : List ℕ) (gone : Bool) → need_ended e bytes gone ≡ need.Say → 0 < length bytes
ended_some e [] gone h = absurd cc
ended_some e (byte ∷ bytes) gone h = omega arith

held_says : (held : Option Held) → need_by_held held ≡ need.Say → ⊥
held_says None h = absurd cc
held_says (Some held) h = talk_says held.talk h
  where
    chain_says : (bytes : List ℕ) → need_by_chain bytes ≡ need.Say → ⊥
    chain_says [] h = absurd cc
    chain_says (byte ∷ bytes) h = absurd cc

    talk_says : (talk : Option Talking) → need_by_talk talk ≡ need.Say → ⊥
    talk_says None h = absurd cc
    talk_says (Some talking) h = chain_says (to_send talking) h

work_says : (segments : List (List Command)) (held : Option Held) → need_by_work segments held ≡ need.Say → ⊥
work_says [] held h = absurd cc
work_says (segment ∷ segments) held h = held_says held h

saying_some : (bytes : List ℕ) (s : Session) → need_by_saying bytes s ≡ need.Say → 0 < length bytes
saying_some [] s h = absurd (work_says s.core.segments s.held h)
saying_some (byte ∷ bytes) s h = omega arith

going_some : (b : Bool) (s : Session) → cond b need.Give (need_by_saying s.to_say s) ≡ need.Say → 0 < length s.to_say
going_some true s h = absurd cc
going_some false s h = saying_some s.to_say s h

end_some : (e : Option core.End) (s : Session) → need_by_end e s ≡ need.Say → 0 < length s.to_say
end_some None s h = going_some (is_released s.held) s h
end_some (Some e) s h = ended_some (end_of s.tries.tried e) s.to_say s.gone h

runs_some : (s : Session) → session.need s ≡ need.Say → 0 < length s.to_say
unfolding session.need
runs_some s h = end_some s.core.end s h

front_some : (rest reply : List ℕ) → 0 < length (rest ++ reply) → 0 < length (front_of rest reply)
front_some [] reply h = h
front_some (byte ∷ bytes) reply h = omega arith

say_some : (state : State) → need_in state ≡ need.Say → 0 < length (to_say_in state)
say_some (Runs s) h = runs_some s h
say_some (Closes c) h = front_some c.rest c.reply (ended_some end.NoMemory (c.rest ++ c.reply) c.gone h)

-- ---- the call that was made

quiet_sent : (r : Result ℕ Failed) → quiet_end (event_sent r) ≡ true
quiet_sent (Ok count) = refl
quiet_sent (Err failed) = refl

quiet_back : (r : Result ℕ Failed) → quiet_end (event_back r) ≡ true
quiet_back (Ok count) = refl
quiet_back (Err failed) = refl

quiet_dialled : {K : Type 0} (r : Result K Failed) → quiet_end (event_dialled r) ≡ true
quiet_dialled (Ok link) = refl
quiet_dialled (Err failed) = refl

module _
    {A K N D : Type 0}
    (astate : A → LinkState)
    (areads : A → List ℕ → Result ℕ Failed → List ℕ → A → Type 0)
    (awrites : A → List ℕ → Result ℕ Failed → A → Type 0)
    (kstate : K → LinkState)
    (kreads : K → List ℕ → Result ℕ Failed → List ℕ → K → Type 0)
    (kwrites : K → List ℕ → Result ℕ Failed → K → Type 0)
    (nstate : N → DialState)
    (dials : N → ℕ → Result K Failed → N → Type 0)
    (lends : D → Terms → Lends K → D → Type 0)
    (gives : D → Resting K → D → Type 0)
    (a a' : A) (n n' : N) (d d' : D) (l' : Lease K) (bytes : List ℕ) (e : Event)
  where
    -- the application's link is as it was, and its event is another
    quietly : (e' : Event) (need : Need) → e ≡ e' → quiet_end e' ≡ true → a' ≡ a → Tells (astate a) (astate a') e need
    quietly e' need is quiet same = tells_nothing (astate a) (astate a') e need (ap astate same) (ap quiet_end is ∙ quiet)

    dials_tell : (l : Lease K) → Dials astate areads awrites kstate kreads kwrites nstate dials lends gives a a' n n' d d' l' bytes e l
        → Tells (astate a) (astate a') e need.Dial
    dials_tell lease.Nothing x = absurd x
    dials_tell (lease.Granted grant) x = quietly (event_dialled x.0) need.Dial x.3 (quiet_dialled x.0) x.5
    dials_tell (lease.Dialled grant link) x = absurd x

    sends_tell : (piece : List ℕ) (l : Lease K) → Sends astate areads awrites kstate kreads kwrites nstate dials lends gives a a' n n' d d' l' bytes e piece l
        → Tells (astate a) (astate a') e need.Send
    sends_tell piece lease.Nothing x = absurd x
    sends_tell piece (lease.Granted grant) x = absurd x
    sends_tell piece (lease.Dialled grant link) x = quietly (event_sent x.0) need.Send x.4 (quiet_sent x.0) x.6

    reads_tell : (l : Lease K) → Reads astate areads awrites kstate kreads kwrites nstate dials lends gives a a' n n' d d' l' bytes e l
        → Tells (astate a) (astate a') e need.Back
    reads_tell lease.Nothing x = absurd x
    reads_tell (lease.Granted grant) x = absurd x
    reads_tell (lease.Dialled grant link) x = quietly (event_back x.1) need.Back x.5 (quiet_back x.1) x.8

    gives_tell : (s : State) (l : Lease K) → Gives astate areads awrites kstate kreads kwrites nstate dials lends gives a a' n n' d d' l' bytes e s l
        → Tells (astate a) (astate a') e need.Give
    gives_tell s lease.Nothing x = absurd x
    gives_tell s (lease.Granted grant) x = absurd x
    gives_tell s (lease.Dialled grant link) x = quietly event.Give need.Give x.1 refl x.3

    pub calls_tell : (s : State) (needed : Need) (l : Lease K) → need_in s ≡ needed
        → Calls astate areads awrites kstate kreads kwrites nstate dials lends gives a a' n n' d d' l' bytes e s needed l
        → Tells (astate a) (astate a') e needed
    calls_tell s need.App l is x =
        subst (λ (o : Event). Tells (astate a) (astate a') o need.App) (sym x.4) (heard_tells (astate a) (astate a') x.0 bytes x.1 x.3 x.5)
    calls_tell s need.Lend l is x = quietly (event.Lend (lent_of x.0)) need.Lend x.2 refl x.4
    calls_tell s need.Dial l is x = dials_tell l x
    calls_tell s need.Send l is x = sends_tell (to_send_in s) l x
    calls_tell s need.Back l is x = reads_tell l x
    calls_tell s need.Give l is x = gives_tell s l x
    calls_tell s need.Say l is x =
        subst (λ (o : Event). Tells (astate a) (astate a') o need.Say) (sym x.3) (said_tells (astate a) (astate a') (to_say_in s) x.0 x.2 (say_some s is))
    calls_tell s (need.Done end) l is x = absurd x

-- ---- one turn more

-- an event that ends the session is one of the application's link
end_event : (bytes : List ℕ) (e : Event) → is_app_end (input_of bytes e) ≡ true → quiet_end e ≡ false
end_event bytes (event.Take n) h = absurd cc
end_event bytes (event.End failed) h = refl
end_event bytes (event.Lend lent) h = absurd cc
end_event bytes (event.Dial reached) h = absurd cc
end_event bytes (event.Send n true) h = absurd cc
end_event bytes (event.Send n false) h = absurd cc
end_event bytes (event.Back n true) h = absurd cc
end_event bytes (event.Back n false) h = absurd cc
end_event bytes event.Give h = absurd cc
end_event bytes (event.Say n) h = absurd cc

rose_after : (a b c : ℕ) → one_more a ≤ one_more b → Rose b c → Rose a c
rose_after a b c h r = record { reached = (let q = r.reached in omega (arith, h, q)) }

lasts_after : (a b c : LinkState) → Lasts a b → Lasts b c → Lasts a c
lasts_after a b c x y = record {
  faults = (let p = x.faults in let q = y.faults in omega (arith, p, q));
  ends = (let p = x.ends in let q = y.ends in omega (arith, p, q));
  stuck = (let p = x.stuck in let q = y.stuck in omega (arith, p, q));
}

-- nothing is to be said where bytes of the application are needed

saying_app : (bytes : List ℕ) (s : Session) → need_by_saying bytes s ≡ need.App → bytes ≡ []
saying_app [] s h = refl
saying_app (byte ∷ bytes) s h = absurd cc

ended_app : (e : End) (bytes : List ℕ) (gone : Bool) → need_ended e bytes gone ≡ need.App → ⊥
ended_app e [] gone h = absurd cc
ended_app e (byte ∷ bytes) true h = absurd cc
ended_app e (byte ∷ bytes) false h = absurd cc

going_app : (b : Bool) (s : Session) → cond b need.Give (need_by_saying s.to_say s) ≡ need.App → s.to_say ≡ []
going_app true s h = absurd cc
going_app false s h = saying_app s.to_say s h

end_app : (e : Option core.End) (s : Session) → need_by_end e s ≡ need.App → s.to_say ≡ []
end_app None s h = going_app (is_released s.held) s h
end_app (Some e) s h = absurd (ended_app (end_of s.tries.tried e) s.to_say s.gone h)

runs_app : (s : Session) → session.need s ≡ need.App → s.to_say ≡ []
unfolding session.need
runs_app s h = end_app s.core.end s h

-- what an end of the application comes to, in a session that needs something
record Ended (failed : Bool) (e : End) (state : State) (after : State) : Type 0 where
  pub fault : is_fault e ≡ failed
  pub said : need_in state ≡ need.App → left_in after ≡ []

ended_runs : (failed : Bool) (e : End) (s : Session) → IsGone (Runs s) → is_done (session.need s) ≡ false
    → need_in (after_turn true (AppEnd failed) (Runs s)) ≡ need.Done e → ends_left e ≡ true
    → Ended failed e (Runs s) (after_turn true (AppEnd failed) (Runs s))
ended_runs failed e s gone going ended left_so = record {
  fault = runs_failed failed s e (still_there s gone going) (sym (list_needed failed s) ∙ ended) left_so;
  said = λ app. app_end_left failed s ∙ runs_app s app;
}

ended_by : (m failed : Bool) (e : End) (state : State) → IsGone state → is_done (need_in state) ≡ false
    → need_in (after_turn m (AppEnd failed) state) ≡ need.Done e → ends_left e ≡ true → Ended failed e state (after_turn m (AppEnd failed) state)
ended_by true failed e (Runs s) gone going ended left_so = ended_runs failed e s gone going ended left_so
ended_by false failed e (Runs s) gone going ended left_so =
    absurd (closed_left (closing_with (unsaid (AppEnd failed) s) s) (after_turn false (AppEnd failed) (Runs s)) (stops (AppEnd failed) s)
    (ap needs_left ended ∙ left_so))
ended_by m failed e (Closes c) gone going ended left_so =
    let step = closes_on m (AppEnd failed) c in
    absurd (closed_left step.next (after_turn m (AppEnd failed) (Closes c)) step.is (ap needs_left ended ∙ left_so))

-- the same by its event

record EndedBy (ev : Event) (e : End) (state after : State) : Type 0 where
  pub event : ev ≡ event.End (is_fault e)
  pub said : need_in state ≡ need.App → left_in after ≡ []

end_is : (ev : Event) → quiet_end ev ≡ false → (failed : Bool) × (ev ≡ event.End failed)
end_is (event.Take n) other = absurd cc
end_is (event.End failed) other = (failed, refl)
end_is (event.Lend lent) other = absurd cc
end_is (event.Dial reached) other = absurd cc
end_is (event.Send n failed) other = absurd cc
end_is (event.Back n failed) other = absurd cc
end_is event.Give other = absurd cc
end_is (event.Say n) other = absurd cc

ended_event : (m : Bool) (bytes : List ℕ) (ev : Event) (e : End) (state : State) → IsGone state → is_done (need_in state) ≡ false
    → need_in (after_turn m (input_of bytes ev) state) ≡ need.Done e → ends_left e ≡ true → quiet_end ev ≡ false
    → EndedBy ev e state (after_turn m (input_of bytes ev) state)
ended_event m bytes ev e state gone going ended left_so other =
    let x = end_is ev other in
    subst (λ (o : Event). need_in (after_turn m (input_of bytes o) state) ≡ need.Done e → EndedBy o e state (after_turn m (input_of bytes o) state))
    (sym x.1) (λ h. by x.0 (ended_by m x.0 e state gone going h left_so)) ended
  where
    by : (failed : Bool) → Ended failed e state (after_turn m (AppEnd failed) state) → EndedBy (event.End failed) e state (after_turn m (AppEnd failed) state)
    by failed h = record { event = ap event.End (sym h.fault); said = h.said }

left_event : (m : Bool) (bytes : List ℕ) (ev : Event) (e : End) (state : State) → IsGone state → is_done (need_in state) ≡ false
    → need_in (after_turn m (input_of bytes ev) state) ≡ need.Done e → ends_left e ≡ true
    → EndedBy ev e state (after_turn m (input_of bytes ev) state)
left_event m bytes ev e state gone going ended left_so =
    ended_event m bytes ev e state gone going ended left_so
    (end_event bytes ev (by_app_end m (input_of bytes ev) state gone going (ap needs_left ended ∙ left_so)))

pub left_on : (old mid now : LinkState) (m : Bool) (bytes : List ℕ) (ev : Event) (state : State) → Lasts old mid
    → is_gone state ≡ true → is_done (need_in state) ≡ false → Tells mid now ev (need_in state) → LeftBy old now (after_turn m (input_of bytes ev) state)
left_on old mid now m bytes ev state lasts is going t = record { left = λ h. at_once h; fault = λ h. failed h }
  where
    gone : IsGone state
    gone = gone_from state is

    failed : need_in (after_turn m (input_of bytes ev) state) ≡ need.Done end.AppFault → Rose old.faults now.faults
    failed h =
        let e = left_event m bytes ev end.AppFault state gone going h refl in
        rose_after old.faults mid.faults now.faults lasts.faults (t.fault e.event)

    at_once : need_in (after_turn m (input_of bytes ev) state) ≡ need.Done end.AppEnded
        → (Rose old.ends now.ends × (left_in (after_turn m (input_of bytes ev) state) ≡ [])) ⊎ Rose old.stuck now.stuck
    at_once h =
        let e = left_event m bytes ev end.AppEnded state gone going h refl in either e.said (t.ended e.event)
      where
        either : (need_in state ≡ need.App → left_in (after_turn m (input_of bytes ev) state) ≡ [])
            → (Rose mid.ends now.ends × (need_in state ≡ need.App)) ⊎ Rose mid.stuck now.stuck
            → (Rose old.ends now.ends × (left_in (after_turn m (input_of bytes ev) state) ≡ [])) ⊎ Rose old.stuck now.stuck
        either said (inl x) = inl (rose_after old.ends mid.ends now.ends lasts.ends x.0, said x.1)
        either said (inr x) = inr (rose_after old.stuck mid.stuck now.stuck lasts.stuck x)

pub lasts_on : (old mid now : LinkState) (ev : Event) (n : Need) → Lasts old mid → Tells mid now ev n → Lasts old now
lasts_on old mid now ev n lasts t = lasts_after old mid now lasts t.lasts

-- ---- before any turn

new_needs : (id : ℕ) (name : List ℕ) → session.need (uncounted (new_session id name)) ≡ need.App
unfolding session.need
new_needs id name = refl

pub new_app : (state : State) → IsNew state → need_in state ≡ need.App
new_app state new = ap need_in new.is ∙ new_needs new.id new.name

pub left_never : (l : LinkState) (state : State) → need_in state ≡ need.App → LeftBy l l state
left_never l state h = record {
  left = λ e. absurd (let other : need.App ≡ need.Done end.AppEnded = sym h ∙ e in cc);
  fault = λ e. absurd (let other : need.App ≡ need.Done end.AppFault = sym h ∙ e in cc);
}

-- ---- that the application has gone stays

gone_runs : (i : Input) (s next : Session) → is_app_end i ≡ false → seen next ≡ seen (after_input i s) → IsGone (Runs s) → IsGone (Runs next)
gone_runs i s next other same gone = λ h.
    ap (λ (x : Seen). x.gone) same ∙ (input_goes i s other).gone ∙ gone (keeps_there i s next other same h)

gone_app : (i : Input) (s next : Session) → is_app_end i ≡ true → seen next ≡ seen (after_input i s) → IsGone (Runs next)
gone_app (App piece) s next ends same = absurd cc
gone_app (Lend l) s next ends same = absurd cc
gone_app (Dialled reached) s next ends same = absurd cc
gone_app (Sent count) s next ends same = absurd cc
gone_app (Back piece) s next ends same = absurd cc
gone_app Given s next ends same = absurd cc
gone_app (Said count) s next ends same = absurd cc
gone_app (Lose reason) s next ends same = absurd cc
gone_app (AppEnd failed) s next ends same = λ h. ap (λ (x : Seen). x.gone) same ∙ app_end_gone failed s

gone_on : (i : Input) (s next : Session) → seen next ≡ seen (after_input i s) → IsGone (Runs s) → IsGone (Runs next)
gone_on i s next same gone = by (is_app_end i) refl
  where
    by : (b : Bool) → is_app_end i ≡ b → IsGone (Runs next)
    by true e = gone_app i s next e same
    by false e = gone_runs i s next e same gone

still_gone : (m : Bool) (i : Input) (state : State) → IsGone state → IsGone (after_turn m i state)
still_gone true i (Runs s) gone =
    let step = goes_on i s in subst IsGone (sym step.is) (gone_on i s step.next step.same gone)
still_gone false i (Runs s) gone = subst IsGone (sym (stops i s)) tt
still_gone m i (Closes c) gone =
    let step = closes_on m i c in subst IsGone (sym step.is) tt

pub stays_gone : (m : Bool) (i : Input) (state : State) → is_gone state ≡ true → is_gone (after_turn m i state) ≡ true
stays_gone m i state gone = gone_to (after_turn m i state) (still_gone m i state (gone_from state gone))
