-- What runs again succeeds: what every session keeps that goes on.
use Rattle.std.proofs.Common.{◌≡◌, ◌≢◌, ℕ, zero, suc, ◌&&◌, Bool, true, false, not, if◌then◌else◌, List, [], ◌∷◌, ◌++◌, None}
use Rattle.std.proofs.Common.{ap, sym, refl, subst, ◌∙◌, arith, true≢false}
use Rattle.std.proofs.lemmas.Bool.{cond_both, cond-true, cond-false}
use Rattle.std.specs.List.{AllByRecursion}
use Rattle.dss_frame.specs.declared.dss.Dss.{Dss}
use Rattle.ddm_codepoints.specs.declared.typdef.TypDef.{TypDef}
use Rattle.access_handshake.specs.declared.stage.Stage.TheVariants.{Chosen, Checked, Accessed}
use Rattle.unit_segments.specs.declared.command.Command.{Command}
use Rattle.unit_segments.specs.declared.stripped.Stripped.{Stripped}
use Rattle.unit_segments.specs.Segment.{goes_on_a_run}
use Rattle.unit_segments.specs.Strip.{stripped, has_ended, sets_of, replies_of}
use Rattle.unit_segments.specs.Accepts.{sets_only}
use Rattle.plain_model.specs.Standing.{Standing, log_with, after_end}
use Rattle.plain_model.specs.Group.{Meaning, Values, Laws, IsCommand, Set, told_typdef}
use Rattle.plain_model.specs.Local.{is_local}
use Rattle.plain_model.specs.Core.{Core, first, settled, finished}
use Rattle.plain_model.specs.Answered.{fit, without_error, joins_again, standing_after, is_work, with_work, with_end, unit_after, answered_core}
use Rattle.plain_model.specs.Answered.{register_fault}
use Rattle.plain_model.specs.Plain.{left_to_run, seen}
use Rattle.plain_model.proofs.Segments.{IsSegment}
use Rattle.plain_model.proofs.Replies.{AreUpTo}
use Rattle.plain_model.proofs.Runs.{and_true}
use Rattle.plain_model.proofs.Cores.{IsSameUnit, settled_finished}
use Rattle.plain_model.proofs.Repeating.{Done, some_again}
use Rattle.plain_model.proofs.Moves.{stands_now, accessed_unmoved}
use Rattle.plain_model.proofs.Stands.{Serves, Checks, Opens, Works, serves}
use Rattle.plain_model.proofs.Landing.{AtRest, IsAt, work_standing, nothing_up, nothing_ran}
use Rattle.plain_model.proofs.Aheads.{IsAhead, IsLed, ahead_rest, joined, typdef_stays}

-- what holds of a session whose unit is neither spoken nor pinned, and whose database was accessed
abbrev pub Calm : Core → Type 0 → Type 0
Calm k P = k.spoken ≡ false → k.pinned ≡ false → k.standing.stage ≡ Accessed → P

abbrev pub CalmLed : {S U : Type 0} → Meaning S U → Values S U → Core → U → Type 0
CalmLed m v k u = Calm k (IsLed m v k.typdef k.standing k.again u)

led_with : {S U : Type 0} (m : Meaning S U) (v : Values S U) (typ typ2 : TypDef) (st st2 : Standing) (cs cs2 : List Command) (u u2 : U)
    → typ2 ≡ typ → st2 ≡ st → cs2 ≡ cs → u2 ≡ u → IsLed m v typ st cs u → IsLed m v typ2 st2 cs2 u2
led_with m v typ typ2 st st2 cs cs2 u u2 et es ec eu l =
    subst (λ x. IsLed m v x st2 cs2 u2) (sym et) (subst (λ x. IsLed m v typ x cs2 u2) (sym es)
    (subst (λ x. IsLed m v typ st x u2) (sym ec) (subst (λ x. IsLed m v typ st cs x) (sym eu) l)))

-- nothing runs again at the base
nothing_led : {S U : Type 0} (m : Meaning S U) (v : Values S U) (typ : TypDef) (st : Standing) (cs : List Command) (u : U) → cs ≡ [] → u ≡ m.base st
    → IsLed m v typ st cs u
nothing_led m v typ st cs u none is = subst (λ xs. IsLed m v typ st xs u) (sym none) (record { leads = λ t ts. is; good = λ t ts. tt })

-- ---- local answers are given

pub record Rests {S U : Type 0} (m : Meaning S U) (v : Values S U) (k : Core) (u : U) : Type 0 where
  pub rest : AtRest v k.standing u
  pub led : CalmLed m v k u

pub settled_rests : {S U : Type 0} {m : Meaning S U} {v : Values S U} → Laws m v → (name : List ℕ) (j : Core) (u : U) → Done j → Rests m v j u
    → Rests m v (finished (settled name j)).core (if (finished (settled name j)).moved then m.base (finished (settled name j)).core.standing else u)
settled_rests {S} {U} {m = m} {v = v} laws name j u done r = go (finished (settled name j)).moved refl
  where
    k : Core
    k = (finished (settled name j)).core

    same : IsSameUnit j k
    same = settled_finished name j

    emptied : (finished (settled name j)).moved ≡ true → (cs : List Command) → j.again ≡ cs → k.again ≡ []
    emptied e [] f = same.again ∙ f
    emptied e (c ∷ cs) f = absurd (true≢false (sym e ∙ accessed_unmoved name j (some_again j.standing.stage j c cs done f)))

    go : (b : Bool) → (finished (settled name j)).moved ≡ b → Rests m v k (if b then m.base k.standing else u)
    go true e = record {
      rest = λ new. laws.unset_base k.standing ((stands_now name j).unset e);
      led = λ sp pi at. nothing_led m v k.typdef k.standing k.again (m.base k.standing) (emptied e j.again refl) refl;
    }
    go false e =
        let stays = (stands_now name j).unmoved e in
        record {
          rest = subst (λ st. AtRest v st u) (sym stays) r.rest;
          led = λ sp pi at. led_with m v j.typdef k.typdef j.standing k.standing j.again k.again u u same.typdef stays same.again refl
              (r.led (sym same.spoken ∙ sp) (sym same.pinned ∙ pi) (sym (ap (λ (st : Standing). st.stage) stays) ∙ at));
        }

-- ---- a segment is answered

-- at Accessed a server answers commands of a unit alone
accessed_works : (name : List ℕ) (st : Standing) (g : List Command) → is_local name st g ≡ false → g ≢ [] → st.stage ≡ Accessed → is_work g ≡ true
accessed_works name st [] front ne at = absurd (ne refl)
accessed_works name st (c ∷ g) front ne at = go (serves name st c front)
  where
    go : Serves st c → goes_on_a_run c ≡ true
    go (Checks is e) = absurd (chosen (sym is ∙ at))
      where
        chosen : Chosen ≡ Accessed → ⊥
        chosen f = cc
    go (Opens is e) = absurd (checked (sym is ∙ at))
      where
        checked : Checked ≡ Accessed → ⊥
        checked f = cc
    go (Works is goes) = goes

pub record IsAnswerable {S U : Type 0} (m : Meaning S U) (v : Values S U) (name : List ℕ) (k : Core) (ran : ℕ) (part asking : List Dss) (u : U)
    : Type 0 where
  pub at : IsAt m v k ran part asking u
  pub ahead : Calm k (IsAhead m v k.typdef k.standing k.again (first k.segments) ran part u)
  pub front : is_local name k.standing (first k.segments) ≡ false
  pub segment : IsSegment (first k.segments)
  pub up : AreUpTo ran part
  pub none : left_to_run (first k.segments) ran part ≡ []
  pub sets : AllByRecursion Set k.again
  pub commands : AllByRecursion IsCommand k.again
  pub done : Done k
  pub ended : has_ended (first k.segments) part ≡ true → is_work (first k.segments) ≡ true

-- what is said of a core that is answered, before its segment leaves
abbrev After : {S U : Type 0} → Meaning S U → Values S U → Stripped → U → Core → Type 0
After m v r u j = j.spoken ≡ false → j.pinned ≡ false → (standing_after j.standing (first j.segments) r).stage ≡ Accessed
    → IsLed m v (told_typdef j.typdef r.replies) (standing_after j.standing (first j.segments) r) j.again u

pub answered_led : {S U : Type 0} {m : Meaning S U} {v : Values S U} → Laws m v → (name : List ℕ) (k : Core) (ran : ℕ) (part asking : List Dss) (u : U)
    → IsAnswerable m v name k ran part asking u → register_fault (seen (first k.segments) part asking) k ≡ None
    → CalmLed m v (answered_core (seen (first k.segments) part asking) k) u
unfolding stripped
answered_led {S} {U} {m = m} {v = v} laws name k ran part asking u a fault = after
  where
    g : List Command
    g = first k.segments

    r : Stripped
    r = seen g part asking

    not_true : (b : Bool) → not b ≡ false → b ≡ true
    not_true true e = refl
    not_true false e = absurd (true≢false e)

    -- the unit has ended
    ends : r.ended ≡ true → After m v r u (with_end r k)
    ends e = λ sp pi at.
        let work = a.ended e in
        let to = work_standing k.standing g r work ∙ cond-true r.ended (after_end k.standing r.sets) k.standing e in
        let sound : (log_with k.standing (sets_of g asking)).fault ≡ None =
        sym (cond-true r.ended (log_with k.standing (sets_of g asking)).fault None e) ∙ fault in
        let stage = work_stage e work at in
        nothing_led m v (told_typdef k.typdef r.replies) (standing_after k.standing g r) [] u refl
        ((a.at.work work stage).released e (not_true r.granted pi) sound ∙ ap m.base (sym to))
      where
        work_stage : r.ended ≡ true → is_work g ≡ true → (standing_after k.standing g r).stage ≡ Accessed → k.standing.stage ≡ Accessed
        work_stage e work at =
            sym (ap (λ (st : Standing). st.stage) (work_standing k.standing g r work
            ∙ cond-true r.ended (after_end k.standing r.sets) k.standing e)) ∙ at

    -- it goes on, by work
    works : r.ended ≡ false → is_work g ≡ true → After m v r u (with_work r k)
    works e work = cond_both {A = Core} (joins_again r.replies k) (record k { again = k.again ++ g }) (record k { spoken = true }) (After m v r u)
        (λ j sp pi at.
        let to = work_standing k.standing g r work ∙ cond-false r.ended (after_end k.standing r.sets) k.standing e in
        let well = and_true (without_error r.replies) (sets_only k.typdef g r.replies && (not k.spoken && fit (k.again ++ g))) j in
        let both = and_true (sets_only k.typdef g r.replies) (not k.spoken && fit (k.again ++ g)) well.1 in
        let ahead = a.ahead sp pi (sym (ap (λ (st : Standing). st.stage) to) ∙ at) in
        led_with m v k.typdef (told_typdef k.typdef r.replies) k.standing (standing_after k.standing g r) (k.again ++ g) (k.again ++ g) u u
        (typdef_stays k.typdef g r.replies both.0) to refl refl
        (joined laws k.typdef k.standing k.again g ran part u a.sets a.commands a.segment.commands a.up a.none both.0 well.0 ahead))
        (λ j sp. absurd (true≢false sp))

    -- by access, or there was nothing
    others : is_work g ≡ false → After m v r u k
    others no_work = count ran refl
      where
        count : (n : ℕ) → ran ≡ n → After m v r u k
        count zero z =
            let empty = nothing_ran g part (subst (λ n. AreUpTo n part) z a.up) (ap (λ n. left_to_run g n part) (sym z) ∙ a.none) in
            let silent = nothing_up part (subst (λ n. AreUpTo n part) z a.up) in
            λ sp pi at.
            led_with m v k.typdef (told_typdef k.typdef r.replies) k.standing (standing_after k.standing g r) k.again k.again u u
            (ap (λ p. told_typdef k.typdef (replies_of g p)) silent)
            (ap (λ h. standing_after k.standing h r) empty) refl refl
            (ahead_rest m v k.typdef k.standing k.again g ran part u z (a.ahead sp pi (sym (ap (λ h. (standing_after k.standing h r).stage) empty) ∙ at)))
        count (suc n) z = λ sp pi at.
            let ne : ran ≢ 0 = λ e. absurd (omega (arith, e, z)) in
            nothing_led m v (told_typdef k.typdef r.replies) (standing_after k.standing g r) k.again u (emptied ne k.again refl)
            ((a.at.access no_work ne).base at)
          where
            emptied : ran ≢ 0 → (cs : List Command) → k.again ≡ cs → k.again ≡ []
            emptied ne [] f = f
            emptied ne (c ∷ cs) f = absurd (true≢false (sym (accessed_works name k.standing g a.front (λ none. ne (a.at.idle none))
                (some_again k.standing.stage k c cs a.done f)) ∙ no_work))

    after : After m v r u (unit_after r k)
    after = cond_both {A = Core} r.ended (with_end r k) (if is_work g then with_work r k else k) (After m v r u) ends
        (λ e. cond_both {A = Core} (is_work g) (with_work r k) k (After m v r u) (works e) others)
