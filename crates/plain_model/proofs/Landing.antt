-- The unit of a conversation stands where its session does: what every session keeps that goes on.
use Rattle.std.proofs.Common.{◌≡◌, ◌≢◌, ℕ, zero, suc, ◌==◌, ◌||◌, Bool, true, false, if◌then◌else◌, List, [], ◌∷◌, ◌++◌, drop}
use Rattle.std.proofs.Common.{None, ap, sym, refl, subst, ◌∙◌, arith, true≢false}
use Rattle.std.proofs.lemmas.Bool.{cond-true, cond-false}
use Rattle.dss_frame.specs.declared.dss.Dss.{Dss}
use Rattle.ddm_codepoints.specs.CodeClass.{class_of}
use Rattle.ddm_codepoints.specs.CodePoint.{secchk, accrdb}
use Rattle.access_handshake.specs.declared.stage.Stage.{Stage}
use Rattle.access_handshake.specs.declared.stage.Stage.TheVariants.{New, Chosen, Checked, Accessed}
use Rattle.unit_segments.specs.declared.command.Command.{Command}
use Rattle.unit_segments.specs.declared.stripped.Stripped.{Stripped}
use Rattle.unit_segments.specs.Command.{ends_unit}
use Rattle.unit_segments.specs.Release.{asked}
use Rattle.unit_segments.specs.Segment.{goes_on_a_run}
use Rattle.unit_segments.specs.Spelling.{numbered}
use Rattle.unit_segments.specs.Strip.{stripped, has_ended, sets_of}
use Rattle.plain_model.specs.Standing.{Standing, log_with, after_end, after_secchk, after_accrdb}
use Rattle.plain_model.specs.UnitEnd.{unasked}
use Rattle.plain_model.specs.Group.{Meaning, Values, Laws, IsCommand}
use Rattle.plain_model.specs.Local.{is_local}
use Rattle.plain_model.specs.Core.{Core, first}
use Rattle.plain_model.specs.Answered.{standing_after, is_work, register_fault}
use Rattle.plain_model.specs.Plain.{left_to_run, seen}
use Rattle.plain_model.proofs.Segments.{IsSegment, drop_nothing, next_number, cons_nil, head_is}
use Rattle.plain_model.proofs.Replies.{AreUpTo, one_more}
use Rattle.plain_model.proofs.Staged.{isnt_work, work_accessed}
use Rattle.plain_model.proofs.Stands.{Worked, worked_start, worked_run, Landed, Serves, Checks, Opens, Works, serves, secchk_run, accrdb_run}
use Rattle.plain_model.proofs.Stands.{asked_replies_number}

-- before EXCSAT nothing is said of it
abbrev pub AtRest : {S U : Type 0} → Values S U → Standing → U → Type 0
AtRest v st u = (st.stage ≢ New) → v.stands st u

pub record IsAt {S U : Type 0} (m : Meaning S U) (v : Values S U) (k : Core) (ran : ℕ) (part asking : List Dss) (u : U) : Type 0 where
  pub idle : first k.segments ≡ [] → ran ≡ 0
  pub asked_up : AreUpTo ran asking
  pub rest : ran ≡ 0 → AtRest v k.standing u
  pub base : AtRest v k.standing (m.base k.standing)
  pub work : is_work (first k.segments) ≡ true → k.standing.stage ≡ Accessed → Worked m v k.standing (first k.segments) part asking u
  pub access : is_work (first k.segments) ≡ false → ran ≢ 0 → Landed m v (standing_after k.standing (first k.segments) (seen (first k.segments) part asking)) u

accessed_new : {st : Stage} → st ≡ Accessed → st ≡ New → ⊥
accessed_new a b = cc

pub at_start : {S U : Type 0} {m : Meaning S U} {v : Values S U} → Laws m v → (k : Core) (u : U) → AtRest v k.standing u → IsAt m v k 0 [] [] u
at_start {m = m} {v = v} laws k u rest = record {
  idle = λ e. refl;
  asked_up = tt;
  rest = λ e. rest;
  base = λ new. laws.at_base k.standing u (rest new);
  work = λ w at. worked_start m v k.standing (first k.segments) u (rest (λ new. accessed_new at new));
  access = λ w ne. absurd (ne refl);
}

-- ---- the next command runs

pub nothing_up : (part : List Dss) → AreUpTo 0 part → part ≡ []
nothing_up [] all = refl
nothing_up (d ∷ part) all = absurd (omega (arith, all.0.positive, all.0.most))

access_run : {S U : Type 0} {m : Meaning S U} {v : Values S U} → Laws m v → (name : List ℕ) (st : Standing) (s : S) (u : U) → v.shared s
    → (g : List Command) (ran : ℕ) (part asking : List Dss) (c : Command) (cs : List Command) → IsSegment g → is_work g ≡ false
    → is_local name st g ≡ false → drop ran (numbered 1 g) ≡ c ∷ cs → AreUpTo ran part → (ran ≡ 0 → AtRest v st u)
    → Landed m v (standing_after st g (seen g (part ++ m.replies s u (unasked c)) asking)) (m.unit_after s u (unasked c))
access_run laws name st s u sh [] ran part asking c cs seg work front e up rest = absurd (cons_nil (sym e ∙ drop_nothing ran 1))
access_run {m = m} {v = v} laws name st s u sh (d ∷ []) zero part asking c cs seg work front e up rest =
    subst (λ (x : Command). Landed m v (standing_after st (d ∷ []) (seen (d ∷ []) (part ++ m.replies s u (unasked x)) asking)) (m.unit_after s u (unasked x)))
    (head_is e)
    (subst (λ p. Landed m v (standing_after st (d ∷ []) (seen (d ∷ []) (p ++ m.replies s u (unasked (record d { corr = 1 }))) asking))
    (m.unit_after s u (unasked (record d { corr = 1 })))) (sym (nothing_up part up)) (go (serves name st d front)))
  where
    stood : (stage : Stage) → st.stage ≡ stage → (stage ≢ New) → v.stands st u
    stood stage at ne = rest refl (λ new. ne (sym at ∙ new))

    chosen_new : Chosen ≡ New → ⊥
    chosen_new f = cc

    checked_new : Checked ≡ New → ⊥
    checked_new f = cc

    go : Serves st d → Landed m v (standing_after st (d ∷ []) (seen (d ∷ []) (m.replies s u (unasked (record d { corr = 1 }))) asking))
        (m.unit_after s u (unasked (record d { corr = 1 })))
    go (Checks at code) = secchk_run laws st s u sh (stood Chosen at chosen_new) at d code seg.commands.0 asking
    go (Opens at code) = accrdb_run laws st s u sh (stood Checked at checked_new) at d code seg.commands.0 asking
    go (Works at goes) = absurd (true≢false (sym goes ∙ work))
access_run laws name st s u sh (d ∷ []) (suc ran) part asking c cs seg work front e up rest = absurd (cons_nil (sym e ∙ drop_nothing ran 2))
access_run laws name st s u sh (d ∷ f ∷ g) ran part asking c cs seg work front e up rest =
    absurd (true≢false (sym (ap (λ b. b || ends_unit (class_of d.code)) seg.run.0) ∙ work))

pub at_run : {S U : Type 0} {m : Meaning S U} {v : Values S U} → Laws m v → (name : List ℕ) (k : Core) (s : S) (u : U) → v.shared s
    → v.unit u → (ran : ℕ) (part asking : List Dss) (c : Command) (cs : List Command) → IsSegment (first k.segments)
    → is_local name k.standing (first k.segments) ≡ false → IsCommand c → drop ran (numbered 1 (first k.segments)) ≡ c ∷ cs → AreUpTo ran part
    → IsAt m v k ran part asking u
    → IsAt m v k (suc ran) (part ++ m.replies s u (unasked c)) (asking ++ m.replies s u (asked c)) (m.unit_after s u (unasked c))
at_run {m = m} laws name k s u sh un ran part asking c cs seg front is e up a = record {
  idle = λ none. absurd (cons_nil (sym e ∙ ap (λ h. drop ran (numbered 1 h)) none ∙ drop_nothing ran 1));
  asked_up = one_more ran asking (m.replies s u (asked c)) a.asked_up (asked_replies_number laws s u sh un ran c is (next_number ran 1 g c cs e));
  rest = λ z. absurd (omega (arith, z));
  base = a.base;
  work = λ w at. worked_run laws k.standing s u sh un at g ran part asking c cs seg w is e up a.asked_up (a.work w at);
  access = λ w ne. access_run laws name k.standing s u sh g ran part (asking ++ m.replies s u (asked c)) c cs seg w front e up a.rest;
}
  where
    g : List Command
    g = first k.segments

-- ---- the segment is answered

pub work_standing : (st : Standing) (g : List Command) (r : Stripped) → is_work g ≡ true
    → standing_after st g r ≡ (if r.ended then after_end st r.sets else st)
unfolding class_of
work_standing st [] r work = absurd (true≢false (sym work))
work_standing st (c ∷ g) r work =
    cond-false (c.code == secchk) (after_secchk st c r.replies)
    (if c.code == accrdb then after_accrdb st c r.replies else (if r.ended then after_end st r.sets else st)) (isnt secchk refl)
    ∙ cond-false (c.code == accrdb) (after_accrdb st c r.replies) (if r.ended then after_end st r.sets else st) (isnt accrdb refl)
  where
    isnt : (code : ℕ) → goes_on_a_run (record c { code = code }) ≡ false → (c.code == code) ≡ false
    isnt code f = go (c.code == code) refl
      where
        go : (b : Bool) → (c.code == code) ≡ b → (c.code == code) ≡ false
        go true e = absurd (isnt_work c code e f work)
        go false e = e

-- nothing ran where nothing is left to run: there was nothing
pub nothing_ran : (g : List Command) (part : List Dss) → AreUpTo 0 part → left_to_run g 0 part ≡ [] → g ≡ []
nothing_ran [] part up none = refl
nothing_ran (c ∷ g) part up none = absurd (cons_nil (ap (λ p. left_to_run (c ∷ g) 0 p) (sym (nothing_up part up)) ∙ none))

pub at_answer : {S U : Type 0} {m : Meaning S U} {v : Values S U} → Laws m v → (name : List ℕ) (k : Core) (ran : ℕ) (part asking : List Dss) (u : U)
    → is_local name k.standing (first k.segments) ≡ false → AreUpTo ran part → left_to_run (first k.segments) ran part ≡ []
    → register_fault (seen (first k.segments) part asking) k ≡ None → IsAt m v k ran part asking u
    → AtRest v (standing_after k.standing (first k.segments) (seen (first k.segments) part asking)) u
unfolding stripped
at_answer {m = m} {v = v} laws name k ran part asking u front up none fault a = by (is_work g) refl
  where
    g : List Command
    g = first k.segments

    r : Stripped
    r = seen g part asking

    ended : (b : Bool) → has_ended g part ≡ b → is_work g ≡ true → k.standing.stage ≡ Accessed
        → AtRest v (if b then after_end k.standing r.sets else k.standing) u
    ended false e w at = λ new. (a.work w at).opened e
    ended true e w at = λ new.
        (a.work w at).held e (sym (cond-true (has_ended g part) (log_with k.standing (sets_of g asking)).fault None e) ∙ fault)

    by : (b : Bool) → is_work g ≡ b → AtRest v (standing_after k.standing g r) u
    by true w = subst (λ to. AtRest v to u) (sym (work_standing k.standing g r w))
        (ended (has_ended g part) refl w (work_accessed name k.standing g front w))
    by false w = count ran refl
      where
        count : (n : ℕ) → ran ≡ n → AtRest v (standing_after k.standing g r) u
        count zero z = subst (λ h. AtRest v (standing_after k.standing h (seen h part asking)) u)
            (sym (nothing_ran g part (subst (λ n. AreUpTo n part) z up) (ap (λ n. left_to_run g n part) (sym z) ∙ none))) (a.rest z)
        count (suc n) z = λ new. (a.access w (λ e. absurd (omega (arith, e, z)))).stands
