-- Where the unit of a conversation stands, after each command of the segment in work.
use Rattle.std.proofs.Common.{◌≡◌, ◌≢◌, ◌⊎◌, inl, inr, ℕ, zero, suc, ◌+◌, ◌≤◌, ◌==◌, ◌||◌, Bool, true, false, not, if◌then◌else◌, List, [], ◌∷◌, ◌++◌}
use Rattle.std.proofs.Common.{length, drop}
use Rattle.std.proofs.Common.{map, find, Option, Some, None, is_some, is_none, ap, sym, refl, subst, ◌∙◌, arith, true≢false, eqb-true}
use Rattle.std.proofs.lemmas.Bool.{cond_both, cond-true, cond-false}
use Rattle.std.specs.List.{AllByRecursion}
use Rattle.link_ends.proofs.Lists.{all_weaker}
use Rattle.dss_frame.specs.declared.dss.Dss.{Dss}
use Rattle.ddm_codepoints.specs.declared.code_class.CodeClass.{CodeClass}
use Rattle.ddm_codepoints.specs.declared.code_class.CodeClass.TheVariants.{Access, Pass, UnitEnd, Object, Reply, Unknown}
use Rattle.ddm_codepoints.specs.CodeClass.{class_of, is_command}
use Rattle.ddm_codepoints.specs.CodePoint.{excsat, accsec, secchk, accrdb, accrdbrm, enduowrm}
use Rattle.access_handshake.specs.declared.stage.Stage.{Stage}
use Rattle.access_handshake.specs.Stage.{is_for_database, next_stage}
use Rattle.access_handshake.specs.Excsat.{excsat_answer}
use Rattle.access_handshake.specs.Accsec.{accsec_answer}
use Rattle.access_handshake.specs.Rdbnam.{rdbnam_answer}
use Rattle.reply_texts.specs.Reply.{cmdnsp_object, prccnv_object}
use Rattle.access_handshake.specs.declared.stage.Stage.TheVariants.{New, Attached, Chosen, Checked, Accessed}
use Rattle.unit_segments.specs.declared.command.Command.{Command}
use Rattle.unit_segments.specs.Command.{ends_unit, is_passed, data_of}
use Rattle.unit_segments.specs.Limit.{most_reply_body}
use Rattle.unit_segments.specs.Release.{asked, asked_body}
use Rattle.unit_segments.specs.Segment.{goes_on_a_run}
use Rattle.unit_segments.specs.Spelling.{numbered}
use Rattle.unit_segments.specs.Strip.{stripped, is_object_of, end_number, end_number_from, replies_to, has_ended, is_granted, end_says, sets_of, given_back}
use Rattle.unit_segments.specs.Strip.{replies_of}
use Rattle.unit_segments.specs.Accepts.{gives_admission, has_accrdbrm}
use Rattle.plain_model.specs.Standing.{Standing, attached, checked, accessed, log_with, after_end}
use Rattle.plain_model.specs.UnitEnd.{unasked, ends, releases, end_of, sets_in}
use Rattle.plain_model.specs.Group.{Meaning, Values, Laws, IsCommand, IsReplyTo}
use Rattle.plain_model.specs.Local.{Refuses, to_excsat, to_accsec, to_rdbnam, allowed_answer, local_answer}
use Rattle.plain_model.specs.Answered.{standing_after, is_work}
use Rattle.plain_model.specs.Plain.{seen}
use Rattle.plain_model.proofs.Segments.{IsSegment, IsCut, Closes, is_end, end_from, drop_nothing, next_number, not_end_next, cons_nil, head_is}
use Rattle.plain_model.proofs.Replies.{HaveNumber, AreUpTo, none_beyond, none_zero, no_replies, replies_both}
use Rattle.plain_model.proofs.Runs.{without_number}
use Rattle.plain_model.proofs.Staged.{is_allowed, next_only, next_either}
use Rattle.plain_model.proofs.Says.{AreOthers, append_nil, all_given_back, end_is, message_is, sets_are_in, ends_alike, admission_same, access_same}

-- ---- commands without asking

pub passed_is : (c : Command) → is_end c ≡ false → unasked c ≡ c
passed_is c e = cond-false (ends_unit (class_of c.code)) _ c e

asked_number : (c : Command) → (asked c).corr ≡ c.corr
asked_number c = cond_both {A = Command} (ends_unit (class_of c.code)) (record c { body = asked_body c.body }) c (λ d. d.corr ≡ c.corr) (λ e. refl) (λ e. refl)

pub replies_number : {S U : Type 0} {m : Meaning S U} {v : Values S U} → Laws m v → (s : S) (u : U) → v.shared s → v.unit u → (ran : ℕ) (c : Command)
    → IsCommand c → c.corr ≡ 1 + ran → HaveNumber (suc ran) (m.replies s u (unasked c))
replies_number {m = m} laws s u sh un ran c is e =
    all_weaker (IsReplyTo (unasked c)) (λ d. d.corr ≡ suc ran) (m.replies s u (unasked c)) (λ d reply. reply.number ∙ without_number c ∙ e
    ∙ omega arith) (laws.answered s u c sh un is).0.each

pub asked_replies_number : {S U : Type 0} {m : Meaning S U} {v : Values S U} → Laws m v → (s : S) (u : U) → v.shared s → v.unit u → (ran : ℕ) (c : Command)
    → IsCommand c → c.corr ≡ 1 + ran → HaveNumber (suc ran) (m.replies s u (asked c))
asked_replies_number {m = m} laws s u sh un ran c is e =
    all_weaker (IsReplyTo (asked c)) (λ d. d.corr ≡ suc ran) (m.replies s u (asked c)) (λ d reply. reply.number ∙ asked_number c ∙ e
    ∙ omega arith) (laws.answered s u c sh un is).1.each

-- ---- the next command of a segment

behind : (k : ℕ) (g : List Command) → end_number_from k g ≢ 0 → k ≤ end_number_from k g
behind k g ne = go (end_from k g)
  where
    go : (end_number_from k g ≡ 0) ⊎ (k ≤ end_number_from k g) → k ≤ end_number_from k g
    go (inl z) = absurd (ne z)
    go (inr le) = le

-- what ends the unit is ahead while something is left to run
end_ahead : (ran k : ℕ) (g : List Command) (c : Command) (cs : List Command) → IsCut g → drop ran (numbered k g) ≡ c ∷ cs
    → end_number_from k g ≢ 0 → k + ran ≤ end_number_from k g
end_ahead ran k [] c cs cut e ne = absurd (ne refl)
end_ahead zero k (d ∷ g) c cs cut e ne = go (is_end d) refl
  where
    go : (b : Bool) → is_end d ≡ b → k + 0 ≤ end_number_from k (d ∷ g)
    go true f = subst (λ n. k + 0 ≤ n) (sym (cond-true (is_end d) k (end_number_from (k + 1) g) f)) (omega arith)
    go false f =
        let is = cond-false (is_end d) k (end_number_from (k + 1) g) f in
        subst (λ n. k + 0 ≤ n) (sym is) (omega (arith, behind (k + 1) g (λ z. ne (is ∙ z))))
end_ahead (suc ran) k (d ∷ g) c cs cut e ne = go (end_ahead ran (k + 1) g c cs cut.1 e) (is_end d) refl
  where
    go : (end_number_from (k + 1) g ≢ 0 → (k + 1) + ran ≤ end_number_from (k + 1) g) → (b : Bool) → is_end d ≡ b
        → k + suc ran ≤ end_number_from k (d ∷ g)
    go ahead true f = absurd (cons_nil (sym e ∙ ap (λ h. drop ran (numbered (k + 1) h)) (subst (λ b. Closes b g) f cut.0) ∙ drop_nothing ran (k + 1)))
    go ahead false f =
        let is = cond-false (is_end d) k (end_number_from (k + 1) g) f in
        subst (λ n. k + suc ran ≤ n) (sym is) (omega (arith, ahead (λ z. ne (is ∙ z))))

-- nothing of the end is said then
unsaid : (ran : ℕ) (g : List Command) (c : Command) (cs : List Command) (part : List Dss) → IsCut g → drop ran (numbered 1 g) ≡ c ∷ cs
    → AreUpTo ran part → has_ended g part ≡ false
unsaid ran g c cs part cut e all = go (end_number g) refl
  where
    nothing : replies_to (end_number g) part ≡ [] → has_ended g part ≡ false
    nothing none = ap (λ ds. is_some (find (is_object_of enduowrm) ds)) none

    go : (n : ℕ) → end_number g ≡ n → has_ended g part ≡ false
    go zero is = nothing (ap (λ n. replies_to n part) is ∙ none_zero ran part all)
    go (suc n) is = nothing (none_beyond ran (end_number g) part all
        (omega (arith, end_ahead ran 1 g c cs cut e (λ z. absurd (omega (arith, z, is))))))

-- nor by the replies to a command that doesn't end it
still_unsaid : (ran : ℕ) (g : List Command) (c : Command) (cs : List Command) (part r : List Dss) → IsCut g → drop ran (numbered 1 g) ≡ c ∷ cs
    → is_end c ≡ false → AreUpTo ran part → HaveNumber (suc ran) r → has_ended g (part ++ r) ≡ false
still_unsaid ran g c cs part r cut e end all more =
    let ne = not_end_next ran 1 g c cs (omega arith) e end in
    ap (λ ds. is_some (find (is_object_of enduowrm) ds)) (replies_both (end_number g) part r
    ∙ ap (λ xs. replies_to (end_number g) part ++ xs) (no_replies (end_number g) r (all_weaker (λ d. d.corr ≡ suc ran)
    (λ d. d.corr ≢ end_number g) r (λ d same is. ne (sym is ∙ same ∙ omega arith)) more))
    ∙ append_nil (replies_to (end_number g) part))
    ∙ unsaid ran g c cs part cut e all

next_goes : (ran k : ℕ) (g : List Command) (c : Command) (cs : List Command) → AllByRecursion (λ d. goes_on_a_run d ≡ true) g
    → drop ran (numbered k g) ≡ c ∷ cs → goes_on_a_run c ≡ true
next_goes ran k [] c cs all e = absurd (cons_nil (sym e ∙ drop_nothing ran k))
next_goes zero k (d ∷ g) c cs all e = sym (ap goes_on_a_run (head_is e)) ∙ all.0
next_goes (suc ran) k (d ∷ g) c cs all e = next_goes ran (k + 1) g c cs all.1 e

all_go : (g : List Command) → IsSegment g → is_work g ≡ true → AllByRecursion (λ d. goes_on_a_run d ≡ true) g
all_go [] seg work = tt
all_go (d ∷ g) seg work = (work, seg.goes)

pass_is : (k : CodeClass) → is_passed k ≡ true → k ≡ Pass
pass_is Access e = absurd (true≢false (sym e))
pass_is Pass e = refl
pass_is UnitEnd e = absurd (true≢false (sym e))
pass_is Object e = absurd (true≢false (sym e))
pass_is Reply e = absurd (true≢false (sym e))
pass_is Unknown e = absurd (true≢false (sym e))

or_first : (a b : Bool) → (a || b) ≡ true → b ≡ false → a ≡ true
or_first true b e f = refl
or_first false b e f = absurd (true≢false (sym e ∙ f))

passes : (c : Command) → goes_on_a_run c ≡ true → is_end c ≡ false → class_of c.code ≡ Pass
passes c e f = pass_is (class_of c.code) (or_first (is_passed (class_of c.code)) (is_end c) e f)

-- ---- commands of a unit

pub record Worked {S U : Type 0} (m : Meaning S U) (v : Values S U) (st : Standing) (g : List Command) (part asking : List Dss) (u : U) : Type 0 where
  -- while the unit of work hasn't ended the session stands where it stood
  pub opened : has_ended g part ≡ false → v.stands st u
  -- after its end it stands where the registers say, at the base where release is granted
  pub released : has_ended g part ≡ true → is_granted g asking ≡ true → (log_with st (sets_of g asking)).fault ≡ None
      → u ≡ m.base (after_end st (sets_of g asking))
  pub held : has_ended g part ≡ true → (log_with st (sets_of g asking)).fault ≡ None → v.stands (after_end st (sets_of g asking)) u

pub worked_start : {S U : Type 0} (m : Meaning S U) (v : Values S U) (st : Standing) (g : List Command) (u : U) → v.stands st u → Worked m v st g [] [] u
worked_start m v st g u at = record { opened = λ e. at; released = λ e. absurd (true≢false (sym e)); held = λ e. absurd (true≢false (sym e)) }

not_released : (d : Option Dss) (code value : ℕ) → is_some d ≡ false → end_says code value d ≡ false
not_released None code value e = refl
not_released (Some d) code value e = absurd (true≢false e)

pub worked_run : {S U : Type 0} {m : Meaning S U} {v : Values S U} → Laws m v → (st : Standing) (s : S) (u : U) → v.shared s → v.unit u
    → st.stage ≡ Accessed → (g : List Command) (ran : ℕ) (part asking : List Dss) (c : Command) (cs : List Command) → IsSegment g → is_work g ≡ true
    → IsCommand c → drop ran (numbered 1 g) ≡ c ∷ cs → AreUpTo ran part → AreUpTo ran asking → Worked m v st g part asking u
    → Worked m v st g (part ++ m.replies s u (unasked c)) (asking ++ m.replies s u (asked c)) (m.unit_after s u (unasked c))
worked_run {S} {U} {m = m} {v = v} laws st s u sh un at g ran part asking c cs seg work is e up ups w = go (is_end c) refl
  where
    r : List Dss
    r = m.replies s u (unasked c)

    a : List Dss
    a = m.replies s u (asked c)

    stood : v.stands st u
    stood = w.opened (unsaid ran g c cs part seg.cut e up)

    number : c.corr ≡ 1 + ran
    number = next_number ran 1 g c cs e

    nr : HaveNumber (suc ran) r
    nr = replies_number laws s u sh un ran c is number

    na : HaveNumber (suc ran) a
    na = asked_replies_number laws s u sh un ran c is number

    go : (b : Bool) → is_end c ≡ b → Worked m v st g (part ++ r) (asking ++ a) (m.unit_after s u (unasked c))
    go false end = record {
      opened = λ f. subst (λ (d : Command). v.stands st (m.unit_after s u d)) (sym (passed_is c end))
          (laws.passed st s u c sh stood is at (passes c (next_goes ran 1 g c cs (all_go g seg work) e) end));
      released = λ f. absurd (true≢false (sym f ∙ still_unsaid ran g c cs part r seg.cut e end up nr));
      held = λ f. absurd (true≢false (sym f ∙ still_unsaid ran g c cs part r seg.cut e end up nr));
    }
    go true end =
        let last = end_is ran g c cs seg.cut e end in
        let replies = laws.answered s u c sh un is in
        let alike : ends a ≡ ends r =
        ends_alike c (asked c) (unasked c) a r replies.1.each replies.0.each (laws.asking_same_replies s u c sh un is) in
        let ended : has_ended g (part ++ r) ≡ ends r = ap is_some (message_is ran g part r last up nr) in
        let granted : is_granted g (asking ++ a) ≡ releases a = ap (end_says _ _) (message_is ran g asking a last ups na) in
        let sets : sets_of g (asking ++ a) ≡ sets_in c a = sets_are_in ran g c asking a last (number ∙ omega arith) ups in
        record {
          opened = λ f. let no : ends a ≡ false = alike ∙ sym ended ∙ f in
              subst (v.stands st) (laws.asking_same_unit s u c sh un is (not_released (end_of a) _ _ no)) (laws.not_ended st s u c sh stood is at end no);
          released = λ f t fault. subst (λ ss. m.unit_after s u (unasked c) ≡ m.base (after_end st ss)) (sym sets)
              (laws.released st s u c sh stood is at end (alike ∙ sym ended ∙ f) (sym granted ∙ t)
              (ap (λ ss. (log_with st ss).fault) (sym sets) ∙ fault)).1;
          held = λ f fault. subst (λ ss. v.stands (after_end st ss) (m.unit_after s u (unasked c))) (sym sets)
              (laws.held st s u c sh stood is at end (alike ∙ sym ended ∙ f) (ap (λ ss. (log_with st ss).fault) (sym sets) ∙ fault));
        }

-- ---- commands of access

pub data Serves (st : Standing) (c : Command) : Type 0 where
  Checks : st.stage ≡ Chosen → (c.code == secchk) ≡ true → Serves st c
  Opens : st.stage ≡ Checked → (c.code == accrdb) ≡ true → Serves st c
  Works : st.stage ≡ Accessed → goes_on_a_run c ≡ true → Serves st c

serves_at : (stage : Stage) (st : Standing) (c : Command) → st.stage ≡ stage → is_none (next_stage stage c.code) ≡ false
    → (c.code == excsat) ≡ false → (c.code == accsec) ≡ false → Serves st c
serves_at New st c at ok no_excsat no_accsec = absurd (true≢false (sym (next_only (c.code == excsat) Attached ok) ∙ no_excsat))
serves_at Attached st c at ok no_excsat no_accsec =
    absurd (true≢false (sym (next_either (c.code == excsat) (c.code == accsec) Attached Chosen ok no_excsat) ∙ no_accsec))
serves_at Chosen st c at ok no_excsat no_accsec = Checks at (next_either (c.code == accsec) (c.code == secchk) Chosen Checked ok no_accsec)
serves_at Checked st c at ok no_excsat no_accsec = Opens at (next_only (c.code == accrdb) Accessed ok)
serves_at Accessed st c at ok no_excsat no_accsec = Works at (database (class_of c.code) (next_only (is_for_database (class_of c.code)) Accessed ok))
  where
    database : (k : CodeClass) → is_for_database k ≡ true → (is_passed k || ends_unit k) ≡ true
    database Access e = absurd (true≢false (sym e))
    database Pass e = refl
    database UnitEnd e = refl
    database Object e = absurd (true≢false (sym e))
    database Reply e = absurd (true≢false (sym e))
    database Unknown e = absurd (true≢false (sym e))

-- EXCSAT and ACCSEC are answered by the gateway itself
not_local : (name : List ℕ) (st : Standing) (c : Command) → is_some (local_answer name st c) ≡ false
    → ((c.code == excsat) ≡ false) × ((c.code == accsec) ≡ false)
unfolding local_answer
not_local name st c = cond_both (not (is_command (class_of c.code))) (Some (Refuses (cmdnsp_object c.code)))
    (if is_none (next_stage st.stage c.code) then Some (Refuses prccnv_object) else allowed_answer name c)
    (λ o. is_some o ≡ false → ((c.code == excsat) ≡ false) × ((c.code == accsec) ≡ false))
    (λ e f. absurd (true≢false f))
    (λ e. cond_both (is_none (next_stage st.stage c.code)) (Some (Refuses prccnv_object)) (allowed_answer name c)
    (λ o. is_some o ≡ false → ((c.code == excsat) ≡ false) × ((c.code == accsec) ≡ false))
    (λ e f. absurd (true≢false f))
    (λ e. go (c.code == excsat) (c.code == accsec)))
  where
    go : (a b : Bool) → is_some (if a then Some (to_excsat (excsat_answer (data_of c.body)))
        else (if b then Some (to_accsec (accsec_answer (data_of c.body)))
        else (if c.code == accrdb then to_rdbnam (rdbnam_answer (data_of c.body) name) else None))) ≡ false → (a ≡ false) × (b ≡ false)
    go true b f = absurd (true≢false f)
    go false true f = absurd (true≢false f)
    go false false f = (refl, refl)

-- what a server answers at each stage
pub serves : (name : List ℕ) (st : Standing) (c : Command) → is_some (local_answer name st c) ≡ false → Serves st c
serves name st c front =
    let no = not_local name st c front in
    serves_at st.stage st c refl (is_allowed name st c front) no.0 no.1

-- where access leads, and at the base where it was given
pub record Landed {S U : Type 0} (m : Meaning S U) (v : Values S U) (to : Standing) (u : U) : Type 0 where
  pub stands : v.stands to u
  pub base : to.stage ≡ Accessed → u ≡ m.base to

landed_base : {S U : Type 0} {m : Meaning S U} {v : Values S U} → Laws m v → (to : Standing) (u : U) → to.log ≡ [] → u ≡ m.base to → Landed m v to u
landed_base {v = v} laws to u unset e = record { stands = subst (v.stands to) (sym e) (laws.unset_base to unset); base = λ at. e }

secchk_other : (c : Command) → (c.code == secchk) ≡ true → is_end c ≡ false
unfolding class_of
secchk_other c e = ap (λ n. ends_unit (class_of n)) (eqb-true c.code secchk e)

accrdb_other : (c : Command) → (c.code == accrdb) ≡ true → is_end c ≡ false
unfolding class_of
accrdb_other c e = ap (λ n. ends_unit (class_of n)) (eqb-true c.code accrdb e)

alone_end : (d : Command) → is_end d ≡ false → end_number (d ∷ []) ≡ 0
alone_end d e = cond-false (is_end d) 1 0 e

numbered_others : (n number : ℕ) (r : List Dss) → number ≡ 0 → HaveNumber (suc n) r → AreOthers number r
numbered_others n number [] z all = tt
numbered_others n number (d ∷ r) z all = ((λ e. absurd (omega (arith, e, z, all.0))), numbered_others n number r z all.1)

readable_size : (c : Command) (r : List Dss) → AllByRecursion (IsReplyTo c) r
    → AllByRecursion (λ d. is_object_of accrdbrm d ≡ true → length d.body ≤ most_reply_body) r
readable_size c [] all = tt
readable_size c (d ∷ r) all = ((λ e. omega (arith, (all.0.readable e).0)), readable_size c r all.1)

abbrev is_past : Stage → Bool
is_past Accessed = true
is_past New = false
is_past Attached = false
is_past Chosen = false
is_past Checked = false

stage_apart : (a b : Stage) → is_past a ≡ true → is_past b ≡ false → a ≡ b → ⊥
stage_apart a b e f g = true≢false (sym e ∙ ap is_past g ∙ f)

-- ---- a command of access alone

abbrev at_one : Command → Command
at_one d = record d { corr = 1 }

-- it asks for nothing, so that nothing is taken out of its replies
record IsAlone {S U : Type 0} (m : Meaning S U) (s : S) (u : U) (d : Command) : Type 0 where
  pub is : IsCommand (at_one d)
  pub plain : unasked (at_one d) ≡ at_one d
  pub back : replies_of (d ∷ []) (m.replies s u (at_one d)) ≡ map (given_back (d ∷ [])) (m.replies s u (at_one d))

alone : {S U : Type 0} {m : Meaning S U} {v : Values S U} → Laws m v → (s : S) (u : U) → v.shared s → v.unit u → (d : Command) → is_end d ≡ false
    → IsCommand d → IsAlone m s u d
alone {m = m} laws s u sh un d other is =
    let ok : IsCommand (at_one d) = record { code = is.code; sound = is.sound; size = is.size } in
    let plain : unasked (at_one d) ≡ at_one d = passed_is (at_one d) other in
    let r = m.replies s u (at_one d) in
    let numbers : HaveNumber 1 r =
    subst (λ (w : Command). HaveNumber 1 (m.replies s u w)) plain (replies_number laws s u sh un 0 (at_one d) ok refl) in
    record {
      is = ok;
      plain = plain;
      back = all_given_back (d ∷ []) r (numbered_others 0 (end_number (d ∷ [])) r (alone_end d other) numbers);
    }

abbrev LandsAlone : {S U : Type 0} → Meaning S U → Values S U → Standing → S → U → Command → List Dss → Type 0
LandsAlone m v st s u d asking =
    Landed m v (standing_after st (d ∷ []) (seen (d ∷ []) (m.replies s u (unasked (at_one d))) asking)) (m.unit_after s u (unasked (at_one d)))

lands_alone : {S U : Type 0} (m : Meaning S U) (v : Values S U) (st to : Standing) (s : S) (u : U) (d : Command) (asking : List Dss)
    → unasked (at_one d) ≡ at_one d → standing_after st (d ∷ []) (seen (d ∷ []) (m.replies s u (at_one d)) asking) ≡ to
    → Landed m v to (m.unit_after s u (at_one d)) → LandsAlone m v st s u d asking
lands_alone m v st to s u d asking plain leads landed =
    subst (λ (w : Command). Landed m v (standing_after st (d ∷ []) (seen (d ∷ []) (m.replies s u w) asking)) (m.unit_after s u w)) (sym plain)
    (subst (λ x. Landed m v x (m.unit_after s u (at_one d))) (sym leads) landed)

pub secchk_run : {S U : Type 0} {m : Meaning S U} {v : Values S U} → Laws m v → (st : Standing) (s : S) (u : U) → v.shared s → v.stands st u
    → st.stage ≡ Chosen → (d : Command) → (d.code == secchk) ≡ true → IsCommand d → (asking : List Dss) → LandsAlone m v st s u d asking
unfolding stripped
secchk_run {S} {U} {m = m} {v = v} laws st s u sh stood at d code is asking =
    lands_alone m v st (if gives_admission r then checked d.body st else attached) s u d asking a.plain leads (go (gives_admission r) refl)
  where
    a : IsAlone m s u d
    a = alone laws s u sh (laws.standing_unit st u stood) d (secchk_other d code) is

    r : List Dss
    r = m.replies s u (at_one d)

    leads : standing_after st (d ∷ []) (seen (d ∷ []) r asking) ≡ (if gives_admission r then checked d.body st else attached)
    leads = cond-true (d.code == secchk) _ _ code
        ∙ ap (λ (b : Bool). if b then checked d.body st else attached) (ap gives_admission a.back ∙ admission_same (d ∷ []) r)

    go : (b : Bool) → gives_admission r ≡ b → Landed m v (if b then checked d.body st else attached) (m.unit_after s u (at_one d))
    go true e = record {
      stands = laws.admitted st s u (at_one d) sh stood a.is at (eqb-true d.code secchk code) e;
      base = λ f. absurd (stage_apart Accessed Checked refl refl (sym f));
    }
    go false e =
        landed_base laws attached (m.unit_after s u (at_one d)) refl (laws.not_admitted st s u (at_one d) sh stood a.is at (eqb-true d.code secchk code) e)

pub accrdb_run : {S U : Type 0} {m : Meaning S U} {v : Values S U} → Laws m v → (st : Standing) (s : S) (u : U) → v.shared s → v.stands st u
    → st.stage ≡ Checked → (d : Command) → (d.code == accrdb) ≡ true → IsCommand d → (asking : List Dss) → LandsAlone m v st s u d asking
unfolding stripped
accrdb_run {S} {U} {m = m} {v = v} laws st s u sh stood at d code is asking =
    lands_alone m v st (if has_accrdbrm r then accessed d.body st else st) s u d asking a.plain leads (go (has_accrdbrm r) refl)
  where
    un : v.unit u
    un = laws.standing_unit st u stood

    a : IsAlone m s u d
    a = alone laws s u sh un d (accrdb_other d code) is

    r : List Dss
    r = m.replies s u (at_one d)

    sizes : AllByRecursion (λ d. is_object_of accrdbrm d ≡ true → length d.body ≤ most_reply_body) r
    sizes = subst (λ (w : Command). AllByRecursion (λ d. is_object_of accrdbrm d ≡ true → length d.body ≤ most_reply_body) (m.replies s u w)) a.plain
        (readable_size (unasked (at_one d)) (m.replies s u (unasked (at_one d))) (laws.answered s u (at_one d) sh un a.is).0.each)

    no_secchk : (d.code == secchk) ≡ false
    no_secchk = ap (λ n. n == secchk) (eqb-true d.code accrdb code)

    leads : standing_after st (d ∷ []) (seen (d ∷ []) r asking) ≡ (if has_accrdbrm r then accessed d.body st else st)
    leads = cond-false (d.code == secchk) _ _ no_secchk ∙ cond-true (d.code == accrdb) _ _ code
        ∙ ap (λ (b : Bool). if b then accessed d.body st else st) (ap has_accrdbrm a.back ∙ access_same (d ∷ []) r sizes)

    go : (b : Bool) → has_accrdbrm r ≡ b → Landed m v (if b then accessed d.body st else st) (m.unit_after s u (at_one d))
    go true e = landed_base laws (accessed d.body st) (m.unit_after s u (at_one d)) refl
        (laws.let_in st s u (at_one d) sh stood a.is at (eqb-true d.code accrdb code) e)
    go false e = record {
      stands = laws.not_let_in st s u (at_one d) sh stood a.is at (eqb-true d.code accrdb code) e;
      base = λ f. absurd (stage_apart Accessed Checked refl refl (sym f ∙ at));
    }
