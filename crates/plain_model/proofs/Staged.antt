-- Work is done, and an error owed, only of a session whose database was accessed; and that it stays.
use Rattle.std.proofs.Common.{◌≡◌, ◌≢◌, ℕ, ◌==◌, ◌||◌, Bool, true, false, not, if◌then◌else◌, List, [], ◌∷◌, Option, Some, None, is_some, is_none, ap}
use Rattle.std.proofs.Common.{sym, refl, subst, ◌∙◌, true≢false, eqb-true}
use Rattle.std.proofs.lemmas.Bool.{cond_both, cond-false}
use Rattle.dss_frame.specs.declared.dss.Kind.TheVariants.{Reply}
use Rattle.ddm_codepoints.specs.CodeClass.{class_of, is_command}
use Rattle.ddm_codepoints.specs.CodePoint.{excsat, accsec, secchk, accrdb, rdbcmm}
use Rattle.access_handshake.specs.declared.stage.Stage.{Stage}
use Rattle.access_handshake.specs.declared.stage.Stage.TheVariants.{New, Attached, Chosen, Checked, Accessed}
use Rattle.access_handshake.specs.Stage.{is_for_database, next_stage}
use Rattle.access_handshake.specs.Excsat.{excsat_answer}
use Rattle.access_handshake.specs.Accsec.{accsec_answer}
use Rattle.access_handshake.specs.Rdbnam.{rdbnam_answer}
use Rattle.reply_texts.specs.Reply.{cmdnsp_object, prccnv_object}
use Rattle.reply_texts.specs.Closing.{last}
use Rattle.unit_segments.specs.declared.command.Command.{Command}
use Rattle.unit_segments.specs.Command.{ends_unit, is_passed, data_of}
use Rattle.unit_segments.specs.Segment.{goes_on_a_run}
use Rattle.unit_segments.specs.Strip.{end_number_from}
use Rattle.plain_model.specs.Standing.{Standing}
use Rattle.plain_model.specs.Local.{LocalAnswer, Refuses, Offers, Moves, to_excsat, to_accsec, to_rdbnam, allowed_answer, local_answer, is_local}
use Rattle.plain_model.specs.Local.{Locally, before, locally_by, answered_locally}
use Rattle.plain_model.specs.Core.{has_commit}
use Rattle.plain_model.specs.Answered.{is_work}
use Rattle.plain_model.proofs.Segments.{IsRunning, is_end, commit_ends}

-- ---- commands of a unit

or_right : (a b : Bool) → b ≡ true → (a || b) ≡ true
or_right true b e = refl
or_right false b e = e

or_left : (a b : Bool) → a ≡ true → (a || b) ≡ true
or_left a b e = ap (λ v. v || b) e

-- a run that has a command that ends its unit begins with a command of the unit
pub end_works : (n : ℕ) (g : List Command) → IsRunning g → end_number_from n g ≢ 0 → is_work g ≡ true
end_works n [] run ne = absurd (ne refl)
end_works n (c ∷ []) run ne = go (is_end c) refl
  where
    go : (b : Bool) → is_end c ≡ b → goes_on_a_run c ≡ true
    go true e = or_right (is_passed (class_of c.code)) (is_end c) e
    go false e = absurd (ne (cond-false (is_end c) n 0 e))
end_works n (c ∷ d ∷ g) run ne = or_left (is_passed (class_of c.code)) (is_end c) run.0

pub commit_works : (g : List Command) → IsRunning g → has_commit g ≡ true → is_work g ≡ true
commit_works [] run e = absurd (true≢false (sym e))
commit_works (c ∷ []) run e = or_right (is_passed (class_of c.code)) (is_end c) (commit_ends c (alone (c.code == rdbcmm) e))
  where
    alone : (b : Bool) → (b || false) ≡ true → b ≡ true
    alone true f = refl
    alone false f = f
commit_works (c ∷ d ∷ g) run e = or_left (is_passed (class_of c.code)) (is_end c) run.0

-- ---- what a server answers

-- a command with such a code point isn't one of a unit
pub isnt_work : (c : Command) (code : ℕ) → (c.code == code) ≡ true → (is_passed (class_of code) || ends_unit (class_of code)) ≡ false
    → goes_on_a_run c ≡ true → ⊥
isnt_work c code e f work = true≢false (sym work ∙ ap (λ n. is_passed (class_of n) || ends_unit (class_of n)) (eqb-true c.code code e) ∙ f)

pub next_only : (b : Bool) (st : Stage) → is_none (if b then Some st else None) ≡ false → b ≡ true
next_only true st e = refl
next_only false st e = absurd (true≢false e)

pub next_either : (a b : Bool) (st to : Stage) → is_none (if a then Some st else (if b then Some to else None)) ≡ false → a ≡ false → b ≡ true
next_either true b st to e f = absurd (true≢false f)
next_either false b st to e f = next_only b to e

next_accessed : (st : Stage) (c : Command) → is_none (next_stage st c.code) ≡ false → goes_on_a_run c ≡ true → st ≡ Accessed
unfolding class_of
next_accessed New c e work = absurd (isnt_work c excsat (next_only (c.code == excsat) Attached e) refl work)
next_accessed Attached c e work = go (c.code == excsat) refl
  where
    go : (b : Bool) → (c.code == excsat) ≡ b → Attached ≡ Accessed
    go true f = absurd (isnt_work c excsat f refl work)
    go false f = absurd (isnt_work c accsec (next_either (c.code == excsat) (c.code == accsec) Attached Chosen e f) refl work)
next_accessed Chosen c e work = go (c.code == accsec) refl
  where
    go : (b : Bool) → (c.code == accsec) ≡ b → Chosen ≡ Accessed
    go true f = absurd (isnt_work c accsec f refl work)
    go false f = absurd (isnt_work c secchk (next_either (c.code == accsec) (c.code == secchk) Chosen Checked e f) refl work)
next_accessed Checked c e work = absurd (isnt_work c accrdb (next_only (c.code == accrdb) Accessed e) refl work)
next_accessed Accessed c e work = refl

-- the stage allows what a server answers
pub is_allowed : (name : List ℕ) (st : Standing) (c : Command) → is_some (local_answer name st c) ≡ false → is_none (next_stage st.stage c.code) ≡ false
unfolding local_answer
is_allowed name st c = cond_both (not (is_command (class_of c.code))) (Some (Refuses (cmdnsp_object c.code)))
    (if is_none (next_stage st.stage c.code) then Some (Refuses prccnv_object) else allowed_answer name c)
    (λ o. is_some o ≡ false → is_none (next_stage st.stage c.code) ≡ false)
    (λ e f. absurd (true≢false f))
    (λ e. go (is_none (next_stage st.stage c.code)))
  where
    go : (b : Bool) → is_some (if b then Some (Refuses prccnv_object) else allowed_answer name c) ≡ false → b ≡ false
    go true f = absurd (true≢false f)
    go false f = refl

-- a server answers a segment of a unit only of a session with access
pub work_accessed : (name : List ℕ) (st : Standing) (g : List Command) → is_local name st g ≡ false → is_work g ≡ true → st.stage ≡ Accessed
work_accessed name st [] front work = absurd (true≢false (sym work))
work_accessed name st (c ∷ g) front work = next_accessed st.stage c (is_allowed name st c front) work

-- ---- a session with access stays there

-- what is no command for a database isn't allowed
isnt_allowed : (c : Command) (code : ℕ) → (c.code == code) ≡ true → is_for_database (class_of code) ≡ false
    → is_none (next_stage Accessed c.code) ≡ false → ⊥
isnt_allowed c code e f allowed =
    true≢false (sym (next_only (is_for_database (class_of c.code)) Accessed allowed)
    ∙ ap (λ n. is_for_database (class_of n)) (eqb-true c.code code e) ∙ f)

pub isnt_access : (name : List ℕ) (st : Standing) (c : Command) (code : ℕ) → st.stage ≡ Accessed → is_some (local_answer name st c) ≡ false
    → is_for_database (class_of code) ≡ false → (c.code == code) ≡ false
isnt_access name st c code at front f = go (c.code == code) refl
  where
    go : (b : Bool) → (c.code == code) ≡ b → (c.code == code) ≡ false
    go true e = absurd (isnt_allowed c code e f (subst (λ s. is_none (next_stage s c.code) ≡ false) at (is_allowed name st c front)))
    go false e = e

abbrev Stays : Option LocalAnswer → Type 0
Stays None = Unit {0}
Stays (Some (Refuses object)) = Unit {0}
Stays (Some (Offers object)) = Unit {0}
Stays (Some (Moves object to)) = ⊥

answer_stays : (name : List ℕ) (st : Standing) (c : Command) → st.stage ≡ Accessed → Stays (local_answer name st c)
unfolding local_answer class_of
answer_stays name st c at = cond_both (not (is_command (class_of c.code))) (Some (Refuses (cmdnsp_object c.code)))
    (if is_none (next_stage st.stage c.code) then Some (Refuses prccnv_object) else allowed_answer name c) Stays
    (λ e. tt)
    (λ e. cond_both (is_none (next_stage st.stage c.code)) (Some (Refuses prccnv_object)) (allowed_answer name c) Stays (λ f. tt)
    (λ f. let ok = subst (λ s. is_none (next_stage s c.code) ≡ false) at f in
    cond_both (c.code == excsat) (Some (to_excsat (excsat_answer (data_of c.body)))) (if c.code == accsec then Some (to_accsec (accsec_answer
    (data_of c.body))) else (if c.code == accrdb then to_rdbnam (rdbnam_answer (data_of c.body) name) else None)) Stays
    (λ g. absurd (isnt_allowed c excsat g refl ok))
    (λ g. cond_both (c.code == accsec) (Some (to_accsec (accsec_answer (data_of c.body)))) (if c.code == accrdb then to_rdbnam (rdbnam_answer
    (data_of c.body) name) else None) Stays
    (λ h. absurd (isnt_allowed c accsec h refl ok))
    (λ h. cond_both (c.code == accrdb) (to_rdbnam (rdbnam_answer (data_of c.body) name)) None Stays (λ i. to (rdbnam_answer (data_of c.body) name))
    (λ i. tt)))))
  where
    to : (o : Option (List ℕ)) → Stays (to_rdbnam o)
    to None = tt
    to (Some object) = tt

-- the session stands where it stood, and wasn't led elsewhere
pub record IsStill (st : Standing) (l : Locally) : Type 0 where
  pub standing : l.standing ≡ st
  pub moved : l.moved ≡ false

by_stays : (st : Standing) (c : Command) (answer : Option LocalAnswer) (more : Standing → Locally) → Stays answer → IsStill st (more st)
    → IsStill st (locally_by st c answer more)
by_stays st c None more stays is = record { standing = refl; moved = refl }
by_stays st c (Some (Refuses object)) more stays is = go c.go_on
  where
    go : (b : Bool) → IsStill st (if b then before (last Reply c.corr object) false (more st)
        else record { replies = last Reply c.corr object ∷ []; standing = st; moved = false; stopped = true })
    go true = record { standing = is.standing; moved = is.moved }
    go false = record { standing = refl; moved = refl }
by_stays st c (Some (Offers object)) more stays is = record { standing = is.standing; moved = is.moved }
by_stays st c (Some (Moves object to)) more stays is = absurd stays

pub locally_stays : (name : List ℕ) (g : List Command) (st : Standing) → st.stage ≡ Accessed → IsStill st (answered_locally name g st)
unfolding answered_locally
locally_stays name [] st at = record { standing = refl; moved = refl }
locally_stays name (c ∷ g) st at = by_stays st c (local_answer name st c) (answered_locally name g) (answer_stays name st c at) (locally_stays name g st at)
