-- What a command that ends a unit of work does, asking and not.
use Rattle.std.proofs.Common.{◌≡◌, ◌⊎◌, inl, inr, ℕ, ◌==◌, ◌&&◌, Bool, true, false, not, if◌then◌else◌, List, [], refl, ap}
use Rattle.std.proofs.Common.{◌∙◌}
use Rattle.std.proofs.Common.{is_none}
use Rattle.std.proofs.lemmas.Bool.{cond-true, cond-false}
use Rattle.ddm_objects.specs.Objects.{canonical_object}
use Rattle.ddm_codepoints.specs.CodeClass.{class_of}
use Rattle.ddm_codepoints.specs.CodePoint.{excsat, accsec, secchk, accrdb, rdbcmm, rdbrllbck}
use Rattle.ddm_codepoints.specs.Value.{committed, rolled_back}
use Rattle.reply_texts.specs.Reply.{cmdnsp_object, prccnv_object}
use Rattle.access_handshake.specs.declared.stage.Stage.{Stage}
use Rattle.access_handshake.specs.declared.stage.Stage.TheVariants.{Attached, Accessed}
use Rattle.access_handshake.specs.Stage.{next_stage}
use Rattle.unit_segments.specs.declared.command.Command.{Command}
use Rattle.unit_segments.specs.Command.{ends_unit, code_of, data_of}
use Rattle.unit_segments.specs.Release.{asked, asked_body, is_asking, kept_members}
use Rattle.plain_model.specs.UnitEnd.{unasked}
use Rattle.plain_model.specs.Group.{IsCommand}
use Rattle.member_replies.specs.declared.sql_outcome.SqlOutcome.{SqlOutcome}
use Rattle.member_replies.specs.declared.sql_outcome.SqlOutcome.TheVariants as outcome
use Rattle.member_replies.specs.Reply.{dsss_of}
use Rattle.group_store.specs.Rows.{conflicts}
use Rattle.group_store.specs.Unit.{UnitState, Cursors, nothing_at, after_commit, after_roll_back}
use Rattle.group_store.specs.Answered.{Answered, refuses}
use Rattle.group_store.specs.UnitEnd.{asks_sets, has_no_cursor, ends_with, ended, rdbcmm_answered, rdbrllbck_answered}
use Rattle.group_store.specs.Store.{StoreState, is_known, done, answered, unit_after, replies}
use Rattle.group_store.specs.GroupLaws.Cases.{IsNow}
use Rattle.group_store.specs.GroupLaws.Same.{made_code, made_number}
use Rattle.group_store.specs.GroupLaws.Asking.{IsEnd, is_end, ends_code, asked_release, asked_sets, unasked_release, unasked_sets}
use Rattle.group_store.specs.GroupLaws.Ends.{ended_replies}

-- ---- one of the two commands

abbrev pub EndsUnit : ℕ → Type 0
EndsUnit code = (code ≡ rdbcmm) ⊎ (code ≡ rdbrllbck)

pub commit_answered : (s : StoreState) (u : UnitState) (d : Command) → d.code ≡ rdbcmm → IsNow u d → answered s u d ≡ rdbcmm_answered s.rows u d
unfolding answered
commit_answered s u d e now =
    cond-false (not (is_known d.code)) (refuses u (cmdnsp_object d.code)) (if is_none (next_stage u.stage d.code) then refuses u prccnv_object else done s u d)
    (ap (λ n. not (is_known n)) e)
    ∙ cond-false (is_none (next_stage u.stage d.code)) (refuses u prccnv_object) (done s u d) now
    ∙ cond-false (d.code == excsat) _ _ (ap (λ n. n == excsat) e)
    ∙ cond-false (d.code == accsec) _ _ (ap (λ n. n == accsec) e)
    ∙ cond-false (d.code == secchk) _ _ (ap (λ n. n == secchk) e)
    ∙ cond-false (d.code == accrdb) _ _ (ap (λ n. n == accrdb) e)
    ∙ cond-true (d.code == rdbcmm) _ _ (ap (λ n. n == rdbcmm) e)

pub roll_back_answered : (s : StoreState) (u : UnitState) (d : Command) → d.code ≡ rdbrllbck → IsNow u d → answered s u d ≡ rdbrllbck_answered u d
unfolding answered
roll_back_answered s u d e now =
    cond-false (not (is_known d.code)) (refuses u (cmdnsp_object d.code)) (if is_none (next_stage u.stage d.code) then refuses u prccnv_object else done s u d)
    (ap (λ n. not (is_known n)) e)
    ∙ cond-false (is_none (next_stage u.stage d.code)) (refuses u prccnv_object) (done s u d) now
    ∙ cond-false (d.code == excsat) _ _ (ap (λ n. n == excsat) e)
    ∙ cond-false (d.code == accsec) _ _ (ap (λ n. n == accsec) e)
    ∙ cond-false (d.code == secchk) _ _ (ap (λ n. n == secchk) e)
    ∙ cond-false (d.code == accrdb) _ _ (ap (λ n. n == accrdb) e)
    ∙ cond-false (d.code == rdbcmm) _ _ (ap (λ n. n == rdbcmm) e)
    ∙ cond-true (d.code == rdbrllbck) _ _ (ap (λ n. n == rdbrllbck) e)

ends_known : (code : ℕ) → EndsUnit code → is_known code ≡ true
ends_known code (inl e) = ap is_known e
ends_known code (inr e) = ap is_known e

-- where the stage doesn't allow it
pub not_now_answered : (s : StoreState) (u : UnitState) (d : Command) → EndsUnit d.code → is_none (next_stage u.stage d.code) ≡ true
    → answered s u d ≡ refuses u prccnv_object
unfolding answered
not_now_answered s u d ends not_now =
    cond-false (not (is_known d.code)) (refuses u (cmdnsp_object d.code)) (if is_none (next_stage u.stage d.code) then refuses u prccnv_object else done s u d)
    (ap not (ends_known d.code ends))
    ∙ cond-true (is_none (next_stage u.stage d.code)) (refuses u prccnv_object) (done s u d) not_now

accessed_now : (code : ℕ) → EndsUnit code → is_none (next_stage Accessed code) ≡ false
unfolding class_of
accessed_now code (inl e) = ap (λ n. is_none (next_stage Accessed n)) e
accessed_now code (inr e) = ap (λ n. is_none (next_stage Accessed n)) e

pub is_now : (u : UnitState) (code : ℕ) → u.stage ≡ Accessed → EndsUnit code → is_none (next_stage u.stage code) ≡ false
is_now u code at ends = ap (λ (stage : Stage). is_none (next_stage stage code)) at ∙ accessed_now code ends

-- ---- how the unit ends: what is left of it, and what is answered

abbrev pub left : UnitState → Cursors → UnitState
left u cursors = record u { writes = []; prepared = []; cursors = cursors }

pub record EndsSo (s : StoreState) (u : UnitState) (code : ℕ) : Type 0 where
  pub disposition : ℕ
  pub outcome : SqlOutcome
  pub cursors : Cursors
  pub is : (d : Command) → d.code ≡ code → answered s u d ≡ ended disposition outcome (left u cursors) d

commit_so : (s : StoreState) (u : UnitState) (code : ℕ) → code ≡ rdbcmm → is_none (next_stage u.stage code) ≡ false → (b : Bool) → conflicts s.rows u.writes ≡ b
    → EndsSo s u code
unfolding rdbcmm_answered
commit_so s u code e now true f = record {
  disposition = rolled_back;
  outcome = outcome.Conflict;
  cursors = [];
  is = λ d is. commit_answered s u d (is ∙ e) (ap (λ n. is_none (next_stage u.stage n)) is ∙ now)
      ∙ cond-true (conflicts s.rows u.writes) (ended rolled_back outcome.Conflict (after_roll_back u) d)
      (ended committed outcome.Success (after_commit u) d) f;
}
commit_so s u code e now false f = record {
  disposition = committed;
  outcome = outcome.Success;
  cursors = (after_commit u).cursors;
  is = λ d is. commit_answered s u d (is ∙ e) (ap (λ n. is_none (next_stage u.stage n)) is ∙ now)
      ∙ cond-false (conflicts s.rows u.writes) (ended rolled_back outcome.Conflict (after_roll_back u) d)
      (ended committed outcome.Success (after_commit u) d) f;
}

pub ends_so : (s : StoreState) (u : UnitState) (code : ℕ) → is_none (next_stage u.stage code) ≡ false → EndsUnit code → EndsSo s u code
unfolding rdbrllbck_answered
ends_so s u code now (inl e) = commit_so s u code e now (conflicts s.rows u.writes) refl
ends_so s u code now (inr e) = record {
  disposition = rolled_back;
  outcome = outcome.Success;
  cursors = [];
  is = λ d is. roll_back_answered s u d (is ∙ e) (ap (λ n. is_none (next_stage u.stage n)) is ∙ now);
}

-- ---- asking and not

pub record Both (s : StoreState) (u : UnitState) (c : Command) : Type 0 where
  pub disposition : ℕ
  pub outcome : SqlOutcome
  pub cursors : Cursors
  pub asked_replies : replies s u (asked c) ≡ ended_replies c.corr disposition outcome (left u cursors) (has_no_cursor (left u cursors)) true
  pub asked_unit : unit_after s u (asked c) ≡ (if has_no_cursor (left u cursors) then nothing_at Attached else left u cursors)
  pub unasked_replies : replies s u (unasked c) ≡ ended_replies c.corr disposition outcome (left u cursors) false false
  pub unasked_unit : unit_after s u (unasked c) ≡ left u cursors

abbrev pub unasked_body : List ℕ → List ℕ
unasked_body body = canonical_object (code_of body) (kept_members is_asking (data_of body))

pub asked_code : (c : Command) → (asked c).code ≡ c.code
asked_code c = made_code asked_body c

pub unasked_code : (c : Command) → (unasked c).code ≡ c.code
unasked_code c = made_code unasked_body c

pub asked_number : (c : Command) → (asked c).corr ≡ c.corr
asked_number c = made_number asked_body c

pub unasked_number : (c : Command) → (unasked c).corr ≡ c.corr
unasked_number c = made_number unasked_body c

both_are : (s : StoreState) (u : UnitState) (c : Command) → IsEnd c → EndsSo s u c.code → Both s u c
unfolding replies unit_after
both_are s u c end so =
    let kept : UnitState = left u so.cursors in
    let asked_is : answered s u (asked c) ≡ ends_with so.disposition so.outcome kept (has_no_cursor kept) true =
    so.is (asked c) (asked_code c)
    ∙ ap (λ (b : Bool). ends_with so.disposition so.outcome kept (b && has_no_cursor kept) (asks_sets (asked c))) (asked_release c end)
    ∙ ap (λ (b : Bool). ends_with so.disposition so.outcome kept (has_no_cursor kept) b) (asked_sets c end) in
    let unasked_is : answered s u (unasked c) ≡ ends_with so.disposition so.outcome kept false false =
    so.is (unasked c) (unasked_code c)
    ∙ ap (λ (b : Bool). ends_with so.disposition so.outcome kept (b && has_no_cursor kept) (asks_sets (unasked c))) (unasked_release c end)
    ∙ ap (λ (b : Bool). ends_with so.disposition so.outcome kept false b) (unasked_sets c end) in
    record {
      disposition = so.disposition;
      outcome = so.outcome;
      cursors = so.cursors;
      asked_replies = ap (λ n. dsss_of n (answered s u (asked c)).said) (asked_number c) ∙ ap (λ (a : Answered). dsss_of c.corr a.said) asked_is;
      asked_unit = ap (λ (a : Answered). a.unit) asked_is;
      unasked_replies = ap (λ n. dsss_of n (answered s u (unasked c)).said) (unasked_number c) ∙ ap (λ (a : Answered). dsss_of c.corr a.said) unasked_is;
      unasked_unit = ap (λ (a : Answered). a.unit) unasked_is;
    }

pub both_of : (s : StoreState) (u : UnitState) (c : Command) → IsCommand c → ends_unit (class_of c.code) ≡ true → is_none (next_stage u.stage c.code) ≡ false
    → Both s u c
both_of s u c is ends now = both_are s u c (is_end c is ends) (ends_so s u c.code now (ends_code c.code ends))
