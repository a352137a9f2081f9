-- The small group keeps the laws of groups.
use Rattle.std.proofs.Common.{◌≡◌, ◌≢◌, inl, inr, ℕ, ◌==◌, ◌&&◌, Bool, true, false, not, List, [], ◌∷◌, refl, sym, ap}
use Rattle.std.proofs.Common.{◌∙◌, subst, true≢false}
use Rattle.std.proofs.Common.{Option, Some, None, is_some, is_none, eqb-true}
use Rattle.std.specs.List.{AllByRecursion}
use Rattle.std.proofs.lemmas.Bool.{cond_both, cond-false, and_parts, eq-eqb}
use Rattle.dss_frame.specs.declared.dss.Dss.{Dss}
use Rattle.ddm_objects.specs.Objects.{extent_at, object_at, first_object}
use Rattle.ddm_codepoints.specs.CodeClass.{class_of}
use Rattle.ddm_codepoints.specs.CodePoint.{rdbcmm, rdbrllbck}
use Rattle.ddm_codepoints.specs.Value.{committed, rolled_back}
use Rattle.reply_texts.specs.Reply.{prccnv_object}
use Rattle.access_handshake.specs.declared.stage.Stage.{Stage}
use Rattle.access_handshake.specs.declared.stage.Stage.TheVariants.{Attached, Accessed}
use Rattle.access_handshake.specs.Stage.{next_stage}
use Rattle.unit_segments.specs.declared.command.Command.{Command}
use Rattle.unit_segments.specs.Command.{ends_unit}
use Rattle.unit_segments.specs.Release.{asked, asked_body}
use Rattle.plain_model.specs.UnitEnd.{unasked, ends, releases, says_committed, commits, without_asked}
use Rattle.plain_model.specs.Group.{Laws, IsCommand, IsReplyTo, AreReplies}
use Rattle.member_replies.specs.declared.sql_outcome.SqlOutcome.TheVariants as outcome
use Rattle.member_replies.specs.Reply.{Said, message, dsss_of}
use Rattle.group_store.specs.Rows.{conflicts}
use Rattle.group_store.specs.Unit.{UnitState, nothing_at, after_commit, after_roll_back}
use Rattle.group_store.specs.Answered.{Answered}
use Rattle.group_store.specs.UnitEnd.{asks_release, asks_sets, has_no_cursor, ended, rdbcmm_answered, rdbrllbck_answered}
use Rattle.group_store.specs.Store.{StoreState, answered, commits_now, with_commit, data_after, unit_after, replies, base, store_meaning}
use Rattle.group_store.specs.Values.{IsUnit, store_values}
use Rattle.group_store.specs.GroupLaws.Replies.{IsFine, AreFine, all_fine, readable, end_fits}
use Rattle.group_store.specs.GroupLaws.Asking.{ends_code}
use Rattle.group_store.specs.GroupLaws.Ends.{it_releases, it_commits, it_rolls_back, it_says}
use Rattle.group_store.specs.GroupLaws.Units.{unit_stays}
use Rattle.group_store.specs.GroupLaws.Same.{made_same, data_by_code, does_the_same}
use Rattle.group_store.specs.GroupLaws.UnitEnds.{EndsUnit, commit_answered, roll_back_answered, not_now_answered, left, Both, both_of, asked_code, unasked_code}
use Rattle.group_store.specs.GroupLaws.UnitEnds.{asked_number, unasked_number, unasked_body}
use Rattle.group_store.specs.GroupLaws.Access.{greeted, led_back}
use Rattle.group_store.specs.GroupLaws.SetsAlone.{led_alike, answers_alike}
use Rattle.group_store.specs.GroupLaws.Standing.{at_unset, at_its_base, base_is_unit, stands_is_unit, stands_at, is_admitted, is_not_admitted, is_let_in}
use Rattle.group_store.specs.GroupLaws.Standing.{is_not_let_in, is_passed_on, it_has_ended, is_held, is_released}

-- ---- replies

abbrev is_said : List Dss → Bool
is_said [] = false
is_said (d ∷ replies) = true

each_reply : (c : Command) (said : List Said) → AllByRecursion IsFine said → AllByRecursion (IsReplyTo c) (dsss_of c.corr said)
each_reply c [] each = tt
each_reply c (one ∷ said) each = (
  record { number = refl; kind = each.0.kind; readable = readable c.corr one each.0; end_fits = end_fits c.corr one each.0 },
  each_reply c said each.1,
)

some_said : (number : ℕ) (said : List Said) → AreFine said → dsss_of number said ≢ []
some_said number [] fine = λ e. absurd (true≢false (sym fine.some))
some_said number (one ∷ said) fine = λ e. absurd (true≢false (ap is_said e))

are_replies : (s : StoreState) (u : UnitState) (c : Command) → AreReplies c (replies s u c)
unfolding replies
are_replies s u c =
    let fine = all_fine s u c in
    record { some = some_said c.corr (answered s u c).said fine; each = each_reply c (answered s u c).said fine.each }

-- ---- the data

refusal_commits_none : (number : ℕ) → says_committed (dsss_of number (message prccnv_object ∷ [])) ≡ false
unfolding prccnv_object object_at extent_at first_object
refusal_commits_none number = refl

is_allowed : (o : Option Stage) → is_some o ≡ true → is_none o ≡ false
is_allowed None e = absurd (true≢false (sym e))
is_allowed (Some stage) e = refl

no_conflict : (b : Bool) → not b ≡ true → b ≡ false
no_conflict true e = absurd (true≢false (sym e))
no_conflict false e = refl

commit_said : (s : StoreState) (u : UnitState) (d : Command) → (d.code == rdbcmm) ≡ true → is_some (next_stage u.stage d.code) ≡ true
    → not (conflicts s.rows u.writes) ≡ true → says_committed (replies s u d) ≡ true
unfolding replies rdbcmm_answered
commit_said s u d e now free =
    let code : d.code ≡ rdbcmm = eqb-true d.code rdbcmm e in
    ap (λ (a : Answered). says_committed (dsss_of d.corr a.said)) (commit_answered s u d code (is_allowed (next_stage u.stage d.code) now)
    ∙ cond-false (conflicts s.rows u.writes) (ended rolled_back outcome.Conflict (after_roll_back u) d) (ended committed outcome.Success (after_commit u) d)
    (no_conflict (conflicts s.rows u.writes) free))
    ∙ it_commits d.corr outcome.Success (after_commit u) (asks_release d && has_no_cursor (after_commit u)) (asks_sets d)

stay : (s : StoreState) (u : UnitState) (d : Command) → commits d (replies s u d) ≡ false → data_after s u d ≡ s
unfolding data_after
stay s u d none = cond_both (commits_now s u d) (with_commit s u.writes) s (λ (t : StoreState). t ≡ s) (λ e. absurd (go e)) (λ e. refl)
  where
    go : commits_now s u d ≡ true → ⊥
    go e =
        let first = and_parts (d.code == rdbcmm && is_some (next_stage u.stage d.code)) (not (conflicts s.rows u.writes)) e in
        let both = and_parts (d.code == rdbcmm) (is_some (next_stage u.stage d.code)) first.0 in
        true≢false (sym (rw (both.0, commit_said s u d both.0 both.1 first.1) refl) ∙ none)

roll_back_said : (s : StoreState) (u : UnitState) (d : Command) → d.code ≡ rdbrllbck → (b : Bool) → is_none (next_stage u.stage d.code) ≡ b
    → says_committed (replies s u d) ≡ false
unfolding replies rdbrllbck_answered
roll_back_said s u d e true now =
    ap (λ (a : Answered). says_committed (dsss_of d.corr a.said)) (not_now_answered s u d (inr e) now) ∙ refusal_commits_none d.corr
roll_back_said s u d e false now =
    ap (λ (a : Answered). says_committed (dsss_of d.corr a.said)) (roll_back_answered s u d e now)
    ∙ it_rolls_back d.corr outcome.Success (after_roll_back u) (asks_release d && has_no_cursor (after_roll_back u)) (asks_sets d)

no_other_commits : (s : StoreState) (u : UnitState) (d : Command) → ends_unit (class_of d.code) ≡ true → (d.code == rdbcmm) ≡ false
    → says_committed (replies s u d) ≡ false
no_other_commits s u d ends none = go (ends_code d.code ends)
  where
    go : EndsUnit d.code → says_committed (replies s u d) ≡ false
    go (inl e) = absurd (true≢false (sym (eq-eqb d.code rdbcmm e) ∙ none))
    go (inr e) = roll_back_said s u d e (is_none (next_stage u.stage d.code)) refl

-- ---- asking

not_asked : (c : Command) → ends_unit (class_of c.code) ≡ false → asked c ≡ unasked c
not_asked c e =
    cond-false (ends_unit (class_of c.code)) (record c { body = asked_body c.body }) c e
    ∙ sym (cond-false (ends_unit (class_of c.code)) (record c { body = unasked_body c.body }) c e)

refused_alike : (s : StoreState) (u : UnitState) (c : Command) → EndsUnit c.code → is_none (next_stage u.stage c.code) ≡ true
    → answered s u (asked c) ≡ answered s u (unasked c)
refused_alike s u c ends not_now =
    not_now_answered s u (asked c) (subst EndsUnit (sym (asked_code c)) ends) (ap (λ n. is_none (next_stage u.stage n)) (asked_code c) ∙ not_now)
    ∙ sym (not_now_answered s u (unasked c) (subst EndsUnit (sym (unasked_code c)) ends)
    (ap (λ n. is_none (next_stage u.stage n)) (unasked_code c) ∙ not_now))

same_rest : (s : StoreState) (u : UnitState) (c : Command) → IsUnit u → IsCommand c
    → without_asked c (replies s u (asked c)) ≡ without_asked c (replies s u (unasked c))
unfolding replies
same_rest s u c unit is = by_class (ends_unit (class_of c.code)) refl
  where
    now : Both s u c → without_asked c (replies s u (asked c)) ≡ without_asked c (replies s u (unasked c))
    now both =
        let kept : UnitState = left u both.cursors in
        ap (without_asked c) both.asked_replies
        ∙ it_says c both.disposition both.outcome kept (has_no_cursor kept) true unit.each
        ∙ sym (it_says c both.disposition both.outcome kept false false unit.each)
        ∙ ap (without_asked c) (sym both.unasked_replies)

    by_stage : ends_unit (class_of c.code) ≡ true → (b : Bool) → is_none (next_stage u.stage c.code) ≡ b
        → without_asked c (replies s u (asked c)) ≡ without_asked c (replies s u (unasked c))
    by_stage ends true not_now =
        ap (λ (a : Answered). without_asked c (dsss_of (asked c).corr a.said)) (refused_alike s u c (ends_code c.code ends) not_now)
        ∙ ap (λ n. without_asked c (dsss_of n (answered s u (unasked c)).said)) (asked_number c ∙ sym (unasked_number c))
    by_stage ends false at = now (both_of s u c is ends at)

    by_class : (b : Bool) → ends_unit (class_of c.code) ≡ b → without_asked c (replies s u (asked c)) ≡ without_asked c (replies s u (unasked c))
    by_class true ends = by_stage ends (is_none (next_stage u.stage c.code)) refl
    by_class false e = ap (λ d. without_asked c (replies s u d)) (not_asked c e)

same_unit : (s : StoreState) (u : UnitState) (c : Command) → IsCommand c → releases (replies s u (asked c)) ≡ false
    → unit_after s u (asked c) ≡ unit_after s u (unasked c)
unfolding unit_after
same_unit s u c is none = by_class (ends_unit (class_of c.code)) refl
  where
    now : Both s u c → unit_after s u (asked c) ≡ unit_after s u (unasked c)
    now both =
        let kept : UnitState = left u both.cursors in
        let held : has_no_cursor kept ≡ false =
        sym (ap releases both.asked_replies ∙ it_releases c.corr both.disposition both.outcome kept (has_no_cursor kept) true) ∙ none in
        both.asked_unit ∙ cond-false (has_no_cursor kept) (nothing_at Attached) kept held ∙ sym both.unasked_unit

    by_stage : ends_unit (class_of c.code) ≡ true → (b : Bool) → is_none (next_stage u.stage c.code) ≡ b → unit_after s u (asked c) ≡ unit_after s u (unasked c)
    by_stage ends true not_now = ap (λ (a : Answered). a.unit) (refused_alike s u c (ends_code c.code ends) not_now)
    by_stage ends false at = now (both_of s u c is ends at)

    by_class : (b : Bool) → ends_unit (class_of c.code) ≡ b → unit_after s u (asked c) ≡ unit_after s u (unasked c)
    by_class true ends = by_stage ends (is_none (next_stage u.stage c.code)) refl
    by_class false e = ap (λ d. unit_after s u d) (not_asked c e)

-- ---- all of them

pub store_laws : Laws store_meaning store_values
store_laws = record {
  fresh_unit = record { each = tt; order = tt };
  base_unit = base_is_unit;
  standing_unit = stands_is_unit;
  data_kept = λ s u c shared unit is. (tt, tt);
  unit_kept = λ s u c shared unit is. (unit_stays s u (unasked c) unit, unit_stays s u (asked c) unit);
  answered = λ s u c shared unit is. (are_replies s u (unasked c), are_replies s u (asked c));
  data_stay = λ s u c shared unit is. (stay s u (unasked c), stay s u (asked c));
  nothing_else_commits = λ s u c shared unit is. (no_other_commits s u (unasked c), no_other_commits s u (asked c));
  asking_same_data = λ s u c shared unit is. data_by_code s u (asked c) (unasked c) (asked_code c ∙ sym (unasked_code c));
  asking_same_replies = λ s u c shared unit is. same_rest s u c unit is;
  asking_same_unit = λ s u c shared unit is. same_unit s u c is;
  anywhere = λ s u c shared unit is d same. (
    does_the_same s u (unasked c) (unasked d) (made_same unasked_body c d same),
    does_the_same s u (asked c) (asked d) (made_same asked_body c d same),
  );
  released = λ st s u c shared stands is at ends ended released none.
      is_released st s u c (stands_at st u Accessed at stands) is at ends released none;
  held = λ st s u c shared stands is at ends ended none. is_held st s u c (stands_at st u Accessed at stands) is at ends none;
  greeted = greeted;
  led_back = λ name typ st are. led_back name typ st;
  unset_base = at_unset;
  at_base = at_its_base;
  admitted = λ st s u c shared stands is at code given. is_admitted st s u c stands at code given;
  not_admitted = λ st s u c shared stands is at code refused. is_not_admitted st s u c stands at code refused;
  let_in = λ st s u c shared stands is at code given. is_let_in st s u c stands at code given;
  not_let_in = λ st s u c shared stands is at code refused. is_not_let_in st s u c stands at code refused;
  passed = λ st s u c shared stands is at pass. is_passed_on st s u c stands at pass;
  not_ended = λ st s u c shared stands is at ends none.
      absurd (true≢false (sym (it_has_ended st s u c (stands_at st u Accessed at stands) is ends) ∙ none));
  sets_alone = λ st cs s t at sets are shared also. (led_alike cs s t (base st) sets, answers_alike cs s t (base st) sets);
}
