-- The next command of the segment in work runs: what a session keeps.
use Rattle.std.proofs.Common.{◌≡◌, ◌≢◌, ℕ, suc, ◌<◌, ◌+◌, ◌==◌, ◌&&◌, Bool, true, false, if◌then◌else◌, List, [], ◌∷◌, ◌++◌, drop, Some, None, ap}
use Rattle.std.proofs.Common.{sym, refl, subst, ◌∙◌, le_refl, arith, true≢false}
use Rattle.std.proofs.lemmas.Bool.{cond_both, cond-true, cond-false}
use Rattle.dss_frame.specs.declared.dss.Dss.{Dss}
use Rattle.ddm_objects.specs.Objects.{canonical_object}
use Rattle.ddm_codepoints.specs.CodeClass.{class_of}
use Rattle.ddm_codepoints.specs.CodePoint.{rdbcmm}
use Rattle.link_ends.proofs.Lists.{all_weaker}
use Rattle.unit_segments.specs.declared.command.Command.{Command}
use Rattle.unit_segments.specs.Command.{ends_unit, code_of, data_of}
use Rattle.unit_segments.specs.Release.{is_asking, kept_members}
use Rattle.unit_segments.specs.Spelling.{numbered}
use Rattle.unit_segments.specs.Strip.{stops, is_committed}
use Rattle.plain_model.specs.UnitEnd.{unasked, says_committed, commits}
use Rattle.plain_model.specs.Group.{Meaning, Values, Laws, IsCommand, IsReplyTo}
use Rattle.plain_model.specs.Plain.{Session, IsSending, segment_of, left_to_run, run_first}
use Rattle.plain_model.specs.Told.{run_commits}
use Rattle.plain_model.proofs.Puts.{put_same}
use Rattle.plain_model.proofs.Segments.{IsSegment, is_end, first_cut, numbered_segment, drop_segment, next_number, commit_ends, no_commit_next}
use Rattle.plain_model.proofs.Replies.{HaveNumber, AreUpTo, one_more, end_said, nothing_more_said}
use Rattle.plain_model.proofs.Accounts.{Account, count, books_more, rerouted_nothing, IsOpen}
use Rattle.plain_model.proofs.Cores.{is_bereft}
use Rattle.plain_model.proofs.Facts.{Fact, Works}

-- ---- a command without asking

pub without_code : (c : Command) → (unasked c).code ≡ c.code
without_code c = cond_both {A = Command} (ends_unit (class_of c.code)) (record c {
  body = canonical_object (code_of c.body) (kept_members is_asking
      (data_of c.body));
}) c (λ d. d.code ≡ c.code) (λ e. refl) (λ e. refl)

pub without_number : (c : Command) → (unasked c).corr ≡ c.corr
without_number c = cond_both {A = Command} (ends_unit (class_of c.code)) (record c {
  body = canonical_object (code_of c.body)
      (kept_members is_asking (data_of c.body));
}) c (λ d. d.corr ≡ c.corr) (λ e. refl) (λ e. refl)

pub left_is : (g : List Command) (ran : ℕ) (part : List Dss) (c : Command) (cs : List Command) → left_to_run g ran part ≡ c ∷ cs
    → drop ran (numbered 1 g) ≡ c ∷ cs
left_is g ran part c cs e = go (stops g part) refl
  where
    nil_cons : {x : Command} {xs : List Command} → [] ≡ x ∷ xs → ⊥
    nil_cons f = cc

    go : (b : Bool) → stops g part ≡ b → drop ran (numbered 1 g) ≡ c ∷ cs
    go true f = absurd (nil_cons (sym (cond-true (stops g part) [] (drop ran (numbered 1 g)) f) ∙ e))
    go false f = sym (cond-false (stops g part) [] (drop ran (numbered 1 g)) f) ∙ e

pub and_true : (a b : Bool) → (a && b) ≡ true → (a ≡ true) × (b ≡ true)
and_true true b e = (refl, e)
and_true false b e = absurd (true≢false (sym e))

-- ---- what the replies to the next command say

-- before and after it ran: whether the unit's commit is told
pub record Says (g : List Command) (part r : List Dss) (c : Command) : Type 0 where
  -- the commit is told now, and wasn't before
  pub now : commits c r ≡ true → (is_committed g part ≡ false) × (is_committed g (part ++ r) ≡ true)
  pub not_now : commits c r ≡ false → is_committed g (part ++ r) ≡ is_committed g part
  pub no_commit : (c.code == rdbcmm) ≡ false → is_committed g (part ++ r) ≡ true → is_committed g part ≡ true

says : {S U : Type 0} {m : Meaning S U} {v : Values S U} → Laws m v → (s : S) (u : U) → v.shared s → v.unit u
    → (g : List Command) (ran : ℕ) (part : List Dss) (c : Command) (cs : List Command)
    → IsSegment g → IsCommand c → drop ran (numbered 1 g) ≡ c ∷ cs → AreUpTo ran part → HaveNumber (suc ran) (m.replies s u (unasked c))
    → Says g part (m.replies s u (unasked c)) c
says {m = m} laws s u sh un g ran part c cs seg is e up num = go (is_end c) refl
  where
    r : List Dss
    r = m.replies s u (unasked c)

    other : is_end c ≡ true → (c.code == rdbcmm) ≡ false → says_committed r ≡ false
    other end isnt = (laws.nothing_else_commits s u c sh un is).0 (ap (λ code. ends_unit (class_of code)) (without_code c)
        ∙ end) (ap (λ code. code == rdbcmm) (without_code c) ∙ isnt)

    not_said : is_end c ≡ true → commits c r ≡ false → says_committed r ≡ false
    not_said end f = by (c.code == rdbcmm) refl
      where
        by : (b : Bool) → (c.code == rdbcmm) ≡ b → says_committed r ≡ false
        by true t = sym (ap (λ b. b && says_committed r) t) ∙ f
        by false t = other end t

    go : (b : Bool) → is_end c ≡ b → Says g part r c
    go true end =
        let both = end_said ran g c cs part r seg.cut e end up num in
        record {
          now = λ t. (both.0, both.1 ∙ (and_true (c.code == rdbcmm) (says_committed r) t).1);
          not_now = λ t. both.1 ∙ not_said end t ∙ sym both.0;
          no_commit = λ isnt t. absurd (true≢false (sym (sym both.1 ∙ t) ∙ other end isnt));
        }
    go false end =
        let same = nothing_more_said ran g c cs part r e end num in
        record {
          now = λ t. absurd (true≢false (sym (commit_ends c (and_true (c.code == rdbcmm) (says_committed r) t).0) ∙ end));
          not_now = λ t. same;
          no_commit = λ isnt t. sym same ∙ t;
        }

-- ---- the session

numbers : {S U : Type 0} {m : Meaning S U} {v : Values S U} → Laws m v → (s : S) (u : U) → v.shared s → v.unit u → (ran : ℕ) (c : Command)
    → IsCommand c → c.corr ≡ 1 + ran
    → HaveNumber (suc ran) (m.replies s u (unasked c))
numbers {m = m} laws s u sh un ran c is e =
    all_weaker (IsReplyTo (unasked c)) (λ d. d.corr ≡ suc ran) (m.replies s u (unasked c)) (λ d reply. reply.number ∙ without_number c ∙ e
    ∙ omega arith) (laws.answered s u c sh un is).0.each

no_wins : (a b : Bool) → (b ≡ true → a ≡ true) → a ≡ false → b ≡ false
no_wins a true h e = absurd (true≢false (sym (h refl) ∙ e))
no_wins a false h e = refl

works_run : {S U : Type 0} {m : Meaning S U} {v : Values S U} → Laws m v → (s : S) (q : Session U) (c : Command) (cs : List Command) → v.shared s
    → v.unit q.held → Works q.core q.ran q.part
    → IsSending q.core → q.core.sent ≡ true → IsCommand c → drop q.ran (numbered 1 (segment_of q)) ≡ c ∷ cs
    → HaveNumber (suc q.ran) (m.replies s q.held (unasked c))
    → Says (segment_of q) q.part (m.replies s q.held (unasked c)) c → Works q.core (suc q.ran) (q.part ++ m.replies s q.held (unasked c))
works_run {m = m} laws s q c cs sh un w sending sent is e num say = record {
  still_none = λ f. absurd (true≢false (sym sent ∙ f));
  owed_sent = λ ne. absurd (ne sending.owed);
  cut = w.cut;
  up_to = one_more q.ran q.part (m.replies s q.held (unasked c)) w.up_to num;
  again = w.again;
  wins = λ f. no_wins (is_committed (segment_of q) q.part) (is_committed (segment_of q) (q.part ++ m.replies s q.held (unasked c)))
      (say.no_commit (no_commit_next q.ran 1 (segment_of q) c cs e f)) (w.wins f);
}

pub run_keeps : {S U : Type 0} {m : Meaning S U} {v : Values S U} → Laws m v → (s : S) (q : Session U) (l : Account) (cs : List Command)
    → v.shared s → v.unit q.held → Fact q l
    → IsSending q.core → q.core.sent ≡ true → cs ≢ [] → left_to_run (segment_of q) q.ran q.part ≡ cs
    → Fact (run_first m s q cs) (count (if run_commits m s q.held cs then Some q.core.unit else None) l)
run_keeps laws s q l [] sh un f sending sent some e = absurd (some refl)
run_keeps {S} {U} {m = m} laws s q l (c ∷ cs) sh un f sending sent some e =
    let g = segment_of q in
    let r = m.replies s q.held (unasked c) in
    let left = left_is g q.ran q.part c cs e in
    let seg = first_cut q.core.segments f.works.cut in
    let is : IsCommand c = (subst IsSegment left (drop_segment q.ran (numbered 1 g) (numbered_segment 1 g seg))).commands.0 in
    let num = numbers laws s q.held sh un q.ran c is (next_number q.ran 1 g c cs left) in
    let say = says laws s q.held sh un g q.ran q.part c cs seg is left f.works.up_to num in
    let works = works_run laws s q c cs sh un f.works sending sent is left num say in
    let live = ap is_bereft sending.live in
    go works say live (commits c r) refl
  where
    after : Session U
    after = run_first m s q (c ∷ cs)

    go : Works q.core (suc q.ran) (q.part ++ m.replies s q.held (unasked c)) → Says (segment_of q) q.part (m.replies s q.held (unasked c)) c
        → is_bereft q.core.end ≡ false
        → (b : Bool) → commits c (m.replies s q.held (unasked c)) ≡ b
        → Fact after (count (if commits c (m.replies s q.held (unasked c)) then Some q.core.unit else None) l)
    go works say live true t = subst (λ b. Fact after (count (if b then Some q.core.unit else None) l)) (sym t)
        (let none : l.commits q.core.unit ≡ 0 = f.working ∙ ap (λ b. if b then 1 else 0) (say.now t).0 in record {
          books = books_more q.core.unit q.core.owed (is_bereft q.core.end) q.in_flight q.in_flight l q.core.unit f.books (le_refl q.core.unit) none
              (subst IsOpen (sym (f.books.untold live q.core.unit (le_refl q.core.unit))) tt)
              (λ ro. absurd (rerouted_nothing sending.owed ro))
              (λ k h. let lt : k < q.core.unit = (f.books.pending k h).below in ((λ eq. omega arith), h)) f.books.shape;
          bereft_sent = f.bereft_sent;
          works = works;
          working = put_same l.commits q.core.unit (suc (l.commits q.core.unit)) ∙ ap suc none ∙ sym (ap (λ b. if b then 1 else 0) (say.now t).1);
        })
    go works say live false t = subst (λ b. Fact after (count (if b then Some q.core.unit else None) l)) (sym t)
        (record { books = f.books; bereft_sent = f.bereft_sent; works = works; working = f.working ∙ sym (ap (λ b. if b then 1 else 0) (say.not_now t)) })
