-- A command that was on its way when its unit was lost runs: what a session keeps.
use Rattle.std.proofs.Common.{◌≡◌, ◌≢◌, ℕ, suc, ◌==◌, ◌||◌, Bool, true, false, if◌then◌else◌, List, [], ◌∷◌, Some, None, ap, sym, refl, subst, ◌∙◌}
use Rattle.std.proofs.Common.{arith, true≢false}
use Rattle.unit_segments.specs.declared.command.Command.{Command}
use Rattle.ddm_codepoints.specs.CodePoint.{rdbcmm}
use Rattle.plain_model.specs.UnitEnd.{unasked, says_committed, commits}
use Rattle.plain_model.specs.Group.{Meaning}
use Rattle.plain_model.specs.Core.{has_commit}
use Rattle.plain_model.specs.Plain.{Session, InFlight, put, run_late}
use Rattle.plain_model.specs.Told.{run_commits}
use Rattle.plain_model.proofs.Puts.{by_equal, put_same, put_other, put_holds}
use Rattle.plain_model.proofs.Segments.{IsSegment, segment_tail, no_commit_after}
use Rattle.plain_model.proofs.Accounts.{Account, count, books_more}
use Rattle.plain_model.proofs.Cores.{is_bereft}
use Rattle.plain_model.proofs.Facts.{Fact}
use Rattle.plain_model.proofs.Runs.{and_true}

or_left : (a b : Bool) → a ≡ true → (a || b) ≡ true
or_left a b e = ap (λ v. v || b) e

or_right : (a b : Bool) → b ≡ true → (a || b) ≡ true
or_right true b e = refl
or_right false b e = e

pub late_keeps : {S U : Type 0} (m : Meaning S U) (s : S) (n : ℕ) (q : Session U) (l : Account) (cs : List Command) → Fact q l → cs ≢ []
    → (q.in_flight n).commands ≡ cs
    → Fact (run_late m s n q (q.in_flight n).held cs) (count (if run_commits m s (q.in_flight n).held cs then Some n else None) l)
late_keeps m s n q l [] f some e = absurd (some refl)
late_keeps {S} {U} m s n q l (c ∷ cs) f some e = go (commits c (m.replies s (q.in_flight n).held (unasked c))) refl
  where
    after : InFlight U
    after = record { held = m.unit_after s (q.in_flight n).held (unasked c); commands = cs }

    left : Session U
    left = run_late m s n q (q.in_flight n).held (c ∷ cs)

    cut : IsSegment (c ∷ cs)
    cut = subst IsSegment e (f.books.shape n)

    shape : (k : ℕ) → IsSegment (put q.in_flight n after k).commands
    shape = put_holds q.in_flight n after (λ k v. IsSegment v.commands) (segment_tail c cs cut) (λ k ne. f.books.shape k)

    now : (k : ℕ) → k ≡ n → has_commit (put q.in_flight n after k).commands ≡ true → has_commit cs ≡ true
    now k ek h = sym (ap (λ (v : InFlight U). has_commit v.commands) (put_same q.in_flight n after))
        ∙ subst (λ z. has_commit (put q.in_flight n after z).commands ≡ true) ek h

    elsewhere : (k : ℕ) → k ≢ n → has_commit (put q.in_flight n after k).commands ≡ true → has_commit (q.in_flight k).commands ≡ true
    elsewhere k ne h = subst (λ (v : InFlight U). has_commit v.commands ≡ true) (put_other q.in_flight n after k ne) h

    go : (b : Bool) → commits c (m.replies s (q.in_flight n).held (unasked c)) ≡ b
        → Fact left (count (if commits c (m.replies s (q.in_flight n).held (unasked c)) then Some n else None) l)
    go true t = subst (λ b. Fact left (count (if b then Some n else None) l)) (sym t)
        (let commit = (and_true (c.code == rdbcmm) (says_committed (m.replies s (q.in_flight n).held (unasked c))) t).0 in
        let p = f.books.pending n (ap has_commit e ∙ or_left (c.code == rdbcmm) (has_commit cs) commit) in
        let lt = p.below in
        record {
          books = books_more q.core.unit q.core.owed (is_bereft q.core.end) q.in_flight (put q.in_flight n after) l n f.books
              (omega arith) p.none p.open_still p.not_before
              (λ k h. by_equal k n
              (λ ek. absurd (true≢false (sym (now k ek h) ∙ no_commit_after c cs cut.cut commit)))
              (λ ne. (ne, elsewhere k ne h)))
              shape;
          bereft_sent = f.bereft_sent;
          works = f.works;
          working = put_other l.commits n (suc (l.commits n)) q.core.unit (λ eq. omega arith) ∙ f.working;
        })
    go false t = subst (λ b. Fact left (count (if b then Some n else None) l)) (sym t)
        (let b = f.books in record {
          books = record {
            positive = b.positive;
            above = b.above;
            once = b.once;
            fits = b.fits;
            before = b.before;
            pending = λ k h. by_equal k n
                (λ ek. b.pending k (subst (λ z. has_commit (q.in_flight z).commands ≡ true) (sym ek) (ap has_commit e
                ∙ or_right (c.code == rdbcmm) (has_commit cs) (now k ek h))))
                (λ ne. b.pending k (elsewhere k ne h));
            shape = shape;
            untold = b.untold;
            untold_before = b.untold_before;
          };
          bereft_sent = f.bereft_sent;
          works = f.works;
          working = f.working;
        })
