-- Segments: a command that ends a unit is the last of its segment; commands keep their kind when they are numbered.
use Rattle.std.proofs.Common.{◌≡◌, ◌⊎◌, inl, inr, ℕ, zero, suc, ◌+◌, ◌≤◌, ◌<◌, ◌≢◌, ◌==◌, Bool, true, false, ◌||◌, List, [], ◌∷◌, drop, refl, sym}
use Rattle.std.proofs.Common.{subst, ap, ◌∙◌, arith, true≢false, eqb-true}
use Rattle.std.proofs.lemmas.Bool.{cond_both, cond-true, cond-false}
use Rattle.std.specs.List.{AllByRecursion}
use Rattle.ddm_codepoints.specs.declared.code_class.CodeClass.{CodeClass}
use Rattle.ddm_codepoints.specs.declared.code_class.CodeClass.TheVariants.{Access, Pass, UnitEnd, Object, Reply, Unknown}
use Rattle.ddm_codepoints.specs.CodeClass.{class_of}
use Rattle.ddm_codepoints.specs.CodePoint.{rdbcmm}
use Rattle.unit_segments.specs.declared.command.Command.{Command}
use Rattle.unit_segments.specs.Command.{ends_unit, is_passed}
use Rattle.unit_segments.specs.Segment.{goes_on_a_run, passed_before, segments_of}
use Rattle.unit_segments.specs.Spelling.{numbered}
use Rattle.unit_segments.specs.Strip.{end_number_from}
use Rattle.plain_model.specs.Group.{IsCommand}
use Rattle.plain_model.specs.Core.{first, others, has_commit}

abbrev pub is_end : Command → Bool
is_end c = ends_unit (class_of c.code)

-- ---- a unit end is last

abbrev pub Closes : Bool → List Command → Type 0
Closes true cs = cs ≡ []
Closes false cs = Unit {0}

abbrev pub IsCut : List Command → Type 0
IsCut [] = Unit {0}
IsCut (c ∷ cs) = Closes (is_end c) cs × IsCut cs

-- each command but the last is passed
abbrev pub IsRunning : List Command → Type 0
IsRunning [] = Unit {0}
IsRunning (c ∷ []) = Unit {0}
IsRunning (c ∷ d ∷ cs) = (is_passed (class_of c.code) ≡ true) × IsRunning (d ∷ cs)

running_tail : (c : Command) (cs : List Command) → IsRunning (c ∷ cs) → IsRunning cs
running_tail c [] run = tt
running_tail c (d ∷ cs) run = run.1

-- it is cut so, and its commands are such as a chain can have
pub record IsSegment (g : List Command) : Type 0 where
  pub cut : IsCut g
  pub run : IsRunning g
  -- behind the first each goes on a run
  pub goes : AllByRecursion (λ c. goes_on_a_run c ≡ true) (drop 1 g)
  pub commands : AllByRecursion IsCommand g

abbrev pub AreSegments : List (List Command) → Type 0
AreSegments gs = AllByRecursion IsSegment gs

pub alone : (c : Command) → IsCommand c → IsSegment (c ∷ [])
alone c i = record { cut = (closes (is_end c), tt); run = tt; goes = tt; commands = (i, tt) }
  where
    closes : (b : Bool) → Closes b []
    closes true = refl
    closes false = tt

passed_goes_on : (k : CodeClass) → is_passed k ≡ true → ends_unit k ≡ false
passed_goes_on Access e = refl
passed_goes_on Pass e = refl
passed_goes_on UnitEnd e = absurd (true≢false (sym e))
passed_goes_on Object e = refl
passed_goes_on Reply e = refl
passed_goes_on Unknown e = refl

before_cut : (c : Command) (gs : List (List Command)) → is_passed (class_of c.code) ≡ true → IsCommand c → AreSegments gs → AreSegments (passed_before c gs)
before_cut c [] e i all = (alone c i, tt)
before_cut c ([] ∷ gs) e i all = (alone c i, all.1)
before_cut c ((d ∷ g) ∷ gs) e i all = cond_both (goes_on_a_run d) ((c ∷ d ∷ g) ∷ gs) ((c ∷ []) ∷ (d ∷ g) ∷ gs) AreSegments
    (λ f. (
      record {
        cut = (subst (λ b. Closes b (d ∷ g)) (sym (passed_goes_on (class_of c.code) e)) tt, all.0.cut);
        run = (e, all.0.run);
        goes = (f, all.0.goes);
        commands = (i, all.0.commands);
      },
      all.1,
    ))
    (λ f. (alone c i, all))

pub segments_cut : (cs : List Command) → AllByRecursion IsCommand cs → AreSegments (segments_of cs)
unfolding segments_of
segments_cut [] all = tt
segments_cut (c ∷ cs) all = cond_both (is_passed (class_of c.code)) (passed_before c (segments_of cs)) ((c ∷ []) ∷ segments_of cs) AreSegments
    (λ e. before_cut c (segments_of cs) e all.0 (segments_cut cs all.1))
    (λ e. (alone c all.0, segments_cut cs all.1))

pub nothing_cut : IsSegment []
nothing_cut = record { cut = tt; run = tt; goes = tt; commands = tt }

pub first_cut : (gs : List (List Command)) → AreSegments gs → IsSegment (first gs)
first_cut [] all = nothing_cut
first_cut (g ∷ gs) all = all.0

pub others_cut : (gs : List (List Command)) → AreSegments gs → AreSegments (others gs)
others_cut [] all = tt
others_cut (g ∷ gs) all = all.1

-- ---- numbered commands

pub numbered_cut : (k : ℕ) (g : List Command) → IsCut g → IsCut (numbered k g)
numbered_cut k [] cut = tt
numbered_cut k (c ∷ g) cut = (closes (is_end c) g cut.0, numbered_cut (k + 1) g cut.1)
  where
    closes : (b : Bool) (cs : List Command) → Closes b cs → Closes b (numbered (k + 1) cs)
    closes true cs e = ap (numbered (k + 1)) e
    closes false cs e = tt

pub numbered_commands : (k : ℕ) (g : List Command) → AllByRecursion IsCommand g → AllByRecursion IsCommand (numbered k g)
numbered_commands k [] all = tt
numbered_commands k (c ∷ g) all = (record { code = all.0.code; sound = all.0.sound; size = all.0.size }, numbered_commands (k + 1) g all.1)

numbered_running : (k : ℕ) (g : List Command) → IsRunning g → IsRunning (numbered k g)
numbered_running k [] run = tt
numbered_running k (c ∷ []) run = tt
numbered_running k (c ∷ d ∷ g) run = (run.0, numbered_running (k + 1) (d ∷ g) run.1)

numbered_goes : (k : ℕ) (g : List Command) → AllByRecursion (λ c. goes_on_a_run c ≡ true) g → AllByRecursion (λ c. goes_on_a_run c ≡ true) (numbered k g)
numbered_goes k [] all = tt
numbered_goes k (c ∷ g) all = (all.0, numbered_goes (k + 1) g all.1)

numbered_behind : (k : ℕ) (g : List Command) → AllByRecursion (λ c. goes_on_a_run c ≡ true) (drop 1 g)
    → AllByRecursion (λ c. goes_on_a_run c ≡ true) (drop 1 (numbered k g))
numbered_behind k [] all = tt
numbered_behind k (c ∷ g) all = numbered_goes (k + 1) g all

goes_tail : (g : List Command) → AllByRecursion (λ c. goes_on_a_run c ≡ true) g → AllByRecursion (λ c. goes_on_a_run c ≡ true) (drop 1 g)
goes_tail [] all = tt
goes_tail (c ∷ g) all = all.1

pub segment_tail : (c : Command) (g : List Command) → IsSegment (c ∷ g) → IsSegment g
segment_tail c g s = record { cut = s.cut.1; run = running_tail c g s.run; goes = goes_tail g s.goes; commands = s.commands.1 }

pub drop_segment : (n : ℕ) (g : List Command) → IsSegment g → IsSegment (drop n g)
drop_segment zero g s = s
drop_segment (suc n) [] s = s
drop_segment (suc n) (c ∷ g) s = drop_segment n g (segment_tail c g s)

pub numbered_segment : (k : ℕ) (g : List Command) → IsSegment g → IsSegment (numbered k g)
numbered_segment k g s = record {
  cut = numbered_cut k g s.cut;
  run = numbered_running k g s.run;
  goes = numbered_behind k g s.goes;
  commands = numbered_commands k g s.commands;
}

pub cons_nil : {A : Type 0} {x : A} {xs : List A} → x ∷ xs ≡ [] → ⊥
cons_nil e = cc

pub head_is : {A : Type 0} {x y : A} {xs ys : List A} → x ∷ xs ≡ y ∷ ys → x ≡ y
head_is e = cc

pub tail_is : {A : Type 0} {x y : A} {xs ys : List A} → x ∷ xs ≡ y ∷ ys → xs ≡ ys
tail_is e = cc

pub drop_nothing : (n k : ℕ) → drop n (numbered k []) ≡ []
drop_nothing zero k = refl
drop_nothing (suc n) k = refl

-- the number of the command that comes next
pub next_number : (ran k : ℕ) (g : List Command) (c : Command) (cs : List Command) → drop ran (numbered k g) ≡ c ∷ cs → c.corr ≡ k + ran
next_number ran k [] c cs e = absurd (cons_nil (sym e ∙ drop_nothing ran k))
next_number zero k (d ∷ g) c cs e = sym (ap (λ (x : Command). x.corr) (head_is e)) ∙ omega arith
next_number (suc ran) k (d ∷ g) c cs e = next_number ran (k + 1) g c cs e ∙ omega arith

-- ---- the number of the command that ends the unit

pub end_from : (k : ℕ) (g : List Command) → (end_number_from k g ≡ 0) ⊎ (k ≤ end_number_from k g)
end_from k [] = inl refl
end_from k (c ∷ g) = cond_both (is_end c) k (end_number_from (k + 1) g) (λ n. (n ≡ 0) ⊎ (k ≤ n)) (λ e. inr (omega arith)) (λ e. further (end_from (k + 1) g))
  where
    further : (end_number_from (k + 1) g ≡ 0) ⊎ (k + 1 ≤ end_number_from (k + 1) g) → (end_number_from (k + 1) g ≡ 0) ⊎ (k ≤ end_number_from (k + 1) g)
    further (inl z) = inl z
    further (inr le) = inr (omega arith)

-- where the command that comes next ends the unit, its number is that
pub ends_next : (ran k : ℕ) (g : List Command) (c : Command) (cs : List Command) → IsCut g → drop ran (numbered k g) ≡ c ∷ cs → is_end c ≡ true
    → end_number_from k g ≡ k + ran
ends_next ran k [] c cs cut e end = absurd (cons_nil (sym e ∙ drop_nothing ran k))
ends_next zero k (d ∷ g) c cs cut e end = cond-true (is_end d) k (end_number_from (k + 1) g) (ap is_end (head_is e) ∙ end) ∙ omega arith
ends_next (suc ran) k (d ∷ g) c cs cut e end = go (ends_next ran (k + 1) g c cs cut.1 e end) (is_end d) refl
  where
    go : end_number_from (k + 1) g ≡ (k + 1) + ran → (b : Bool) → is_end d ≡ b → end_number_from k (d ∷ g) ≡ k + suc ran
    go rest true f = absurd (cons_nil (sym e ∙ ap (λ h. drop ran (numbered (k + 1) h)) (subst (λ b. Closes b g) f cut.0) ∙ drop_nothing ran (k + 1)))
    go rest false f = cond-false (is_end d) k (end_number_from (k + 1) g) f ∙ rest ∙ omega arith

-- where it doesn't, its number isn't
pub not_end_next : (ran k : ℕ) (g : List Command) (c : Command) (cs : List Command) → 0 < k → drop ran (numbered k g) ≡ c ∷ cs → is_end c ≡ false
    → end_number_from k g ≢ k + ran
not_end_next ran k [] c cs pos e end is = omega arith
not_end_next zero k (d ∷ g) c cs pos e end is = beyond (end_from (k + 1) g) (sym (cond-false (is_end d) k (end_number_from (k + 1) g) (ap is_end
    (head_is e) ∙ end)) ∙ is)
  where
    beyond : (end_number_from (k + 1) g ≡ 0) ⊎ (k + 1 ≤ end_number_from (k + 1) g) → end_number_from (k + 1) g ≡ k + 0 → ⊥
    beyond (inl z) i = omega arith
    beyond (inr le) i = omega arith
not_end_next (suc ran) k (d ∷ g) c cs pos e end is = go (not_end_next ran (k + 1) g c cs (omega arith) e end) (is_end d) refl
  where
    go : (end_number_from (k + 1) g ≢ (k + 1) + ran) → (b : Bool) → is_end d ≡ b → ⊥
    go rest true f = let same : k ≡ k + suc ran = sym (cond-true (is_end d) k (end_number_from (k + 1) g) f) ∙ is in omega arith
    go rest false f = rest (sym (cond-false (is_end d) k (end_number_from (k + 1) g) f) ∙ is ∙ omega arith)

-- ---- commits

rdbcmm_ends : ends_unit (class_of rdbcmm) ≡ true
unfolding class_of
rdbcmm_ends = refl

pub commit_ends : (c : Command) → (c.code == rdbcmm) ≡ true → is_end c ≡ true
commit_ends c e = ap (λ code. ends_unit (class_of code)) (eqb-true c.code rdbcmm e) ∙ rdbcmm_ends

or_true : (a b : Bool) → (a || b) ≡ true → (a ≡ true) ⊎ (b ≡ true)
or_true true b e = inl refl
or_true false b e = inr e

-- a commit that hasn't run is behind all that has
pub commit_behind : (ran k : ℕ) (g : List Command) → IsCut g → has_commit (drop ran (numbered k g)) ≡ true → k + ran ≤ end_number_from k g
commit_behind ran k [] cut e = absurd (true≢false (sym e ∙ ap has_commit (drop_nothing ran k)))
commit_behind zero k (d ∷ g) cut e = go (commit_behind zero (k + 1) g cut.1) (is_end d) refl
  where
    go : (has_commit (numbered (k + 1) g) ≡ true → (k + 1) + 0 ≤ end_number_from (k + 1) g) → (b : Bool) → is_end d ≡ b → k + 0 ≤ end_number_from k (d ∷ g)
    go rest true f = subst (λ n. k + 0 ≤ n) (sym (cond-true (is_end d) k (end_number_from (k + 1) g) f)) (omega arith)
    go rest false f = subst (λ n. k + 0 ≤ n) (sym (cond-false (is_end d) k (end_number_from (k + 1) g) f)) (further (or_true (d.code == rdbcmm)
        (has_commit (numbered (k + 1) g)) e))
      where
        further : ((d.code == rdbcmm) ≡ true) ⊎ (has_commit (numbered (k + 1) g) ≡ true) → k + 0 ≤ end_number_from (k + 1) g
        further (inl h) = absurd (true≢false (sym (commit_ends d h) ∙ f))
        further (inr h) = let le = rest h in omega arith
commit_behind (suc ran) k (d ∷ g) cut e = go (commit_behind ran (k + 1) g cut.1 e) (is_end d) refl
  where
    go : (k + 1) + ran ≤ end_number_from (k + 1) g → (b : Bool) → is_end d ≡ b → k + suc ran ≤ end_number_from k (d ∷ g)
    go rest true f = absurd (true≢false (sym e ∙ ap (λ h. has_commit (drop ran (numbered (k + 1) h))) (subst (λ b. Closes b g) f cut.0)
        ∙ ap has_commit (drop_nothing ran (k + 1))))
    go rest false f = subst (λ n. k + suc ran ≤ n) (sym (cond-false (is_end d) k (end_number_from (k + 1) g) f)) (omega arith)

-- where no commit stands, the next command is none
pub no_commit_next : (ran k : ℕ) (g : List Command) (c : Command) (cs : List Command) → drop ran (numbered k g) ≡ c ∷ cs → has_commit g ≡ false
    → (c.code == rdbcmm) ≡ false
no_commit_next ran k [] c cs e none = absurd (cons_nil (sym e ∙ drop_nothing ran k))
no_commit_next zero k (d ∷ g) c cs e none = sym (ap (λ (x : Command). x.code == rdbcmm) (head_is e)) ∙ left_false (d.code == rdbcmm) (has_commit g) none
  where
    left_false : (a b : Bool) → (a || b) ≡ false → a ≡ false
    left_false true b f = f
    left_false false b f = refl
no_commit_next (suc ran) k (d ∷ g) c cs e none = no_commit_next ran (k + 1) g c cs e (right_false (d.code == rdbcmm) (has_commit g) none)
  where
    right_false : (a b : Bool) → (a || b) ≡ false → b ≡ false
    right_false true b f = absurd (true≢false f)
    right_false false b f = f

-- nothing stands behind a commit
pub no_commit_after : (c : Command) (cs : List Command) → IsCut (c ∷ cs) → (c.code == rdbcmm) ≡ true → has_commit cs ≡ false
no_commit_after c cs cut e = ap has_commit (subst (λ b. Closes b cs) (commit_ends c e) cut.0)
