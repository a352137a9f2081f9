-- Replies and their numbers: what a segment's replies say of its unit of work is what those to the command say that ends it.
use Rattle.std.proofs.Common.{◌≡◌, ◌≢◌, ℕ, suc, ◌≤◌, ◌<◌, ◌==◌, Bool, true, false, List, [], ◌∷◌, ◌++◌, find, refl, sym, ap, ◌∙◌, arith, eqb}
use Rattle.std.proofs.Common.{eqb-true, eq-eqb}
use Rattle.std.proofs.lemmas.Bool.{cond-true, cond-false}
use Rattle.std.proofs.lemmas.List.Elements.{filter-append}
use Rattle.std.specs.List.{AllByRecursion}
use Rattle.dss_frame.specs.declared.dss.Dss.{Dss}
use Rattle.ddm_codepoints.specs.CodePoint.{uowdsp, enduowrm}
use Rattle.ddm_codepoints.specs.Value.{committed}
use Rattle.link_ends.proofs.Lists.{all_weaker}
use Rattle.unit_segments.specs.declared.command.Command.{Command}
use Rattle.unit_segments.specs.Spelling.{numbered}
use Rattle.unit_segments.specs.Strip.{is_object_of, end_says, end_number, replies_to, is_committed}
use Rattle.plain_model.specs.UnitEnd.{says_committed}
use Rattle.plain_model.proofs.Segments.{IsCut, is_end, ends_next, not_end_next, commit_behind}
use Rattle.plain_model.specs.Core.{has_commit}
use Rattle.std.proofs.Common.{drop}

pub all_append : {X : Type 0} (P : X → Type 0) (xs ys : List X) → AllByRecursion P xs → AllByRecursion P ys → AllByRecursion P (xs ++ ys)
all_append P [] ys all more = more
all_append P (x ∷ xs) ys all more = (all.0, all_append P xs ys all.1 more)

-- each has this number
abbrev pub HaveNumber : ℕ → List Dss → Type 0
HaveNumber number replies = AllByRecursion (λ d. d.corr ≡ number) replies

-- each has one of the first numbers, from 1
pub record IsUpTo (count : ℕ) (d : Dss) : Type 0 where
  pub positive : 0 < d.corr
  pub most : d.corr ≤ count

abbrev pub AreUpTo : ℕ → List Dss → Type 0
AreUpTo count replies = AllByRecursion (IsUpTo count) replies

pub one_more : (count : ℕ) (part r : List Dss) → AreUpTo count part → HaveNumber (suc count) r → AreUpTo (suc count) (part ++ r)
one_more count part r all more = all_append (IsUpTo (suc count)) part r
    (all_weaker (IsUpTo count) (IsUpTo (suc count)) part (λ d u. let le = u.most in record { positive = u.positive; most = omega arith }) all)
    (all_weaker (λ d. d.corr ≡ suc count) (IsUpTo (suc count)) r (λ d e. record { positive = omega arith; most = omega arith }) more)

same_number : (a b : ℕ) → a ≡ b → (a == b) ≡ true
same_number a b e = eq-eqb a b e

pub other_number : (a b : ℕ) → a ≢ b → (a == b) ≡ false
other_number a b ne = go (eqb a b) refl
  where
    go : (v : Bool) → eqb a b ≡ v → (a == b) ≡ false
    go true e = absurd (ne (eqb-true a b e))
    go false e = e

pub all_replies : (number : ℕ) (r : List Dss) → HaveNumber number r → replies_to number r ≡ r
all_replies number [] all = refl
all_replies number (d ∷ r) all =
    cond-true (d.corr == number) (d ∷ replies_to number r) (replies_to number r) (same_number d.corr number all.0)
    ∙ ap (λ xs. d ∷ xs) (all_replies number r all.1)

pub no_replies : (number : ℕ) (r : List Dss) → AllByRecursion (λ d. d.corr ≢ number) r → replies_to number r ≡ []
no_replies number [] all = refl
no_replies number (d ∷ r) all =
    cond-false (d.corr == number) (d ∷ replies_to number r) (replies_to number r) (other_number d.corr number all.0) ∙ no_replies number r all.1

-- none has a number beyond, or 0
pub none_beyond : (count number : ℕ) (part : List Dss) → AreUpTo count part → count < number → replies_to number part ≡ []
none_beyond count number part all lt = no_replies number part (all_weaker (IsUpTo count) (λ d. d.corr ≢ number) part
    (λ d u e. let le = u.most in omega arith) all)

pub none_zero : (count : ℕ) (part : List Dss) → AreUpTo count part → replies_to 0 part ≡ []
none_zero count part all = no_replies 0 part (all_weaker (IsUpTo count) (λ d. d.corr ≢ 0) part (λ d u e. let pos = u.positive in omega arith) all)

pub replies_both : (number : ℕ) (part r : List Dss) → replies_to number (part ++ r) ≡ replies_to number part ++ replies_to number r
replies_both number part r = filter-append (λ d. d.corr == number) part r

append_nil : {X : Type 0} (xs : List X) → xs ++ [] ≡ xs
append_nil [] = refl
append_nil (x ∷ xs) = ap (λ ys. x ∷ ys) (append_nil xs)

-- ---- what is said of the unit

abbrev pub committed_in : List Dss → Bool
committed_in replies = end_says uowdsp committed (find (is_object_of enduowrm) replies)

-- before the command ran that ends the unit, nothing is said
pub nothing_said : (ran : ℕ) (g : List Command) (part : List Dss) → AreUpTo ran part → ran < end_number g → is_committed g part ≡ false
nothing_said ran g part all lt = ap committed_in (none_beyond ran (end_number g) part all lt)

-- that command runs
pub end_said : (ran : ℕ) (g : List Command) (c : Command) (cs : List Command) (part r : List Dss) → IsCut g → drop ran (numbered 1 g) ≡ c ∷ cs
    → is_end c ≡ true
    → AreUpTo ran part → HaveNumber (suc ran) r → (is_committed g part ≡ false) × (is_committed g (part ++ r) ≡ says_committed r)
end_said ran g c cs part r cut e end all more =
    let is : end_number g ≡ suc ran = ends_next ran 1 g c cs cut e end ∙ omega arith in (
      nothing_said ran g part all (omega arith),
      ap committed_in (replies_both (end_number g) part r
          ∙ ap (λ xs. xs ++ replies_to (end_number g) r) (none_beyond ran (end_number g) part all (omega arith))
          ∙ ap (λ n. replies_to n r) is ∙ all_replies (suc ran) r more),
    )

-- another command runs
pub nothing_more_said : (ran : ℕ) (g : List Command) (c : Command) (cs : List Command) (part r : List Dss) → drop ran (numbered 1 g) ≡ c ∷ cs
    → is_end c ≡ false
    → HaveNumber (suc ran) r → is_committed g (part ++ r) ≡ is_committed g part
nothing_more_said ran g c cs part r e end more =
    let ne = not_end_next ran 1 g c cs (omega arith) e end in
    ap committed_in (replies_both (end_number g) part r
    ∙ ap (λ xs. replies_to (end_number g) part ++ xs) (no_replies (end_number g) r (all_weaker (λ d. d.corr ≡ suc ran)
    (λ d. d.corr ≢ end_number g) r (λ d same is. ne (sym is ∙ same ∙ omega arith)) more))
    ∙ append_nil (replies_to (end_number g) part))

-- while a commit is left to run nothing is said
pub commit_left : (ran : ℕ) (g : List Command) (part : List Dss) → IsCut g → has_commit (drop ran (numbered 1 g)) ≡ true → AreUpTo ran part
    → is_committed g part ≡ false
commit_left ran g part cut has all = let le = commit_behind ran 1 g cut has in nothing_said ran g part all (omega arith)
