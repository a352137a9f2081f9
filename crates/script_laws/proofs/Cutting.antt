-- Where a line is cut into words: behind the first space.
use Rattle.std.proofs.Common.{◌≡◌, ℕ, ◌+◌, Bool, true, false, cond, List, [], ◌∷◌, ◌++◌, take, drop, refl, ap, sym}
use Rattle.std.proofs.lemmas.Bool.{and_parts, true≢false}
use Rattle.std.proofs.Math.Numerals.{one-add, add-one}
use Rattle.std.specs.Prelude.{not}
use Rattle.std.specs.List.{list_all, position_or_len, before_first, after_first}
use Rattle.script_words.specs.Words.{is_space}

-- no byte of these is a space
abbrev pub spaceless : List ℕ → Bool
spaceless bytes = list_all (λ byte. not (is_space byte)) bytes

module _ (rest : List ℕ) where
  before_step : (x : ℕ) (xs : List ℕ) (b : Bool) → not b ≡ true → before_first is_space (xs ++ 32 ∷ rest) ≡ xs →
      take (cond (not b) (1 + position_or_len is_space (xs ++ 32 ∷ rest)) 0) (x ∷ xs ++ 32 ∷ rest) ≡ x ∷ xs
  before_step x xs true e h = absurd (true≢false (sym e))
  before_step x xs false e h = simp one-add (ap (λ ys. x ∷ ys) h)

  -- the word before a space
  pub before : (word : List ℕ) → spaceless word ≡ true → before_first is_space (word ++ 32 ∷ rest) ≡ word
  before [] e = refl
  before (x ∷ xs) e =
      let parts = and_parts (not (is_space x)) (spaceless xs) e in
      before_step x xs (is_space x) parts.0 (before xs parts.1)

  after_step : (x : ℕ) (xs : List ℕ) (b : Bool) → not b ≡ true → after_first is_space (xs ++ 32 ∷ rest) ≡ rest →
      drop (cond (not b) (1 + position_or_len is_space (xs ++ 32 ∷ rest)) 0 + 1) (x ∷ xs ++ 32 ∷ rest) ≡ rest
  after_step x xs true e h = absurd (true≢false (sym e))
  after_step x xs false e h = simp (one-add, add-one) (simp add-one at h)

  -- what stands behind it
  pub after : (word : List ℕ) → spaceless word ≡ true → after_first is_space (word ++ 32 ∷ rest) ≡ rest
  after [] e = refl
  after (x ∷ xs) e =
      let parts = and_parts (not (is_space x)) (spaceless xs) e in
      after_step x xs (is_space x) parts.0 (after xs parts.1)
