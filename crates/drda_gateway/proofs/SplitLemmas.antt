-- What the first space of a line cuts off.
use Rattle.std.proofs.Common.{◌≡◌, ℕ, zero, suc, ◌+◌, ◌<◌, ◌==◌, Bool, true, false, cond, List, [], ◌∷◌, length, take, drop, get_or, refl, ap, ◌∙◌}
use Rattle.std.proofs.Math.Numerals.{one-add, add-one}
use Rattle.std.specs.List.{onto_first, position_or_len}
use Rattle.std.specs.Prelude.{not}
use Rattle.drda_gateway.specs.Split.{words_of, word}

-- where the first space is
abbrev pub space : List ℕ → ℕ
space bytes = position_or_len (λ byte. byte == 32) bytes

onto_first-at : (x : ℕ) (parts : List (List ℕ)) → get_or (onto_first x parts) 0 [] ≡ x ∷ get_or parts 0 []
onto_first-at x [] = refl
onto_first-at x (part ∷ parts) = refl

onto_first-later : (x : ℕ) (parts : List (List ℕ)) (k : ℕ) → get_or (onto_first x parts) (suc k) [] ≡ get_or parts (suc k) []
onto_first-later x [] k = refl
onto_first-later x (part ∷ parts) k = refl

word_step : (x : ℕ) (xs : List ℕ) (n : ℕ) (b : Bool) → word 0 (words_of xs) ≡ take n xs →
    word 0 (cond b ([] ∷ words_of xs) (onto_first x (words_of xs))) ≡ take (cond (not b) (1 + n) 0) (x ∷ xs)
word_step x xs n true h = refl
word_step x xs n false h = onto_first-at x (words_of xs) ∙ ap (λ w. x ∷ w) h ∙ simp one-add

-- the first word stands before the first space
pub word-first : (xs : List ℕ) → word 0 (words_of xs) ≡ take (space xs) xs
word-first [] = refl
word-first (x ∷ xs) = word_step x xs (space xs) (x == 32) (word-first xs)

later_step : (x : ℕ) (xs : List ℕ) (n k : ℕ) (b : Bool) → word (suc k) (words_of xs) ≡ word k (words_of (drop (n + 1) xs)) →
    word (suc k) (cond b ([] ∷ words_of xs) (onto_first x (words_of xs))) ≡ word k (words_of (drop (cond (not b) (1 + n) 0 + 1) (x ∷ xs)))
later_step x xs n k true h = refl
later_step x xs n k false h = onto_first-later x (words_of xs) k ∙ h ∙ simp (one-add, add-one)

no_words : (k : ℕ) → word (suc k) (words_of []) ≡ word k (words_of [])
no_words zero = refl
no_words (suc k) = refl

-- the others stand after it
pub word-later : (xs : List ℕ) (k : ℕ) → word (suc k) (words_of xs) ≡ word k (words_of (drop (space xs + 1) xs))
word-later [] k = no_words k
word-later (x ∷ xs) k = later_step x xs (space xs) k (x == 32) (word-later xs k)
