-- Words that are cut off one after another, and a list that gets a row for each.
use Rattle.std.proofs.Common.{◌≡◌, ◌≢◌, ℕ, suc, ◌+◌, ◌<◌, ◌≤◌, Bool, true, false, cond, List, [], ◌∷◌, length, take}
use Rattle.std.proofs.Common.{Some, None, inl, inr, refl, ap, sym, ◌∙◌, arith, length-drop}
use Rattle.std.specs.Prelude.{not}
use Rattle.std.specs.List.{onto_first, position_or_len, before_first, after_first}
use Rattle.std.proofs.lemmas.Bool.{cases_eq}
use Rattle.std.proofs.lemmas.List.{length-take}
use Rattle.std.proofs.lemmas.List.Splits.{slice_split_first}
use Rattle.server_list.specs.Lists.{Listing}
use Rattle.server_list.specs.declared.list.ServerRow.{ServerRow}
use Rattle.script_words.specs.Words.{is_space, words_of}
use Rattle.script_reader.specs.Weights.{◌>>=◌, weight_added, weights_read}

last_step : (x : ℕ) (xs : List ℕ) (place : ℕ) (b : Bool) → (place ≡ length xs → words_of xs ≡ xs ∷ []) → cond (not b) (1 + place) 0 ≡ suc (length xs) →
    cond b ([] ∷ words_of xs) (onto_first x (words_of xs)) ≡ (x ∷ xs) ∷ []
last_step x xs place true h e = absurd (omega (arith, e))
last_step x xs place false h e = ap (onto_first x) (h (omega (arith, e)))

-- a line without a space is one word
last_at : (xs : List ℕ) → position_or_len is_space xs ≡ length xs → words_of xs ≡ xs ∷ []
last_at [] e = refl
last_at (x ∷ xs) e = last_step x xs (position_or_len is_space xs) (is_space x) (last_at xs) e

within_step : (place size : ℕ) (b : Bool) → place ≤ size → cond b (1 + place) 0 ≤ suc size
within_step place size true h = omega (arith, h)
within_step place size false h = omega arith

place_within : (xs : List ℕ) → position_or_len is_space xs ≤ length xs
place_within [] = omega arith
place_within (x ∷ xs) = within_step (position_or_len is_space xs) (length xs) (not (is_space x)) (place_within xs)

take-length : (xs : List ℕ) → take (length xs) xs ≡ xs
take-length [] = refl
take-length (x ∷ xs) = ap (λ ys. x ∷ ys) (take-length xs)

-- the words, where the first is the whole line
pub words_of-last : (xs : List ℕ) → length (before_first is_space xs) ≡ length xs → words_of xs ≡ before_first is_space xs ∷ []
words_of-last xs e =
    let place : position_or_len is_space xs ≡ length xs =
    omega (arith, e, length-take (position_or_len is_space xs) xs, place_within xs) in
    last_at xs place ∙ ap (λ word. word ∷ []) (sym (ap (λ n. take n xs) place ∙ take-length xs))

-- the words, where it isn't
pub words_of-more : (xs : List ℕ) → length (before_first is_space xs) ≢ length xs →
    words_of xs ≡ before_first is_space xs ∷ words_of (after_first is_space xs)
words_of-more xs ne =
    slice_split_first is_space xs 0 (omega (arith, ne, length-take (position_or_len is_space xs) xs, place_within xs))

-- what stands behind a space is shorter than the line
pub after_space-shorter : (xs : List ℕ) → length (before_first is_space xs) ≢ length xs → length (after_first is_space xs) < length xs
after_space-shorter xs ne =
    omega (arith, ne, length-take (position_or_len is_space xs) xs, length-drop (position_or_len is_space xs + 1) xs, place_within xs)

module _ (members : List ServerRow) (list : Listing) (rest : List ℕ) where
  abbrev word_now : List ℕ
  word_now = before_first is_space rest

  -- one word on
  pub weights_read-more : (more : Listing) → length word_now ≢ length rest → weight_added members list word_now ≡ Some more →
      weights_read members list (words_of rest) ≡ weights_read members more (words_of (after_first is_space rest))
  weights_read-more more ne added = ap (weights_read members list) (words_of-more rest ne)
      ∙ ap (λ o. o >>= λ more. weights_read members more (words_of (after_first is_space rest))) added

  -- the last word
  pub weights_read-last : (more : Listing) → length word_now ≡ length rest → weight_added members list word_now ≡ Some more →
      weights_read members list (words_of rest) ≡ Some more
  weights_read-last more e added = ap (weights_read members list) (words_of-last rest e) ∙ ap (λ o. o >>= λ more. Some more) added

  first_bad : (words : List (List ℕ)) (others : List (List ℕ)) → words ≡ word_now ∷ others → weight_added members list word_now ≡ None →
      weights_read members list words ≡ None
  first_bad words others e bad = ap (weights_read members list) e ∙ ap (λ o. o >>= λ more. weights_read members more others) bad

  -- a bad word
  pub weights_read-bad : weight_added members list word_now ≡ None → weights_read members list (words_of rest) ≡ None
  weights_read-bad bad =
      elim (cases_eq (length word_now) (length rest)) [
        | inl e ↦ first_bad (words_of rest) [] (words_of-last rest e) bad
        | inr ne ↦ first_bad (words_of rest) (words_of (after_first is_space rest)) (words_of-more rest ne) bad
      ]

-- the same of a word that was cut off
module _ (members : List ServerRow) (list : Listing) (rest word : List ℕ) (cut : word ≡ before_first is_space rest) where
  pub reads_on : (after : List ℕ) (more : Listing) → after ≡ after_first is_space rest → length word ≢ length rest →
      weight_added members list word ≡ Some more → weights_read members list (words_of rest) ≡ weights_read members more (words_of after)
  reads_on after more left ne added = rw left (weights_read-more members list rest more (rw cut at ne) (rw cut at added))

  pub reads_last : (more : Listing) → length word ≡ length rest → weight_added members list word ≡ Some more →
      weights_read members list (words_of rest) ≡ Some more
  reads_last more e added = weights_read-last members list rest more (rw cut at e) (rw cut at added)

  pub reads_bad : weight_added members list word ≡ None → weights_read members list (words_of rest) ≡ None
  reads_bad bad = weights_read-bad members list rest (rw cut at bad)
