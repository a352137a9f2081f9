-- What a loop has read of words so far, and what it reads of the rest, is what is read of all.
use Rattle.std.proofs.Common.{◌≡◌, ◌∙◌, ◌+◌, ◌<◌, ◌≤◌, ℕ, suc, refl, sym, ap, arith, List, [], ◌∷◌, ◌++◌, map, length, drop, Option, Some, None, option_map, append-nil, append_assoc, drop-cons, drop_of_length-le}
use Rattle.std.specs.Borrow.{Bor}
use Rattle.std.specs.List.{slice_index_or}
use Rattle.server_words.specs.Field.{each_of, given}

abbrev pub texts : List (Bor (List ℕ)) → List (List ℕ)
texts words = map (λ word. word.now) words

-- the values of the first words, followed by those of the rest, are those of all
pub record Reads {A : Type 0} (read : List ℕ → Option A) (words : List (Bor (List ℕ))) (at : ℕ) (done : List A) : Type 0 where
  pub all : option_map (λ rest. done ++ rest) (each_of read (texts (drop at words))) ≡ each_of read (texts words)

pub reads_none_yet : {A : Type 0} (read : List ℕ → Option A) (words : List (Bor (List ℕ))) → Reads read words 0 []
reads_none_yet {A} read words = record { all = go (each_of read (texts words)) }
  where
    go : (o : Option (List A)) → option_map (λ rest. [] ++ rest) o ≡ o
    go None = refl
    go (Some values) = refl

one_more : {A : Type 0} (done : List A) (x : A) (o : Option (List A))
    → option_map (λ rest. (done ++ x ∷ []) ++ rest) o ≡ option_map (λ rest. done ++ rest) (option_map (λ values. x ∷ values) o)
one_more done x None = refl
one_more done x (Some values) = ap (λ ys. Some ys) (append_assoc done (x ∷ []) values)

pub reads_next : {A : Type 0} (read : List ℕ → Option A) (words : List (Bor (List ℕ))) (at : ℕ) (done : List A) (word : Bor (List ℕ)) (x : A)
    → at < length words → slice_index_or words at word ≡ word → read word.now ≡ Some x → Reads read words at done → Reads read words (at + 1) (done ++ x ∷ [])
reads_next read words at done word x below here is reads =
    let next : at + 1 ≡ suc at = omega arith in
    let cut : drop at words ≡ word ∷ drop (suc at) words = drop-cons words at word below ∙ ap (λ w. w ∷ drop (suc at) words) here in
    record {
      all = ap (λ n. option_map (λ rest. (done ++ x ∷ []) ++ rest) (each_of read (texts (drop n words)))) next
          ∙ (one_more done x (each_of read (texts (drop (suc at) words)))
          ∙ (ap (λ o. option_map (λ rest. done ++ rest)
          (given o (λ value. option_map (λ values. value ∷ values) (each_of read (texts (drop (suc at) words)))))) (sym is)
          ∙ (ap (λ ws. option_map (λ rest. done ++ rest) (each_of read (texts ws))) (sym cut) ∙ reads.all)));
    }

pub reads_no_more : {A : Type 0} (read : List ℕ → Option A) (words : List (Bor (List ℕ))) (at : ℕ) (done : List A) (word : Bor (List ℕ))
    → at < length words → slice_index_or words at word ≡ word → read word.now ≡ None → Reads read words at done → None ≡ each_of read (texts words)
reads_no_more read words at done word below here is reads =
    let cut : drop at words ≡ word ∷ drop (suc at) words = drop-cons words at word below ∙ ap (λ w. w ∷ drop (suc at) words) here in
    ap (λ o. option_map (λ rest. done ++ rest) (given o (λ value. option_map (λ values. value ∷ values) (each_of read (texts (drop (suc at) words)))))) (sym is)
    ∙ (ap (λ ws. option_map (λ rest. done ++ rest) (each_of read (texts ws))) (sym cut) ∙ reads.all)

pub reads_all : {A : Type 0} (read : List ℕ → Option A) (words : List (Bor (List ℕ))) (at : ℕ) (done : List A) → length words ≤ at → Reads read words at done
    → Some done ≡ each_of read (texts words)
reads_all read words at done past reads =
    ap (λ ys. Some ys) (sym (append-nil done))
    ∙ (ap (λ ws. option_map (λ rest. done ++ rest) (each_of read (texts ws))) (sym (drop_of_length-le words past)) ∙ reads.all)
