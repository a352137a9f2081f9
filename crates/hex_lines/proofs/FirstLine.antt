-- What the first line feed of a text cuts off.
use Rattle.std.proofs.Common.{◌≡◌, ℕ, ◌+◌, ◌<◌, ◌==◌, Bool, true, false, cond, List, [], ◌∷◌, length, take, drop, refl, ap, ◌∙◌}
use Rattle.std.proofs.Common.{arith, length-drop}
use Rattle.std.proofs.Math.Numerals.{one-add, add-one}
use Rattle.std.specs.List.{onto_first, position_or_len, before_first, after_first}
use Rattle.std.specs.Prelude.{not}
use Rattle.hex_lines.specs.Lines.{lines_of}

-- where the first line feed is
abbrev feed : List ℕ → ℕ
feed bytes = position_or_len (λ byte. byte == 10) bytes

lines_step : (x : ℕ) (xs : List ℕ) (n : ℕ) (b : Bool) → lines_of xs ≡ take n xs ∷ lines_of (drop (n + 1) xs) →
    cond b ([] ∷ lines_of xs) (onto_first x (lines_of xs)) ≡ take (cond (not b) (1 + n) 0) (x ∷ xs) ∷ lines_of (drop (cond (not b) (1 + n) 0 + 1) (x ∷ xs))
lines_step x xs n true h = refl
lines_step x xs n false h = ap (onto_first x) h ∙ simp (one-add, add-one)

lines_of-cons : (x : ℕ) (xs : List ℕ) → lines_of (x ∷ xs) ≡ take (feed (x ∷ xs)) (x ∷ xs) ∷ lines_of (drop (feed (x ∷ xs) + 1) (x ∷ xs))
lines_of-cons x [] =
    elim (x == 10) as
    (λ b. cond b ([] ∷ []) ((x ∷ []) ∷ []) ≡ take (cond (not b) (1 + 0) 0) (x ∷ []) ∷ lines_of (drop (cond (not b) (1 + 0) 0 + 1) (x ∷ []))) [
      | true ↦
          refl
      | false ↦ refl
    ]
lines_of-cons x (y ∷ ys) = lines_step x (y ∷ ys) (feed (y ∷ ys)) (x == 10) (lines_of-cons y ys)

-- the first line stands before the first line feed, and the others after it
pub lines_of-first : (text : List ℕ) → 0 < length text →
    lines_of text ≡ before_first (λ byte. byte == 10) text ∷ lines_of (after_first (λ byte. byte == 10) text)
lines_of-first [] more = absurd (omega arith)
lines_of-first (x ∷ xs) more = lines_of-cons x xs

-- what stands after the first line feed is shorter than the text
pub after_first-shorter : (p : ℕ → Bool) (text : List ℕ) → 0 < length text → length (after_first p text) < length text
after_first-shorter p text more = rw length-drop (omega arith)
