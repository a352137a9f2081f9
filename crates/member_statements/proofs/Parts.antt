-- Fronts and ends of texts, and the first place of a byte.
use Rattle.std.specs.Prelude.{ℕ, ◌≡◌, ◌+◌, ◌-◌, ◌==◌, ◌<◌, not, Bool, true, false, List, [], ◌∷◌, ◌++◌, Option, Some, None, length, take, drop}
use Rattle.std.specs.Prelude.{bytes_eq, unwrap_or, option_and_then}
use Rattle.std.specs.List.{position_or_len, prefix_len, list_all}
use Rattle.std.proofs.Common.{arith, refl, sym, ap, ◌∙◌, append_assoc}
use Rattle.std.proofs.Math.ListN.{take-append-drop, length-append}
use Rattle.std.proofs.Math.Seq.{take-append_seam, drop-append_seam}
use Rattle.std.proofs.lemmas.Slice.Eq.{bytes_eq-Decides}
use Rattle.member_statements.specs.Reading.{after, ahead_of, between, place_of}

pub bytes_eq-refl : (bytes : List ℕ) → bytes_eq bytes bytes ≡ true
bytes_eq-refl bytes = (bytes_eq-Decides bytes bytes).1 refl

pub after-append : (front rest : List ℕ) → after front (front ++ rest) ≡ Some rest
after-append front rest = rw (take-append_seam front rest) (rw (drop-append_seam front rest) (rw (bytes_eq-refl front) refl))

pub after_splits : (front bytes rest : List ℕ) → after front bytes ≡ Some rest → bytes ≡ front ++ rest
after_splits front bytes rest found =
    grind (arith, found, take-append-drop (length front) bytes, (bytes_eq-Decides (take (length front) bytes) front).0)

pub ahead_of-append : (front end : List ℕ) → ahead_of end (front ++ end) ≡ Some front
ahead_of-append front end =
    let place : length (front ++ end) - length end ≡ length front = rw (length-append front end) (omega arith) in
    rw place (rw (take-append_seam front end) (rw (drop-append_seam front end) (rw (bytes_eq-refl end) refl)))

pub ahead_of_splits : (end bytes front : List ℕ) → ahead_of end bytes ≡ Some front → bytes ≡ front ++ end
ahead_of_splits end bytes front found =
    grind (arith, found, take-append-drop (length bytes - length end) bytes, (bytes_eq-Decides (drop (length bytes - length end) bytes) end).0)

pub between-append : (front text end : List ℕ) → between front end (front ++ text ++ end) ≡ Some text
between-append front text end =
    rw (append_assoc front text end) (rw (after-append front (text ++ end)) (ahead_of-append text end))

pub between_splits : (front end bytes text : List ℕ) → between front end bytes ≡ Some text → bytes ≡ front ++ text ++ end
between_splits front end bytes text found = from_after (after front bytes) refl found where
  from_after : (rest : Option (List ℕ)) → after front bytes ≡ rest → option_and_then (ahead_of end) rest ≡ Some text
      → bytes ≡ front ++ text ++ end
  from_after None is impossible = absurd (grind (arith, impossible))
  from_after (Some rest) is ahead =
      after_splits front bytes rest is ∙ ap (λ back. front ++ back) (ahead_of_splits end rest text ahead) ∙ sym (append_assoc front text end)

-- no byte of the text is the mark, and the mark follows it
pub reaches : (mark : ℕ) (text rest : List ℕ) → list_all (λ byte. not (byte == mark)) text ≡ true
    → position_or_len (λ byte. byte == mark) (text ++ mark ∷ rest) ≡ length text
reaches mark [] rest none = grind arith
reaches mark (byte ∷ text) rest none =
    let others : list_all (λ byte. not (byte == mark)) text ≡ true = grind (arith, none) in
    let first : (byte == mark) ≡ false = grind (arith, none) in
    let again : position_or_len (λ b. b == mark) (text ++ mark ∷ rest) ≡ length text = reaches mark text rest others in
    rw first (omega (arith, again))

pub place_of-append : (mark : ℕ) (text rest : List ℕ) → list_all (λ byte. not (byte == mark)) text ≡ true
    → place_of mark (text ++ mark ∷ rest) ≡ length text
place_of-append mark text rest none =
    grind (arith, reaches mark text rest none, length-append text (mark ∷ rest))
