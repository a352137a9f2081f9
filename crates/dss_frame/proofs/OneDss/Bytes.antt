-- The two bytes of a number, and the fields of a segment: as they are spelled, and where more bytes follow.
use Rattle.std.proofs.Common.{◌≡◌, ℕ, zero, suc, ◌+◌, ◌*◌, ◌^◌, ◌<◌, ◌%◌, ◌≤◌, leb, Bool, true, false, List, [], ◌∷◌, ◌++◌, length, get_or, refl, ap, arith}
use Rattle.std.specs.Int.{w16, to_be_bytes}
use Rattle.std.proofs.lemmas.Bool.{le-leb, lt-leb}
use Rattle.std.proofs.lemmas.List.{get_or_append_left}
use Rattle.std.proofs.lemmas.Nat.{be_bytes_2, from_be_bytes-to_be_bytes_2}
use Rattle.dss_frame.specs.Dss.{segment_length}
use Rattle.dss_frame.specs.Segments.{number_at, segment_size, continues}

pub two_fit : (a b : ℕ) → a < 256 → b < 256 → (i : ℕ) → get_or (a ∷ b ∷ []) i 0 < 256
two_fit a b fa fb zero = fa
two_fit a b fa fb (suc zero) = fb
two_fit a b fa fb (suc (suc i)) = omega arith

pub two_bytes : (a b : ℕ) → a < 256 → b < 256 → to_be_bytes w16 (256 * a + b) ≡ a ∷ b ∷ []
two_bytes a b fa fb = be_bytes_2 (a ∷ b ∷ []) (256 * a + b) refl (two_fit a b fa fb) (omega arith)

pub number_two : (n : ℕ) (more : List ℕ) → n < 2 ^ 16 → number_at 0 (to_be_bytes w16 n ++ more) ≡ n
number_two n more lt = omega (arith, from_be_bytes-to_be_bytes_2 n lt)

-- what is read of a segment's length
pub record Field (n : ℕ) (more : Bool) (rest : List ℕ) : Type 0 where
  pub size : segment_size (segment_length n more ++ rest) ≡ n
  pub goes_on : continues (segment_length n more ++ rest) ≡ more
  pub two : length (segment_length n more) ≡ 2

pub field_of : (n : ℕ) (more : Bool) (rest : List ℕ) → n < 32768 → Field n more rest
field_of n true rest lt =
    let e = number_two (n + 32768) rest (omega arith) in
    record { size = omega arith; goes_on = le-leb 32768 _ (omega arith); two = refl }
field_of n false rest lt =
    let e = number_two (n + 0) rest (omega arith) in
    record { size = omega arith; goes_on = lt-leb 32768 _ (omega arith); two = refl }

-- ---- where more bytes follow

pub number-append : (place : ℕ) (bytes more : List ℕ) → place + 2 ≤ length bytes → number_at place (bytes ++ more) ≡ number_at place bytes
number-append place bytes more long =
    rw (get_or_append_left bytes more 0 place (omega arith), get_or_append_left bytes more 0 (place + 1) (omega arith)) refl

pub size-append : (bytes more : List ℕ) → 2 ≤ length bytes → segment_size (bytes ++ more) ≡ segment_size bytes
size-append bytes more long = ap (λ (n : ℕ). n % 32768) (number-append 0 bytes more long)

pub continues-append : (bytes more : List ℕ) → 2 ≤ length bytes → continues (bytes ++ more) ≡ continues bytes
continues-append bytes more long = ap (λ (n : ℕ). leb 32768 n) (number-append 0 bytes more long)
