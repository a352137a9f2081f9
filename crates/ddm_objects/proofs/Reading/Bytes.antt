-- Numbers in bytes.
use Rattle.std.proofs.Common.{◌≡◌, ℕ, zero, suc, ◌+◌, ◌*◌, ◌/◌, ◌%◌, ◌^◌, ◌<◌, ◌≤◌, List, [], ◌∷◌, length, get_or, take, drop, refl, sym, ap}
use Rattle.std.proofs.Common.{◌∙◌, arith}
use Rattle.std.specs.Int
use Rattle.std.proofs.lemmas.Nat.{div-mul-add}
use Rattle.std.proofs.lemmas.List.{length-take, append-nil}
use Rattle.link_ends.specs.Bytes.{AreBytes}
use Rattle.link_ends.proofs.Bytes.{byte_at, AreBytes-nil, AreBytes-cons, AreBytes-take, AreBytes-drop}
use Rattle.byteorder.specs.Endian.{big_number, big_bytes}
use Rattle.byteorder.specs.Numbers.{big_from-cons, big_from-take, big_from-lt, big_number-reads_back, length-bytes_high_first}

pub bytes_of_number : (a b n : ℕ) → a < 256 → b < 256 → n ≡ a * 256 + b → big_bytes 2 n ≡ a ∷ b ∷ []
bytes_of_number a b n p q e =
    let high : n / 256 % 256 ≡ a = omega arith in
    let low : n % 256 ≡ b = omega arith in
    ap (λ (x : ℕ). x ∷ n % 256 ∷ []) high ∙ ap (λ (x : ℕ). a ∷ x ∷ []) low

byte_small : (k x : ℕ) → Int.byte_at k x < 256
byte_small zero x = omega arith
byte_small (suc k) x = omega arith

big_bytes_fit : (n x : ℕ) → AreBytes (big_bytes n x)
big_bytes_fit zero x = AreBytes-nil
big_bytes_fit (suc n) x = AreBytes-cons (Int.byte_at n x) (big_bytes n x) (byte_small n x) (big_bytes_fit n x)

-- the two digits of a number are known from it
same_digits : (p a b r s : ℕ) → r < p → s < p → a * p + r ≡ b * p + s → (a ≡ b) × (r ≡ s)
same_digits p a b r s x y e =
    let high : a ≡ b = sym (div-mul-add a p r x) ∙ ap (λ (n : ℕ). n / p) e ∙ div-mul-add b p s y in
    let same : a * p ≡ b * p = ap (λ (n : ℕ). n * p) high in
    (high, omega (arith, same, e))

-- bytes that make the same number are the same
same_number : (n : ℕ) (xs ys : List ℕ) → length xs ≡ n → length ys ≡ n → AreBytes xs → AreBytes ys → big_number n xs ≡ big_number n ys → xs ≡ ys
same_number zero [] [] p q f g e = refl
same_number zero [] (y ∷ ys) p q f g e = absurd (omega (arith, q))
same_number zero (x ∷ xs) ys p q f g e = absurd (omega (arith, p))
same_number (suc n) [] ys p q f g e = absurd (omega (arith, p))
same_number (suc n) (x ∷ xs) [] p q f g e = absurd (omega (arith, q))
same_number (suc n) (x ∷ xs) (y ∷ ys) p q f g e =
    let r = big_from-lt 0 n xs (byte_at xs (AreBytes-drop 1 (x ∷ xs) f)) in
    let s = big_from-lt 0 n ys (byte_at ys (AreBytes-drop 1 (y ∷ ys) g)) in
    let d = same_digits (256 ^ n) x y (big_number n xs) (big_number n ys) r s (omega (arith, e, big_from-cons 0 n x xs, big_from-cons 0 n y ys)) in
    let tail : xs ≡ ys = same_number n xs ys (omega (arith, p)) (omega (arith, q)) (AreBytes-drop 1 (x ∷ xs) f) (AreBytes-drop 1 (y ∷ ys) g) d.1 in
    ap (λ (z : ℕ). z ∷ xs) d.0 ∙ ap (λ (zs : List ℕ). y ∷ zs) tail

-- the bytes of the number that bytes make
pub number_bytes : (n : ℕ) (bytes : List ℕ) → n ≤ length bytes → AreBytes bytes → big_bytes n (big_number n bytes) ≡ take n bytes
number_bytes n bytes long fits =
    let x : ℕ = big_number n bytes in
    let read : big_number n (big_bytes n x) ≡ x = ap (big_number n) (sym (append-nil (big_bytes n x)))
    ∙ big_number-reads_back n x [] (big_from-lt 0 n bytes (byte_at bytes fits)) in
    same_number n (big_bytes n x) (take n bytes) (length-bytes_high_first n x) (omega (
      arith,
      length-take n bytes,
    )) (big_bytes_fit n x) (AreBytes-take n bytes fits) (read ∙ sym (big_from-take 0 n n bytes (omega arith)))
