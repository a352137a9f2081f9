-- A name with spaces behind it, one character after another.
use Rattle.std.proofs.Common.{◌≡◌, ℕ, suc, ◌+◌, ◌-◌, ◌<◌, ◌≤◌, List, [], ◌∷◌, ◌++◌, length, map, take, replicate, get_or, refl, sym, ◌∙◌, ap, arith}
use Rattle.std.proofs.Common.{append_assoc, slice_set}
use Rattle.std.proofs.lemmas.List.{set-append_right, take_more, length-take}
use Rattle.ddm_codepoints.specs.Character.{space}

-- so many bytes, the first of them replaced
first_replaced : (count more byte : ℕ) → count ≡ suc more → slice_set (replicate count space) 0 byte ≡ byte ∷ replicate more space
first_replaced count more byte e = rw e refl

pub mapped : (f : ℕ → ℕ) (front : List ℕ) (byte : ℕ) → map f (front ++ byte ∷ []) ≡ map f front ++ f byte ∷ []
mapped f [] byte = refl
mapped f (first ∷ front) byte = ap (λ rest. f first ∷ rest) (mapped f front byte)

pub length_mapped : (f : ℕ → ℕ) (bytes : List ℕ) → length (map f bytes) ≡ length bytes
length_mapped f [] = refl
length_mapped f (byte ∷ bytes) = ap suc (length_mapped f bytes)

pub padded_more : (f : ℕ → ℕ) (name padded : List ℕ) (i : ℕ) → i < length name → length name ≤ 18 →
    padded ≡ map f (take i name) ++ replicate (18 - i) space →
    slice_set padded i (f (get_or name i 0)) ≡ map f (take (i + 1) name) ++ replicate (18 - (i + 1)) space
padded_more f name padded i within short e =
    let front : List ℕ = map f (take i name) in
    let byte : ℕ = f (get_or name i 0) in
    let size : length front ≡ i = length_mapped f (take i name) ∙ grind (arith, length-take) in
    let left : 18 - i ≡ suc (18 - (i + 1)) = omega arith in
    let gone : i - i ≡ 0 = omega arith in
    ap (λ bytes. slice_set bytes i byte) e
    ∙ set-append_right front (replicate (18 - i) space) i i byte size (omega arith)
    ∙ ap (λ k. front ++ slice_set (replicate (18 - i) space) k byte) gone
    ∙ ap (λ bytes. front ++ bytes) (first_replaced (18 - i) (18 - (i + 1)) byte left)
    ∙ sym (append_assoc front (byte ∷ []) (replicate (18 - (i + 1)) space))
    ∙ ap (λ bytes. bytes ++ replicate (18 - (i + 1)) space) (sym (ap (map f) (take_more name i 0 within) ∙ mapped f (take i name) (get_or name i 0)))
