-- Bytes that are replaced in their places, one after another.
use Rattle.std.proofs.Common.{◌≡◌, ℕ, suc, ◌+◌, ◌<◌, List, [], ◌∷◌, ◌++◌, length, map, take, drop, get_or, slice_set, refl, sym, ◌∙◌, ap, arith}
use Rattle.std.proofs.Common.{append_assoc, add-one, drop-cons}
use Rattle.std.proofs.lemmas.List.{take_more, length-take}
use Rattle.ddm_codepoints.proofs.Padding.{mapped, length_mapped}

at_seam : (f : ℕ → ℕ) (front : List ℕ) (byte : ℕ) (rest : List ℕ)
    → slice_set (front ++ byte ∷ rest) (length front) (f (get_or (front ++ byte ∷ rest) (length front) 0)) ≡ front ++ f byte ∷ rest
at_seam f [] byte rest = refl
at_seam f (first ∷ front) byte rest = ap (λ bytes. first ∷ bytes) (at_seam f front byte rest)

next_at_seam : (f : ℕ → ℕ) (front bytes now : List ℕ) (i : ℕ) → i < length bytes → length front ≡ i → now ≡ front ++ drop i bytes
    → slice_set now i (f (get_or now i 0)) ≡ front ++ f (get_or bytes i 0) ∷ drop (i + 1) bytes
next_at_seam f front bytes now i within size is =
    let split : now ≡ front ++ get_or bytes i 0 ∷ drop (i + 1) bytes = is ∙ rw (add-one, drop-cons bytes i 0) refl in
    ap (λ k. slice_set now k (f (get_or now k 0))) (sym size)
    ∙ ap (λ list. slice_set list (length front) (f (get_or list (length front) 0))) split
    ∙ at_seam f front (get_or bytes i 0) (drop (i + 1) bytes)

pub one_more : (f : ℕ → ℕ) (bytes now : List ℕ) (i : ℕ) → i < length bytes → now ≡ map f (take i bytes) ++ drop i bytes
    → slice_set now i (f (get_or now i 0)) ≡ map f (take (i + 1) bytes) ++ drop (i + 1) bytes
one_more f bytes now i within is =
    let size : length (map f (take i bytes)) ≡ i = length_mapped f (take i bytes) ∙ grind (arith, length-take) in
    next_at_seam f (map f (take i bytes)) bytes now i within size is
    ∙ sym (append_assoc (map f (take i bytes)) (f (get_or bytes i 0) ∷ []) (drop (i + 1) bytes))
    ∙ ap (λ front. front ++ drop (i + 1) bytes) (sym (ap (map f) (take_more bytes i 0 within) ∙ mapped f (take i bytes) (get_or bytes i 0)))
