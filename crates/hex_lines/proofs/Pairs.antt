-- The pairs of digits, two digits on.
use Rattle.std.proofs.Common.{◌≡◌, ℕ, ◌≤◌, List, [], ◌∷◌, ◌++◌, length, drop, get_or, Option, Some, None, refl, ap, sym, ◌∙◌, arith, append_assoc}
use Rattle.std.specs.Option.{option_map, option_and_then}
use Rattle.hex_lines.specs.Hex.{bytes_of_pairs, hex_byte}

pairs_two : (left : List ℕ) → 2 ≤ length left →
    bytes_of_pairs left ≡ option_and_then (λ byte. option_map (λ bytes. byte ∷ bytes) (bytes_of_pairs (drop 2 left)))
    (hex_byte (get_or left 0 0) (get_or left 1 0))
pairs_two [] two = absurd (omega arith)
pairs_two (x ∷ []) two = absurd (omega arith)
pairs_two (x ∷ y ∷ left) two = refl

pushed : (bytes : List ℕ) (byte : ℕ) (o : Option (List ℕ)) →
    option_map (λ rest. bytes ++ rest) (option_map (λ rest. byte ∷ rest) o) ≡ option_map (λ rest. (bytes ++ byte ∷ []) ++ rest) o
pushed bytes byte None = refl
pushed bytes byte (Some rest) = ap Some (sym (append_assoc bytes (byte ∷ []) rest))

-- what the loop keeps: the bytes so far go before what the pairs that are left spell
pub pairs_more : (bytes left : List ℕ) (byte : ℕ) → 2 ≤ length left → hex_byte (get_or left 0 0) (get_or left 1 0) ≡ Some byte →
    option_map (λ rest. (bytes ++ byte ∷ []) ++ rest) (bytes_of_pairs (drop 2 left)) ≡ option_map (λ rest. bytes ++ rest) (bytes_of_pairs left)
pairs_more bytes left byte two e =
    sym (ap (option_map (λ rest. bytes ++ rest)) (pairs_two left two
    ∙ ap (option_and_then (λ b. option_map (λ rest. b ∷ rest) (bytes_of_pairs (drop 2 left)))) e) ∙ pushed bytes byte (bytes_of_pairs (drop 2 left)))
