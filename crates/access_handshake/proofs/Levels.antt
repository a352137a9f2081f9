-- Levels as a list of bytes.
use Rattle.std.proofs.Common.{◌≡◌, ℕ, ◌<◌, ◌≤◌, List, [], ◌∷◌, length, drop, refl, arith}
use Rattle.byteorder.specs.Endian.{big_number}
use Rattle.access_handshake.specs.Managers.{managers_of}

-- the first manager, and the others
pub managers_more : (list : List ℕ) → 4 ≤ length list →
    managers_of list ≡ record { code = big_number 2 list; level = big_number 2 (drop 2 list) } ∷ managers_of (drop 4 list)
managers_more [] h = absurd (omega (arith, h))
managers_more (a ∷ []) h = absurd (omega (arith, h))
managers_more (a ∷ b ∷ []) h = absurd (omega (arith, h))
managers_more (a ∷ b ∷ c ∷ []) h = absurd (omega (arith, h))
managers_more (a ∷ b ∷ c ∷ d ∷ rest) h = refl

-- too few bytes for a manager
pub managers_none : (list : List ℕ) → length list < 4 → managers_of list ≡ []
managers_none [] h = refl
managers_none (a ∷ []) h = refl
managers_none (a ∷ b ∷ []) h = refl
managers_none (a ∷ b ∷ c ∷ []) h = refl
managers_none (a ∷ b ∷ c ∷ d ∷ rest) h = absurd (omega (arith, h))
