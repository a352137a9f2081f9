-- Rows as a list of bytes.
use Rattle.std.proofs.Common.{◌≡◌, ℕ, ◌<◌, ◌≤◌, List, [], ◌∷◌, length, drop, take, refl, arith}
use Rattle.server_list.specs.Layout.{rows_of, row_at}

-- the first row, and the others
pub rows_more : (bytes : List ℕ) → 4 ≤ length bytes → rows_of bytes ≡ row_at (take 4 bytes) ∷ rows_of (drop 4 bytes)
rows_more [] h = absurd (omega (arith, h))
rows_more (a ∷ []) h = absurd (omega (arith, h))
rows_more (a ∷ b ∷ []) h = absurd (omega (arith, h))
rows_more (a ∷ b ∷ c ∷ []) h = absurd (omega (arith, h))
rows_more (a ∷ b ∷ c ∷ d ∷ rest) h = refl

-- too few bytes for a row
pub rows_none : (bytes : List ℕ) → length bytes < 4 → rows_of bytes ≡ []
rows_none [] h = refl
rows_none (a ∷ []) h = refl
rows_none (a ∷ b ∷ []) h = refl
rows_none (a ∷ b ∷ c ∷ []) h = refl
rows_none (a ∷ b ∷ c ∷ d ∷ rest) h = absurd (omega (arith, h))
