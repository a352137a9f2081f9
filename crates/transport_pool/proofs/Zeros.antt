-- Counts before anything is counted.
use Rattle.std.proofs.Common.{ℕ, zero, suc, ◌≤◌, get_or, replicate, arith}

zeros : (n k : ℕ) → get_or (replicate n 0) k 0 ≤ 0
zeros zero k = omega arith
zeros (suc n) zero = omega arith
zeros (suc n) (suc k) = zeros n k

pub no_counts : (k : ℕ) → get_or (replicate 32 0) k 0 ≤ 0
no_counts k = zeros 32 k
