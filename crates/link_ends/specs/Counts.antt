-- Counts of what an end of the outside met: faults, ends, writes that took nothing.
-- They are kept in 64 bits and stand still at the greatest value; no standard speaks of them.
use Rattle.std.specs.Prelude.{ℕ, ◌+◌, ◌-◌, ◌^◌, ◌≤◌, Bool, if◌then◌else◌}
use Rattle.std.specs.Prelude.{min}

-- the greatest value of a count
abbrev pub greatest : ℕ
greatest = 2 ^ 64 - 1

-- the count after one more: it stands still at the greatest value
abbrev pub one_more : ℕ → ℕ
one_more count = min (count + 1) greatest

-- the count after a call that counts, or doesn't
abbrev pub counted : Bool → ℕ → ℕ
counted counts count = if counts then one_more count else count

-- the count rose from the first value to the second, or stands at the greatest value
pub record Rose (before now : ℕ) : Type 0 where
  pub reached : one_more before ≤ now
