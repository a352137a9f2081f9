-- How often a worker's dial was called, and how many of its lends were answered Dial. This project's own.
use Rattle.std.specs.Prelude.{◌≡◌, ℕ, ◌+◌, ◌<◌, ◌≤◌, Bool, false}
use Rattle.link_ends.specs.Counts.{greatest}

-- As often as the lends were answered so, or less often where it found no memory. Where neither count reaches the greatest value.
pub record HasDialled (calls dials calls_now dials_now : ℕ) (refused : Bool) : Type 0 where
  pub calls_before : calls_now < greatest → calls < greatest
  pub dials_before : dials_now < greatest → dials < greatest
  pub most : calls_now < greatest → dials_now < greatest → calls_now + dials ≤ calls + dials_now
  pub all : refused ≡ false → calls_now < greatest → dials_now < greatest → calls_now + dials ≡ calls + dials_now
