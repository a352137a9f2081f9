-- What holds of all that a reader keeps. No standard speaks of it: this is this project's own.
use Rattle.std.specs.Prelude.{ℕ, ◌+◌, ◌≤◌, List, length}
use Rattle.std.specs.List.{AllByRecursion}
use Rattle.dss_frame.specs.declared.dss.Placed.{Placed}
use Rattle.dss_frame.specs.declared.step.Position.{Position}

-- no DSS that was read is longer, with the six bytes of its header, than a chain may be, and no more bytes are left to a chain
pub record IsWithin (limit : ℕ) (whole : List Placed) (position : Position) : Type 0 where
  pub bodies : AllByRecursion (λ placed. length placed.dss.body + 6 ≤ limit) whole
  pub room : position.room ≤ limit
