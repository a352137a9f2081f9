-- Which parameters are dropped where an object is written anew. No standard speaks of it: this is this project's own.
use Rattle.std.specs.Prelude.{ℕ, Bool}
use Rattle.unit_segments.specs.declared.rewrite.Dropped.{Dropped}
use Rattle.unit_segments.specs.declared.rewrite.Dropped.TheVariants.{Asking, Lists, ListsAndRelease}
use Rattle.unit_segments.specs.Release.{is_asking}
use Rattle.unit_segments.specs.Strip.{is_list, is_list_or_release}

abbrev pub drops : Dropped → ℕ → Bool
drops Asking = is_asking
drops Lists = is_list
drops ListsAndRelease = is_list_or_release
