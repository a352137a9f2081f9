-- Told bytes with nothing more.
use Rattle.std.proofs.Common.{◌≡◌, ℕ, List, [], ◌++◌, Option, Some, None, option_map, refl, ap}
use Rattle.std.proofs.lemmas.List.{append-nil}

pub told_none : (told : Option (List ℕ)) → option_map (λ before. before ++ []) told ≡ told
told_none None = refl
told_none (Some bytes) = ap Some (append-nil bytes)
