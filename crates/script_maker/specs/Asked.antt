-- The words that ask for a script. They are this project's choice.
use Rattle.std.specs.Prelude.{ℕ, ◌<◌, ◌≤◌, ◌^◌, List, [], ◌∷◌, Option, None, option_and_then, option_map, codes, if◌then◌else◌}
use Rattle.std.specs.Str.{bytes_eq}
use Rattle.script_words.specs.Number.{number_within}
use Rattle.script_maker.specs.declared.words.Asked.{Asked}

-- what three numbers ask for, where each is one within its limits
abbrev pub asked_by : Option ℕ → Option ℕ → Option ℕ → Option Asked
asked_by seed apps units =
    option_and_then (λ s. option_and_then (λ a. option_map (λ u. record { seed = s; apps = a; units = u }) units) apps) seed

-- `make`, a seed, a number of applications, and a number of units of work of each
abbrev pub asked_of : List (List ℕ) → Option Asked
asked_of (name ∷ seed ∷ apps ∷ units ∷ []) =
    if bytes_eq name (codes "make")
    then asked_by (number_within 0 2147483647 seed) (number_within 1 64 apps) (number_within 1 100 units)
    else None
asked_of _ = None

pub record IsWithin (asked : Asked) : Type 0 where
  pub seed : asked.seed < 2 ^ 31
  pub some_apps : 1 ≤ asked.apps
  pub most_apps : asked.apps ≤ 64
  pub some_units : 1 ≤ asked.units
  pub most_units : asked.units ≤ 100
