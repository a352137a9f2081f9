-- The users of a script, and the set of their names. That no name comes twice is this project's choice.
use Rattle.std.specs.Prelude.{◌≡◌, ℕ, List, Bool}
use Rattle.std.specs.List.{list_any}
use Rattle.std.specs.Str.{bytes_eq}
use Rattle.std.specs.Prelude.{Vec}
use Rattle.std.specs.BTreeSet.{BTreeSet}
use Rattle.drda_gateway.specs.declared.script.User.{User}

-- a user has this name
abbrev pub is_taken : List ℕ → List User → Bool
is_taken name users = list_any (λ user. bytes_eq name user.name) users

-- this set has this name
abbrev pub has_name : {Z : Type 0} → List ℕ → BTreeSet (Vec ℕ Z) → Bool
has_name name names = list_any (λ key. bytes_eq name key.items) names.keys

-- the set has the names of the users, and no others
abbrev pub KnowsNames : {Z : Type 0} → BTreeSet (Vec ℕ Z) → List User → Type 0
KnowsNames names users = (name : List ℕ) → has_name name names ≡ is_taken name users
