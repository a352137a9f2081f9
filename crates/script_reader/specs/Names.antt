-- The users and the rows of a script, of which none comes twice: this project's choice.
use Rattle.std.specs.Prelude.{◌≡◌, ℕ, ◌^◌, ◌<◌, List, Bool, ◌&&◌, ◌==◌, ◌++◌, Vec}
use Rattle.std.specs.List.{list_any}
use Rattle.std.specs.Str.{bytes_eq}
use Rattle.std.specs.BTreeSet.{BTreeSet}
use Rattle.byteorder.specs.Endian.{big_bytes}
use Rattle.script_reader.specs.declared.script.User.{User}
use Rattle.script_reader.specs.declared.script.Row.{Row}

-- a user has this name
abbrev pub is_user : List ℕ → List User → Bool
is_user name users = list_any (λ user. bytes_eq name user.name) users

-- a row has this schema and this key
abbrev pub is_row : List ℕ → ℕ → List Row → Bool
is_row schema key rows = list_any (λ row. bytes_eq schema row.schema && key == row.key) rows

-- the bytes by which a row is found: its key in four bytes, and its schema
abbrev pub row_name : List ℕ → ℕ → List ℕ
row_name schema key = big_bytes 4 key ++ schema

-- this set has this name
abbrev pub has_name : {Z : Type 0} → List ℕ → BTreeSet (Vec ℕ Z) → Bool
has_name name names = list_any (λ key. bytes_eq name key.items) names.keys

-- the set has the names of the users, and no others
abbrev pub KnowsUsers : {Z : Type 0} → BTreeSet (Vec ℕ Z) → List User → Type 0
KnowsUsers names users = (name : List ℕ) → has_name name names ≡ is_user name users

-- the set has the names of the rows, and no others
abbrev pub KnowsRows : {Z : Type 0} → BTreeSet (Vec ℕ Z) → List Row → Type 0
KnowsRows names rows = (schema : List ℕ) (key : ℕ) → key < 2 ^ 32 → has_name (row_name schema key) names ≡ is_row schema key rows
