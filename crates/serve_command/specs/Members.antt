-- The list that a gateway begins with: its members in the order of their words, numbered from 1. This project's own.
use Rattle.std.specs.Prelude.{ℕ, ◌+◌, List, [], ◌∷◌}
use Rattle.server_list.specs.Lists.{Listing}
use Rattle.server_list.specs.declared.list.ServerRow.{ServerRow}

-- members with these weights, the first with this number and each with the next one
abbrev pub rows_from : ℕ → List ℕ → List ServerRow
rows_from member [] = []
rows_from member (weight ∷ weights) = record { member = member; weight = weight } ∷ rows_from (member + 1) weights

abbrev pub list_of : List ℕ → Listing
list_of weights = record { rows = rows_from 1 weights; number = 0 }
