-- Lists of members with their weights. DRDA, volume 3, SRVLST: a server list; that a member is known by a number alone is
-- this project's own.
use Rattle.std.specs.Prelude.{◌≡◌, ℕ, Bool, true, ◌&&◌, ◌==◌, not, nat_eq, if◌then◌else◌, List, [], ◌∷◌, ◌++◌, map}
use Rattle.std.specs.List.{IsDistinct, AllByRecursion, list_any}
use Rattle.server_list.specs.Tried.{is_member}
use Rattle.server_list.specs.declared.list.ServerRow.{ServerRow}

-- the rows in order, and the list's number, 0 where it has none: this project's own
pub record Listing : Type 0 where
  pub rows : List ServerRow
  pub number : ℕ

-- this project's own
abbrev pub no_rows : Listing
no_rows = record { rows = []; number = 0 }

abbrev pub members_of : List ServerRow → List ℕ
members_of rows = map (λ row. row.member) rows

-- a row has this member
abbrev pub is_listed : List ServerRow → ℕ → Bool
is_listed rows member = list_any (λ row. member == row.member) rows

-- a member that can be added: this project's own
abbrev pub is_listable : List ServerRow → ℕ → Bool
is_listable rows member = is_member member && not (is_listed rows member)

-- a row at the end, where its member can be added: this project's own
abbrev pub with_row : Listing → ServerRow → Listing
with_row list row = if is_listable list.rows row.member then record list { rows = list.rows ++ row ∷ [] } else list

-- each row has a member's number, and no two have the same: this project's own
pub record IsSound (rows : List ServerRow) : Type 0 where
  pub members : AllByRecursion (λ row. is_member row.member ≡ true) rows
  pub distinct : IsDistinct nat_eq (members_of rows)
