-- What the small group begins with. No standard speaks of it: it is this project's own.
use Rattle.std.specs.Prelude.{ℕ, Bool, if◌then◌else◌, List, is_some, Some}
use Rattle.std.specs.Ordering.{nat_cmp}
use Rattle.std.specs.Cmp.Lexicographic.{slice_cmp}
use Rattle.std.specs.BTreeMap.{insert_entry}
use Rattle.ddm_codepoints.specs.declared.typdef.TypDef.TheVariants.{Sql370}
use Rattle.ddm_codepoints.specs.Character.{trimmed}
use Rattle.reply_texts.specs.Text.{codes_in}
use Rattle.group_store.specs.declared.rows.Place.{Place}
use Rattle.group_store.specs.Rows.{place_order, text_at, number_at}
use Rattle.group_store.specs.Access.{Users, password_of}
use Rattle.group_store.specs.Store.{StoreState}

-- a name in EBCDIC, without spaces at its end
abbrev pub user_name : List ℕ → List ℕ
user_name name = trimmed (codes_in Sql370 name)

abbrev pub has_user : List ℕ → Users → Bool
has_user name users = is_some (password_of (user_name name) users)

-- with a user, unless one has this name
abbrev pub with_user : List ℕ → List ℕ → StoreState → StoreState
with_user name password s =
    if has_user name s.users then s
    else record s { users = insert_entry (slice_cmp nat_cmp) s.users (user_name name) (codes_in Sql370 password) }

abbrev pub has_row : Place → StoreState → Bool
has_row place s = is_some (text_at place s.rows)

-- with a row, unless one is there; the number of the place's last commit stays
abbrev pub with_row : Place → List ℕ → StoreState → StoreState
with_row place text s =
    if has_row place s then s
    else record s { rows = insert_entry place_order s.rows place (record { text = Some text; number = number_at place s.rows }) }
