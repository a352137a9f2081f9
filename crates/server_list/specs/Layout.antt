-- The data of SRVLST. DRDA, volume 3, SRVLST; the layout of its data is this project's own, in two versions: a byte 1 and
-- the rows, or a byte 2, four bytes of list number that aren't 0, and the rows. The rows are a byte with their count, 1
-- to 32, and then two bytes of member number and two bytes of weight for each.
use Rattle.std.specs.Prelude.{ℕ, ◌*◌, ◌^◌, ◌<◌, ◌&&◌, ◌==◌, nat_le, if◌then◌else◌, List, [], ◌∷◌, ◌++◌, length, drop, Option, Some, None, fold}
use Rattle.std.specs.List.{flat_map, AllByRecursion}
use Rattle.byteorder.specs.Endian.{big_number, big_bytes}
use Rattle.ddm_objects.specs.Objects.{canonical_object}
use Rattle.ddm_codepoints.specs.CodePoint.{srvlst}
use Rattle.server_list.specs.Tried.{has_member}
use Rattle.server_list.specs.Lists.{Listing, no_rows, with_row}
use Rattle.server_list.specs.declared.list.ServerRow.{ServerRow}

-- ---- how a list is written

-- a member and its weight: this project's own
abbrev pub row_bytes : ServerRow → List ℕ
row_bytes row = big_bytes 2 row.member ++ big_bytes 2 row.weight

-- the rows behind their count: this project's own
abbrev pub counted_rows : List ServerRow → List ℕ
counted_rows rows = length rows ∷ flat_map row_bytes rows

-- in the version without a number exactly where there is none: this project's own
abbrev pub list_data : Listing → List ℕ
list_data list =
    if list.number == 0 then 1 ∷ counted_rows list.rows else 2 ∷ big_bytes 4 list.number ++ counted_rows list.rows

-- the whole object: DRDA, volume 3, SRVLST
abbrev pub list_object : Listing → List ℕ
list_object list = canonical_object srvlst (list_data list)

-- a list that isn't empty, whose weights and number have so many bytes: this project's own
pub record HasBytes (list : Listing) : Type 0 where
  pub some : 0 < length list.rows
  pub weights : AllByRecursion (λ row. row.weight < 2 ^ 16) list.rows
  pub number : list.number < 2 ^ 32

-- ---- how a list is read

-- the row that four bytes spell: this project's own
abbrev pub row_at : List ℕ → ServerRow
row_at bytes = record { member = big_number 2 bytes; weight = big_number 2 (drop 2 bytes) }

-- the rows that are spelled, in order: this project's own
abbrev pub rows_of : List ℕ → List ServerRow
rows_of (a ∷ b ∷ c ∷ d ∷ rest) = row_at (a ∷ b ∷ c ∷ d ∷ []) ∷ rows_of rest
rows_of _ = []

-- so many rows, and nothing after them: this project's own
abbrev pub counted_list : ℕ → List ℕ → Option Listing
counted_list number (count ∷ rows) =
    if nat_le 1 count && nat_le count 32 && length rows == 4 * count
    then Some (record { rows = rows_of rows; number = number })
    else None
counted_list number [] = None

-- a number that isn't 0, and the rows: this project's own
abbrev pub numbered_list : List ℕ → Option Listing
numbered_list (a ∷ b ∷ c ∷ d ∷ rest) =
    if big_number 4 (a ∷ b ∷ c ∷ d ∷ []) == 0 then None else counted_list (big_number 4 (a ∷ b ∷ c ∷ d ∷ [])) rest
numbered_list _ = None

-- The list that the data spell, with all its rows; None where the layout isn't met. This project's own.
abbrev pub spelled_list : List ℕ → Option Listing
spelled_list (version ∷ rest) =
    if version == 1 then counted_list 0 rest else (if version == 2 then numbered_list rest else None)
spelled_list [] = None

-- a row more, where its member is known and isn't there yet: this project's own
abbrev pub with_known : ℕ → Listing → ServerRow → Listing
with_known known list row = if has_member known row.member then with_row list row else list

-- The rows of known members, in order, and of one that is named more than once the first; the number stays. This
-- project's own.
abbrev pub known_rows : ℕ → Listing → Listing
known_rows known list = fold (with_known known) (record no_rows { number = list.number }) list.rows

-- a list without rows is none: this project's own
abbrev pub unless_empty : Listing → Option Listing
unless_empty list = if length list.rows == 0 then None else Some list

abbrev pub read_known : ℕ → Option Listing → Option Listing
read_known known None = None
read_known known (Some list) = unless_empty (known_rows known list)

-- the list that is read from the data: this project's own
abbrev pub read_list : List ℕ → ℕ → Option Listing
read_list bytes known = read_known known (spelled_list bytes)
