-- The lists of members that members send: words M=W, each a member of the header with its weight. This project's choice.
use Rattle.std.specs.Prelude.{ℕ, ◌==◌, Bool, if◌then◌else◌, List, [], ◌∷◌, fold, Option, Some, None, option_and_then}
use Rattle.std.specs.List.{before_first, after_first}
use Rattle.server_list.specs.declared.list.ServerRow.{ServerRow}
use Rattle.server_list.specs.Lists.{Listing, is_listed, is_listable, with_row}
use Rattle.gateway_setup.specs.Sent.{with_sent}
use Rattle.script_words.specs.Number.{number_within}

infixl 10 ◌>>=◌
abbrev pub ◌>>=◌ : {A B : Type 0} → Option A → (A → Option B) → Option B
o >>= f = option_and_then f o

-- the number of a member of the header
abbrev pub listed_member : List ServerRow → List ℕ → Option ℕ
listed_member members word = do
  member ← number_within 1 32 word
  if is_listed members member then Some member else None

abbrev pub is_equals : ℕ → Bool
is_equals byte = byte == 61

-- M=W
unfoldable pub weight_read : List ServerRow → List ℕ → Option ServerRow
weight_read members word = do
  member ← listed_member members (before_first is_equals word)
  weight ← number_within 0 65535 (after_first is_equals word)
  Some (record { member = member; weight = weight })

-- a row more, where its member isn't there yet
abbrev pub row_added : Listing → ServerRow → Option Listing
row_added list row = if is_listable list.rows row.member then Some (with_row list row) else None

-- the list with the row that a word says
abbrev pub weight_added : List ServerRow → Listing → List ℕ → Option Listing
weight_added members list word = weight_read members word >>= λ row. row_added list row

-- the list with a row for each word: no member comes twice
abbrev pub weights_read : List ServerRow → Listing → List (List ℕ) → Option Listing
weights_read members list [] = Some list
weights_read members list (word ∷ words) = weight_added members list word >>= λ more. weights_read members more words

-- each of these members sends this list
abbrev pub sent_by_all : List (Option Listing) → Listing → List ServerRow → List (Option Listing)
sent_by_all sent list members = fold (λ (lists : List (Option Listing)) (row : ServerRow). with_sent lists row.member list) sent members
