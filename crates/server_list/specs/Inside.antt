-- How a list is kept in place: 32 rows, of which those that aren't used are blank. This project's own.
use Rattle.std.specs.Prelude.{◌≡◌, refl, ℕ, ◌-◌, ◌≤◌, ◌++◌, length, take, replicate}
use Rattle.std.proofs.Common.{sym, ap, ◌∙◌, List}
use Rattle.std.proofs.lemmas.List.{length-take-le}
use Rattle.server_list.specs.Lists.{Listing, IsSound}
use Rattle.server_list.specs.declared.list.ServerRow.{ServerRow}
use Rattle.server_list.specs.declared.list.ServerList.TheInside.{Inside}

abbrev pub blank : ServerRow
blank = record { member = 0; weight = 0 }

abbrev pub listing_of : Inside → Listing
listing_of list = record { rows = take list.len list.rows; number = list.number }

-- the fields of the list with these rows and this number
abbrev pub inside_of : Listing → Inside
inside_of list = record {
  rows = list.rows ++ replicate (32 - length list.rows) blank;
  len = length list.rows;
  number = list.number;
}

pub record IsKept (list : Inside) : Type 0 where
  pub size : length list.rows ≡ 32
  pub within : list.len ≤ 32
  pub blanks : list.rows ≡ take list.len list.rows ++ replicate (32 - list.len) blank
  pub sound : IsSound (take list.len list.rows)

same_inside : (a b : Inside) → a.rows ≡ b.rows → a.len ≡ b.len → a.number ≡ b.number → a ≡ b
same_inside a b e f g =
    let made : List ServerRow → ℕ → ℕ → Inside = λ rows len number. record { rows = rows; len = len; number = number } in
    ap (λ (rows : List ServerRow). made rows a.len a.number) e ∙ ap (λ (len : ℕ). made b.rows len a.number) f
    ∙ ap (λ (number : ℕ). made b.rows b.len number) g

-- as many rows are in use as the list says
pub length-listing : (list : Inside) → IsKept list → length (take list.len list.rows) ≡ list.len
length-listing list kept = let h : list.len ≤ length list.rows = rw kept.size kept.within in length-take-le list.len list.rows h

-- the rows in use and the blanks are all that there is
pub inside_is_kept : (list : Inside) → IsKept list → inside_of (listing_of list) ≡ list
inside_is_kept list kept =
    let e = length-listing list kept in
    same_inside (inside_of (listing_of list)) list
    (rw e (sym kept.blanks))
    e
    refl
