-- What is written of a list, read again.
use Rattle.std.proofs.Common.{◌≡◌, ℕ, ◌*◌, ◌^◌, ◌<◌, ◌&&◌, true, false, cond, eqb, leb, List, [], ◌∷◌, ◌++◌, length}
use Rattle.std.proofs.Common.{Some, refl, ap, sym, ◌∙◌, arith}
use Rattle.std.proofs.lemmas.Bool.Decides.{nat_tests}
use Rattle.std.specs.List.{flat_map, AllByRecursion}
use Rattle.byteorder.specs.Endian.{big_number, big_bytes}
use Rattle.byteorder.specs.Numbers.{big_number-reads_back}
use Rattle.server_list.specs.Tried.{is_member}
use Rattle.server_list.specs.Lists.{Listing, IsSound}
use Rattle.server_list.specs.Layout.{row_bytes, counted_rows, list_data, HasBytes, row_at, rows_of, counted_list, spelled_list}
use Rattle.server_list.specs.declared.list.ServerRow.{ServerRow}
use Rattle.server_list.proofs.Sound.{at_most_32}

four_bytes : (n : ℕ) → n < 2 ^ 32 → big_number 4 (big_bytes 4 n) ≡ n
four_bytes n h = big_number-reads_back 4 n [] h

rows_size : (rows : List ServerRow) → length (flat_map row_bytes rows) ≡ 4 * length rows
rows_size [] = refl
rows_size (row ∷ rows) = omega (arith, rows_size rows)

same_row : (r s : ServerRow) → r.member ≡ s.member → r.weight ≡ s.weight → r ≡ s
same_row r s e f =
    let made : ℕ → ℕ → ServerRow = λ member weight. record { member = member; weight = weight } in
    ap (λ (member : ℕ). made member r.weight) e ∙ ap (λ (weight : ℕ). made s.member weight) f

row_read : (row : ServerRow) → is_member row.member ≡ true → row.weight < 2 ^ 16 → row_at (row_bytes row) ≡ row
row_read row m w =
    let small : row.member < 2 ^ 16 = grind (arith, nat_tests) in
    same_row (row_at (row_bytes row)) row (big_number-reads_back 2 row.member (big_bytes 2 row.weight) small) (big_number-reads_back 2 row.weight [] w)

rows_read : (rows : List ServerRow) → AllByRecursion (λ row. is_member row.member ≡ true) rows → AllByRecursion (λ row. row.weight < 2 ^ 16) rows
    → rows_of (flat_map row_bytes rows) ≡ rows
rows_read [] m w = refl
rows_read (row ∷ rows) m w =
    ap (λ (r : ServerRow). r ∷ rows_of (flat_map row_bytes rows)) (row_read row m.0 w.0) ∙ ap (λ (rs : List ServerRow). row ∷ rs) (rows_read rows m.1 w.1)

counted_read : (number : ℕ) (rows : List ServerRow) → 0 < length rows → IsSound rows → AllByRecursion (λ row. row.weight < 2 ^ 16) rows
    → counted_list number (counted_rows rows) ≡ Some (record { rows = rows; number = number })
counted_read number rows some sound weights =
    let size = rows_size rows in
    let most = at_most_32 rows sound in
    let test : (leb 1 (length rows) && leb (length rows) 32 && eqb (length (flat_map row_bytes rows)) (4 * length rows)) ≡ true = grind (arith, nat_tests) in
    rw test (ap (λ (rs : List ServerRow). Some (record { rows = rs; number = number })) (rows_read rows sound.members weights))

abbrev plain : Listing → List ℕ
plain list = 1 ∷ counted_rows list.rows

abbrev numbered : Listing → List ℕ
numbered list = 2 ∷ big_bytes 4 list.number ++ counted_rows list.rows

plain_read : (list : Listing) → HasBytes list → IsSound list.rows → list.number ≡ 0 → spelled_list (plain list) ≡ Some list
plain_read list bytes sound e =
    counted_read 0 list.rows bytes.some sound bytes.weights
    ∙ ap (λ (n : ℕ). let made : Listing = record { rows = list.rows; number = n } in Some made) (sym e)

numbered_read : (list : Listing) → HasBytes list → IsSound list.rows → eqb list.number 0 ≡ false → spelled_list (numbered list) ≡ Some list
numbered_read list bytes sound f =
    let read : big_number 4 (big_bytes 4 list.number) ≡ list.number = four_bytes list.number bytes.number in
    rw (read, f) (counted_read list.number list.rows bytes.some sound bytes.weights)

pub written_read : (list : Listing) → HasBytes list → IsSound list.rows → spelled_list (list_data list) ≡ Some list
written_read list bytes sound =
    elim (eqb list.number 0) as (λ b. eqb list.number 0 ≡ b → spelled_list (cond b (plain list) (numbered list)) ≡ Some list) [
      | true ↦ λ t. plain_read list bytes sound (grind (arith, nat_tests))
      | false ↦ λ f. numbered_read list bytes sound f
    ] refl
