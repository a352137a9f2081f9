-- What a list keeps in its 32 rows.
use Rattle.std.proofs.Common.{◌≡◌, ℕ, suc, ◌+◌, ◌-◌, ◌<◌, true, List, [], ◌∷◌, ◌++◌, length, take, set, replicate, append_assoc, refl, ap, sym, ◌∙◌, arith}
use Rattle.std.proofs.lemmas.List.{take_more_set, length-set}
use Rattle.std.proofs.Math.Seq.{set-append_seam}
use Rattle.server_list.specs.Lists.{is_listable, with_row}
use Rattle.server_list.specs.Inside.{blank, listing_of, IsKept, length-listing}
use Rattle.server_list.specs.declared.list.ServerRow.{ServerRow}
use Rattle.server_list.specs.declared.list.ServerList.TheInside.{Inside}
use Rattle.server_list.proofs.Sound.{sound_push, few_rows, sound_none}

pub blanks_are_kept : IsKept (record { rows = replicate 32 blank; len = 0; number = 0 })
blanks_are_kept = record { size = refl; within = omega arith; blanks = refl; sound = sound_none }

-- there is a blank for a row that can be added
pub blank_left : (list : Inside) (row : ServerRow) → IsKept list → is_listable (listing_of list).rows row.member ≡ true → list.len < 32
blank_left list row kept h =
    let few = few_rows (take list.len list.rows) row kept.sound h in
    let e = length-listing list kept in omega arith

-- the fields with a row more
abbrev pub with_blank_used : Inside → ServerRow → Inside
with_blank_used list row = record { rows = set list.rows list.len row; len = list.len + 1; number = list.number }

pub rows_with_blank_used : (list : Inside) (row : ServerRow) → IsKept list → list.len < 32
    → take (list.len + 1) (set list.rows list.len row) ≡ take list.len list.rows ++ row ∷ []
rows_with_blank_used list row kept lt =
    let h : list.len < length list.rows = rw kept.size lt in take_more_set list.rows list.len row h

blank_more : (n : ℕ) → n < 32 → replicate (32 - n) blank ≡ blank ∷ replicate (32 - (n + 1)) blank
blank_more n lt = let e : 32 - n ≡ suc (32 - (n + 1)) = omega arith in rw e refl

used : (front back : List ServerRow) (n : ℕ) (row : ServerRow) → length front ≡ n → set (front ++ blank ∷ back) n row ≡ (front ++ row ∷ []) ++ back
used front back n row e =
    ap (λ (k : ℕ). set (front ++ blank ∷ back) k row) (sym e) ∙ set-append_seam front blank back row ∙ sym (append_assoc front (row ∷ []) back)

pub kept_with_blank_used : (list : Inside) (row : ServerRow) → IsKept list → is_listable (listing_of list).rows row.member ≡ true
    → IsKept (with_blank_used list row)
kept_with_blank_used list row kept h =
    let lt = blank_left list row kept h in
    let front = take list.len list.rows in
    let back = replicate (32 - (list.len + 1)) blank in
    let rows : take (list.len + 1) (set list.rows list.len row) ≡ front ++ row ∷ [] = rows_with_blank_used list row kept lt in
    let whole : list.rows ≡ front ++ blank ∷ back = kept.blanks ∙ ap (λ (xs : List ServerRow). front ++ xs) (blank_more list.len lt) in
    let after : set list.rows list.len row ≡ (front ++ row ∷ []) ++ back = ap (λ (xs : List ServerRow). set xs list.len row) whole
    ∙ used front back list.len row (length-listing list kept) in
    record {
      size = length-set list.rows list.len row ∙ kept.size;
      within = omega arith;
      blanks = after ∙ ap (λ (xs : List ServerRow). xs ++ back) (sym rows);
      sound = rw rows (sound_push front row kept.sound h);
    }

pub view_with_blank_used : (list : Inside) (row : ServerRow) → IsKept list → is_listable (listing_of list).rows row.member ≡ true
    → listing_of (with_blank_used list row) ≡ with_row (listing_of list) row
view_with_blank_used list row kept h =
    rw (h, rows_with_blank_used list row kept (blank_left list row kept h)) refl
