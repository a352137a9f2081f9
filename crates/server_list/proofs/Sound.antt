-- Lists whose rows have members' numbers, no two the same.
use Rattle.std.proofs.Common.{◌≡◌, ℕ, ◌<◌, ◌≤◌, ◌||◌, Bool, true, false, not, eqb, List, [], ◌∷◌, ◌++◌, length, refl, ap, ◌∙◌, arith}
use Rattle.std.proofs.lemmas.Bool.{and_parts}
use Rattle.std.proofs.lemmas.Bool.Decides.{nat_tests}
use Rattle.std.proofs.lemmas.List.{map-append, length-map, length-append}
use Rattle.std.proofs.lemmas.Map.Keys.{IsDistinct-push, IsDistinct-cons}
use Rattle.std.proofs.lemmas.Map.Steps.{length-le_from_distinct_below}
use Rattle.std.specs.Cmp.{nat_eq_equiv}
use Rattle.std.proofs.lemmas.List.Elements.{All-from_recursion}
use Rattle.std.specs.List.{All, list_any, AllByRecursion, IsDistinct}
use Rattle.server_list.specs.Tried.{is_member}
use Rattle.server_list.specs.Lists.{members_of, is_listed, is_listable, IsSound}
use Rattle.server_list.specs.declared.list.ServerRow.{ServerRow}

list_any-members : (member : ℕ) (rows : List ServerRow) → list_any (eqb member) (members_of rows) ≡ is_listed rows member
list_any-members member [] = refl
list_any-members member (row ∷ rows) = ap (λ b. eqb member row.member || b) (list_any-members member rows)

all_push : {X : Type 0} (P : X → Type 0) (xs : List X) (y : X) → AllByRecursion P xs → P y → AllByRecursion P (xs ++ y ∷ [])
all_push P [] y h p = (p, tt)
all_push P (x ∷ xs) y h p = (h.0, all_push P xs y h.1 p)

unnot : (b : Bool) → not b ≡ true → b ≡ false
unnot true h = cc
unnot false h = refl

-- no rows
pub sound_none : IsSound []
unfolding IsDistinct
sound_none = record { members = tt; distinct = tt }

not_listed : (rows : List ServerRow) (member : ℕ) → is_listable rows member ≡ true → list_any (eqb member) (members_of rows) ≡ false
not_listed rows member h =
    let p = and_parts (is_member member) (not (is_listed rows member)) h in
    list_any-members member rows ∙ unnot (is_listed rows member) p.1

numbered : (rows : List ServerRow) (member : ℕ) → is_listable rows member ≡ true → is_member member ≡ true
numbered rows member h = let p = and_parts (is_member member) (not (is_listed rows member)) h in p.0

-- a row that can be added leaves the list sound
pub sound_push : (rows : List ServerRow) (row : ServerRow) → IsSound rows → is_listable rows row.member ≡ true → IsSound (rows ++ row ∷ [])
sound_push rows row sound h = record {
  members = all_push (λ (r : ServerRow). is_member r.member ≡ true) rows row sound.members (numbered rows row.member h);
  distinct = rw (map-append (λ (r : ServerRow). r.member) rows (row ∷ [])) (IsDistinct-push nat_eq_equiv (members_of rows) row.member sound.distinct
      (not_listed rows row.member h));
}

members_below : (rows : List ServerRow) (number : ℕ) → AllByRecursion (λ row. is_member row.member ≡ true) rows
    → list_any (eqb number) (members_of rows) ≡ true → number < 33
members_below [] number h e = cc
members_below (row ∷ rows) number h e = elim (eqb number row.member) as (λ b. eqb number row.member ≡ b → number < 33) [
  | true ↦ λ t. let m = h.0 in grind (arith, nat_tests)
  | false ↦ λ f. members_below rows number h.1 (rw f at e)
] refl

members_above : (rows : List ServerRow) → AllByRecursion (λ row. is_member row.member ≡ true) rows
    → AllByRecursion (λ number. eqb 0 number ≡ false) (members_of rows)
members_above [] h = tt
members_above (row ∷ rows) h = ((let m = h.0 in grind (arith, nat_tests)), members_above rows h.1)

zero_or : (rows : List ServerRow) (number : ℕ) → AllByRecursion (λ row. is_member row.member ≡ true) rows
    → list_any (eqb number) (0 ∷ members_of rows) ≡ true → number < 33
zero_or rows number h e = elim (eqb number 0) as (λ b. eqb number 0 ≡ b → number < 33) [
  | true ↦ λ t. grind (arith, nat_tests)
  | false ↦ λ f. members_below rows number h (rw f at e)
] refl

-- there are at most 32 rows
pub at_most_32 : (rows : List ServerRow) → IsSound rows → length rows ≤ 32
at_most_32 rows sound =
    let numbers = members_of rows in
    let distinct = IsDistinct-cons eqb 0 numbers (members_above rows sound.members) sound.distinct in
    let bound : length (0 ∷ numbers) ≤ 33 = length-le_from_distinct_below (0 ∷ numbers) 33 distinct (λ q e. zero_or rows q sound.members e) in
    let size = length-map rows (λ (r : ServerRow). r.member) in
    omega arith

-- there is room for a row that can be added
pub few_rows : (rows : List ServerRow) (row : ServerRow) → IsSound rows → is_listable rows row.member ≡ true → length rows < 32
few_rows rows row sound h =
    let bound = at_most_32 (rows ++ row ∷ []) (sound_push rows row sound h) in
    omega (arith, length-append rows (row ∷ []))

below_32 : (rows : List ServerRow) → AllByRecursion (λ row. is_member row.member ≡ true) rows → AllByRecursion (λ row. row.member ≤ 32) rows
below_32 [] h = tt
below_32 (row ∷ rows) h = ((let m = h.0 in grind (arith, nat_tests)), below_32 rows h.1)

-- each row has a member's number
pub members_within : (rows : List ServerRow) → IsSound rows → All (λ row. row.member ≤ 32) rows
members_within rows sound = All-from_recursion (λ (row : ServerRow). row.member ≤ 32) rows (below_32 rows sound.members)

above_0 : (rows : List ServerRow) → AllByRecursion (λ row. is_member row.member ≡ true) rows → AllByRecursion (λ row. 1 ≤ row.member) rows
above_0 [] h = tt
above_0 (row ∷ rows) h = ((let m = h.0 in grind (arith, nat_tests)), above_0 rows h.1)

-- no row's number is 0
pub members_numbered : (rows : List ServerRow) → IsSound rows → All (λ row. 1 ≤ row.member) rows
members_numbered rows sound = All-from_recursion (λ (row : ServerRow). 1 ≤ row.member) rows (above_0 rows sound.members)
