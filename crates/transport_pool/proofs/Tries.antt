-- Where all rows of a list are tried, so are all its members.
use Rattle.std.proofs.Common.{◌≡◌, ℕ, ◌==◌, ◌||◌, Bool, true, false, not, eqb, List, [], ◌∷◌, fold, refl, sym, ◌∙◌, subst, arith}
use Rattle.std.proofs.lemmas.Bool.{and_parts}
use Rattle.std.proofs.lemmas.Bool.Decides.{nat_tests}
use Rattle.std.specs.List.{AllByRecursion, list_all, range_with_len}
use Rattle.server_list.specs.Tried.{is_member, has_member, with_member}
use Rattle.server_list.specs.Choice.{are_tried}
use Rattle.server_list.specs.declared.list.ServerRow.{ServerRow}
use Rattle.server_list.proofs.Sets.{has_none, has_with}
use Rattle.transport_pool.specs.Steps.{members_of}
use Rattle.transport_pool.specs.Sound.{RowsAreSound}
use Rattle.transport_pool.specs.Grants.{is_within}

all_pass : (p : ℕ → Bool) (xs : List ℕ) → ((x : ℕ) → p x ≡ true) → list_all p xs ≡ true
all_pass p [] h = refl
all_pass p (x ∷ xs) h = rw (h x) (all_pass p xs h)

-- a member of a set with one more is in the set, or is that one
was_in : (tried acc added member : ℕ) → is_member added ≡ true → has_member tried added ≡ true
    → (has_member acc member ≡ true → has_member tried member ≡ true) → has_member (with_member acc added) member ≡ true
    → has_member tried member ≡ true
was_in tried acc added member m t h e =
    let both : (member == added || has_member acc member) ≡ true = sym (has_with acc added member m) ∙ e in
    elim (eqb member added) as (λ b. eqb member added ≡ b → (b || has_member acc member) ≡ true → has_member tried member ≡ true) [
      | true ↦ λ same other.
          let is : member ≡ added = grind (arith, nat_tests) in let P : ℕ → Type 0 = λ n. has_member tried n ≡ true in subst P (sym is) t
      | false ↦ λ differ other. h other
    ] refl both

listed_tried : (tried member acc : ℕ) (rows : List ServerRow) → AllByRecursion (λ row. is_member row.member ≡ true) rows → are_tried rows tried ≡ true
    → (has_member acc member ≡ true → has_member tried member ≡ true)
    → has_member (fold (λ members row. with_member members row.member) acc rows) member ≡ true → has_member tried member ≡ true
listed_tried tried member acc [] s t h e = h e
listed_tried tried member acc (row ∷ rows) s t h e =
    let parts = and_parts (has_member tried row.member) (are_tried rows tried) t in
    listed_tried tried member (with_member acc row.member) rows s.1 parts.1 (was_in tried acc row.member member s.0 parts.0 h) e

or_not : (a b : Bool) → (a ≡ true → b ≡ true) → (not a || b) ≡ true
or_not true b h = h refl
or_not false b h = refl

pub all_within : (rows : List ServerRow) (tried : ℕ) → RowsAreSound rows → are_tried rows tried ≡ true → is_within (members_of rows) tried ≡ true
all_within rows tried s t =
    all_pass (λ member. not (has_member (members_of rows) member) || has_member tried member) (range_with_len 1 32) (λ member.
    or_not (has_member (members_of rows) member) (has_member tried member) (listed_tried tried member 0 rows s.members t (λ bad.
    let none : false ≡ true = sym (has_none member) ∙ bad in cc)))
