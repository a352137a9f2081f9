-- What the choice of a member picks.
use Rattle.std.proofs.Common.{◌≡◌, ℕ, ◌&&◌, Bool, true, false, not, List, [], ◌∷◌, find, Option, Some, None, IfSome, option_map}
use Rattle.std.proofs.Common.{is_none, cond, subst, refl, ap, sym, ◌∙◌}
use Rattle.std.specs.Option.{option_or}
use Rattle.std.specs.List.{AllByRecursion}
use Rattle.std.proofs.lemmas.Bool.{and_parts}
use Rattle.server_list.specs.Tried.{is_member, has_member}
use Rattle.server_list.specs.Choice.{is_untried, is_candidate, is_least, is_best, are_tried, pick}
use Rattle.server_list.specs.Lists.{IsSound}
use Rattle.server_list.specs.declared.list.ServerRow.{ServerRow}

-- what is found passes the test, and is in the list
found : {X : Type 0} (P : X → Type 0) (test : X → Bool) (xs : List X) (x : X) → AllByRecursion P xs → find test xs ≡ Some x → (test x ≡ true) × P x
found P test [] x h e = cc
found P test (y ∷ ys) x h e = elim (test y) as (λ b. test y ≡ b → (test x ≡ true) × P x) [
  | true ↦ λ t. let s : Some y ≡ Some x = rw t at e in let same : y ≡ x = cc in (ap test (sym same) ∙ t, subst P same h.0)
  | false ↦ λ f. found P test ys x h.1 (rw f at e)
] refl

-- where no element passes a test, none passes a stronger one
none_found : {X : Type 0} (strong weak : X → Bool) → ((x : X) → strong x ≡ true → weak x ≡ true) → (xs : List X) → is_none (find weak xs) ≡ true
    → is_none (find strong xs) ≡ true
none_found strong weak h [] e = refl
none_found strong weak h (x ∷ xs) e = elim (strong x) as (λ b. strong x ≡ b → is_none (find strong (x ∷ xs)) ≡ true) [
  | true ↦ λ t. let w : weak x ≡ true = h x t in let bad : false ≡ true = rw w at e in cc
  | false ↦ λ f. rw f (none_found strong weak h xs (elim (weak x) as (λ b. weak x ≡ b
      → is_none (find weak xs) ≡ true) [ true ↦ λ t. let bad : false ≡ true = rw t at e in cc | false ↦ λ g. rw g at e ] refl))
] refl

no_untried : (tried : ℕ) (rows : List ServerRow) → is_none (find (is_untried tried) rows) ≡ are_tried rows tried
no_untried tried [] = refl
no_untried tried (row ∷ rows) = elim (has_member tried row.member)
    as (λ b. is_none (cond (not b) (Some row) (find (is_untried tried) rows)) ≡ (b && are_tried rows tried)) [
      | true ↦ no_untried tried rows
      | false ↦ refl
    ]

best_is_untried : (lent : List ℕ) (tried : ℕ) (rows : List ServerRow) (row : ServerRow) → is_best lent tried rows row ≡ true → is_untried tried row ≡ true
best_is_untried lent tried rows row h =
    let p = and_parts (is_candidate tried row) (is_least lent tried rows row) h in
    let q = and_parts _ (is_untried tried row) p.0 in q.1

nothing_picked : (rows : List ServerRow) (tried : ℕ) (best untried : Option ServerRow) → (is_none untried ≡ true → is_none best ≡ true)
    → is_none (option_map (λ (row : ServerRow). row.member) (option_or best untried)) ≡ is_none untried
nothing_picked rows tried None None h = refl
nothing_picked rows tried None (Some u) h = refl
nothing_picked rows tried (Some b) None h = let bad : false ≡ true = h refl in cc
nothing_picked rows tried (Some b) (Some u) h = refl

-- no member is picked exactly where all are tried
pub no_pick : (rows : List ServerRow) (lent : List ℕ) (tried : ℕ) → is_none (pick rows lent tried) ≡ are_tried rows tried
no_pick rows lent tried =
    nothing_picked rows tried (find (is_best lent tried rows) rows) (find (is_untried tried) rows) (none_found (is_best lent tried rows) (is_untried
    tried) (best_is_untried lent tried rows) rows)
    ∙ no_untried tried rows

-- a member's number, and not tried
abbrev pub IsUntriedMember : ℕ → ℕ → Type 0
IsUntriedMember tried member = (is_member member ≡ true) × (has_member tried member ≡ false)

untried_member : (rows : List ServerRow) (tried : ℕ) (row : ServerRow) → is_untried tried row ≡ true → is_member row.member ≡ true
    → IsUntriedMember tried row.member
untried_member rows tried row u m = (m, elim (has_member tried row.member) as (λ b. not b ≡ true → b ≡ false) [ true ↦ λ h. cc | false ↦ λ h. refl ] u)

picked_of : (rows : List ServerRow) (lent : List ℕ) (tried : ℕ) (best untried : Option ServerRow)
    → AllByRecursion (λ row. is_member row.member ≡ true) rows → find (is_best lent tried rows) rows ≡ best
    → find (is_untried tried) rows ≡ untried → IfSome (option_map (λ (row : ServerRow). row.member) (option_or best untried)) (IsUntriedMember tried)
picked_of rows lent tried (Some row) untried h b u =
    let p = found (λ (r : ServerRow). is_member r.member ≡ true) (is_best lent tried rows) rows row h b in
    untried_member rows tried row (best_is_untried lent tried rows row p.0) p.1
picked_of rows lent tried None (Some row) h b u =
    let p = found (λ (r : ServerRow). is_member r.member ≡ true) (is_untried tried) rows row h u in
    untried_member rows tried row p.0 p.1
picked_of rows lent tried None None h b u = tt

-- a member that is picked is one, and isn't tried
pub picked : (rows : List ServerRow) (lent : List ℕ) (tried : ℕ) → IsSound rows → IfSome (pick rows lent tried) (IsUntriedMember tried)
picked rows lent tried sound =
    picked_of rows lent tried (find (is_best lent tried rows) rows) (find (is_untried tried) rows) sound.members refl refl

member_of_both : (tried : ℕ) (picked : Option ℕ) → IfSome picked (IsUntriedMember tried) → IfSome picked (λ member. is_member member ≡ true)
member_of_both tried None h = tt
member_of_both tried (Some member) h = h.0

untried_of_both : (tried : ℕ) (picked : Option ℕ) → IfSome picked (IsUntriedMember tried) → IfSome picked (λ member. has_member tried member ≡ false)
untried_of_both tried None h = tt
untried_of_both tried (Some member) h = h.1

pub picked_member : (rows : List ServerRow) (lent : List ℕ) (tried : ℕ) → IsSound rows → IfSome (pick rows lent tried) (λ member. is_member member ≡ true)
picked_member rows lent tried sound = member_of_both tried (pick rows lent tried) (picked rows lent tried sound)

pub picked_untried : (rows : List ServerRow) (lent : List ℕ) (tried : ℕ) → IsSound rows
    → IfSome (pick rows lent tried) (λ member. has_member tried member ≡ false)
picked_untried rows lent tried sound = untried_of_both tried (pick rows lent tried) (picked rows lent tried sound)
