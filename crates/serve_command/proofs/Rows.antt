-- The list of the members that a gateway begins with, row by row.
use Rattle.std.proofs.Common.{◌≡◌, ◌∙◌, ap, sym, refl, ℕ, suc, ◌+◌, ◌<◌, ◌≤◌, ◌&&◌, not, Bool, true, false, List, [], ◌∷◌, ◌++◌, length, take, get_or, ◌||◌, cond, arith}
use Rattle.std.specs.Prelude.{◌==◌, nat_le, if◌then◌else◌}
use Rattle.server_list.specs.Tried.{is_member}
use Rattle.std.specs.List.{list_any}
use Rattle.std.proofs.lemmas.List.{take_more, take_all, length-take-le}
use Rattle.server_list.specs.declared.list.ServerRow.{ServerRow}
use Rattle.server_list.specs.Lists.{Listing, is_listed, is_listable, with_row}
use Rattle.serve_command.specs.Members.{rows_from, list_of}

-- one member more has the next number
more_rows : (member : ℕ) (weights : List ℕ) (weight : ℕ) →
    rows_from member (weights ++ weight ∷ []) ≡ rows_from member weights ++ record { member = member + length weights; weight = weight } ∷ []
more_rows member [] weight = ap (λ number. record { member = number; weight = weight } ∷ []) (omega arith)
more_rows member (first ∷ weights) weight =
    ap (λ rows. record { member = member; weight = first } ∷ rows) (more_rows (member + 1) weights weight)
    ∙ ap (λ number. record { member = member; weight = first } ∷ (rows_from (member + 1) weights ++ record { member = number; weight = weight } ∷ []))
    (omega arith)

-- and its number isn't there yet
not_listed : (first member : ℕ) (weights : List ℕ) → first + length weights ≤ member → is_listed (rows_from first weights) member ≡ false
not_listed first member [] past = refl
not_listed first member (weight ∷ weights) past =
    let rest : is_listed (rows_from (first + 1) weights) member ≡ false = not_listed (first + 1) member weights (omega (arith, past)) in
    let other : (member == first) ≡ false = grind (arith, past) in
    ap (λ b. b || is_listed (rows_from (first + 1) weights) member) other ∙ rest

-- a list of some members can take the next one, which then stands behind them
more_members : (weights : List ℕ) (weight : ℕ) → length weights + 1 ≤ 32 →
    with_row (list_of weights) (record { member = length weights + 1; weight = weight }) ≡ list_of (weights ++ weight ∷ [])
more_members weights weight room =
    let member : ℕ = length weights + 1 in
    let absent : is_listed (rows_from 1 weights) member ≡ false = not_listed 1 member weights (omega arith) in
    let numbered : is_member member ≡ true = grind (arith, room) in
    let listable : is_listable (rows_from 1 weights) member ≡ true = rw numbered (rw absent refl) in
    ap (λ b. if b then record (list_of weights) { rows = rows_from 1 weights ++ record { member = member; weight = weight } ∷ [] } else list_of weights)
    listable
    ∙ ap (λ rows. record { rows = rows; number = 0 })
    (ap (λ number. rows_from 1 weights ++ record { member = number; weight = weight } ∷ []) (omega arith) ∙ sym (more_rows 1 weights weight))

-- one step of the loop, and its end
pub step : (list list_now : Listing) (weights : List ℕ) (i member : ℕ) → i < length weights → length weights ≤ 32 → list ≡ list_of (take i weights) →
    member ≡ i + 1 → list_now ≡ with_row list (record { member = member; weight = get_or weights i 0 }) → list_now ≡ list_of (take (i + 1) weights)
step list list_now weights i member within room before number after =
    let front : length (take i weights) ≡ i = length-take-le i weights (omega (arith, within)) in
    let next : member ≡ length (take i weights) + 1 = omega (arith, front, number) in
    after ∙ ap (λ l. with_row l (record { member = member; weight = get_or weights i 0 })) before
    ∙ ap (λ n. with_row (list_of (take i weights)) (record { member = n; weight = get_or weights i 0 })) next
    ∙ more_members (take i weights) (get_or weights i 0) (omega (arith, front, within, room))
    ∙ sym (ap (λ ws. list_of ws) (take_more weights i 0 within))

pub whole : (list : Listing) (weights : List ℕ) (i : ℕ) → length weights ≤ i → list ≡ list_of (take i weights) → list ≡ list_of weights
whole list weights i past is = is ∙ ap (λ ws. list_of ws) (take_all i weights past)

-- where there are members, the list has some
pub some_rows : (list : Listing) (weights : List ℕ) → list ≡ list_of weights → 1 ≤ length weights → 0 < length list.rows
some_rows list [] is some = absurd (omega (arith, some))
some_rows list (weight ∷ weights) is some =
    let rows : length list.rows ≡ suc (length (rows_from 2 weights)) = ap (λ (l : Listing). length l.rows) is in
    omega (arith, rows)
