-- How many bytes the canonical spelling of a DSS has, and replies as one chain.
use Rattle.std.proofs.Common.{◌≡◌, ℕ, zero, suc, ◌+◌, ◌*◌, ◌-◌, ◌≤◌, ◌<◌, List, [], ◌∷◌, ◌++◌, length, take, drop, refl, sym, ap, ◌∙◌, arith, flat_map}
use Rattle.std.proofs.Common.{length-append, length-drop, Bool, true, false, if◌then◌else◌, Option, Some, None, is_none, nat_le, nat_lt, subst}
use Rattle.std.proofs.Common.{leb-true, leb-false, zero-add}
use Rattle.std.proofs.lemmas.Bool.{lt-ltb, le-ltb}
use Rattle.std.proofs.lemmas.List.{length-take}
use Rattle.dss_frame.specs.declared.dss.Dss.{Dss}
use Rattle.dss_frame.specs.Dss.{first_room, further_room, further_count, further, canonical}
use Rattle.unit_segments.specs.Spelling.{linked, joined, join}
use Rattle.session_core.specs.Size.{spelled_size, room_behind}

further_size : (count : ℕ) (body : List ℕ) → length body ≤ 32765 * count → length (further count body) ≡ length body + 2 * count
unfolding further
further_size zero body fits = omega arith
further_size (suc count) body fits =
    let rest = drop further_room body in
    let later : length (further count rest) ≡ length rest + 2 * count = further_size count rest (omega (arith, length-drop further_room body)) in
    omega (arith, later, length-append (take further_room body) (further count rest), length-take further_room body, length-drop further_room body)

pub canonical_size : (d : Dss) → length (canonical d) ≡ spelled_size (length d.body)
unfolding canonical
canonical_size d =
    let first = take first_room d.body in
    let rest = drop first_room d.body in
    let count = further_count (length rest) in
    let later : length (further count rest) ≡ length rest + 2 * count = further_size count rest (omega arith) in
    let left : length rest ≡ length d.body - first_room = length-drop first_room d.body in
    omega (arith, later, left, ap further_count left, length-append first (further count rest), length-take first_room d.body)

-- all replies, one behind another
abbrev pub sizes : List Dss → ℕ
sizes [] = 0
sizes (d ∷ replies) = spelled_size (length d.body) + sizes replies

pub joined_size : (replies : List Dss) → length (flat_map canonical (joined replies)) ≡ sizes replies
joined_size [] = refl
joined_size (d ∷ replies) =
    length-append (canonical (linked d replies)) (flat_map canonical (joined replies))
    ∙ ap (λ (n : ℕ). n + length (flat_map canonical (joined replies))) (canonical_size (linked d replies))
    ∙ ap (λ (n : ℕ). spelled_size (length d.body) + n) (joined_size replies)

pub join_size : (replies : List Dss) → length (join replies) ≡ sizes replies
unfolding join
join_size replies = joined_size replies

pub sizes_append : (kept replies : List Dss) → sizes (kept ++ replies) ≡ sizes kept + sizes replies
sizes_append [] replies = sym (zero-add (sizes replies))
sizes_append (d ∷ kept) replies =
    let later : sizes (kept ++ replies) ≡ sizes kept + sizes replies = sizes_append kept replies in
    omega (arith, later)

-- ---- room

abbrev pub IsRoom : ℕ → ℕ → Option ℕ → Type 0
IsRoom room size None = room < size
IsRoom room size (Some left) = size + left ≡ room

further_room_is : (n room size : ℕ) (found : Option ℕ) → n ≤ room → IsRoom (room - n) size found → IsRoom room (n + size) found
further_room_is n room size None fits is = omega (arith, is, fits)
further_room_is n room size (Some left) fits is = omega (arith, is, fits)

by_fit : (n room size : ℕ) (b : Bool) (behind found : Option ℕ) → nat_le n room ≡ b → (if b then behind else None) ≡ found
    → ((now : Option ℕ) → behind ≡ now → IsRoom (room - n) size now) → IsRoom room (n + size) found
by_fit n room size true behind found test e later = further_room_is n room size found (leb-true n room test) (later found e)
by_fit n room size false behind found test e later = subst (IsRoom room (n + size)) e (omega (arith, leb-false n room test))

pub rooms : (room : ℕ) (replies : List Dss) (found : Option ℕ) → room_behind room replies ≡ found → IsRoom room (sizes replies) found
rooms room [] found e = subst (IsRoom room 0) e (zero-add room)
rooms room (d ∷ replies) found e =
    let n = spelled_size (length d.body) in
    by_fit n room (sizes replies) (nat_le n room) (room_behind (room - n) replies) found refl e (rooms (room - n) replies)

-- ---- the limit

pub passes_first : (most : ℕ) (kept replies : List Dss) → room_behind most kept ≡ None → true ≡ nat_lt most (length (join (kept ++ replies)))
passes_first most kept replies e =
    let long : most < sizes kept = rooms most kept None e in
    sym (lt-ltb most _ (omega (arith, long, join_size (kept ++ replies), sizes_append kept replies)))

pub passes_then : (most room : ℕ) (kept replies : List Dss) (found : Option ℕ) → room_behind most kept ≡ Some room → room_behind room replies ≡ found
    → is_none found ≡ nat_lt most (length (join (kept ++ replies)))
passes_then most room kept replies None e f =
    let front : sizes kept + room ≡ most = rooms most kept (Some room) e in
    let long : room < sizes replies = rooms room replies None f in
    sym (lt-ltb most _ (omega (arith, front, long, join_size (kept ++ replies), sizes_append kept replies)))
passes_then most room kept replies (Some left) e f =
    let front : sizes kept + room ≡ most = rooms most kept (Some room) e in
    let fits : sizes replies + left ≡ room = rooms room replies (Some left) f in
    sym (le-ltb most _ (omega (arith, front, fits, join_size (kept ++ replies), sizes_append kept replies)))

pub room_most : (most room : ℕ) (kept : List Dss) → room_behind most kept ≡ Some room → room ≤ most
room_most most room kept e =
    let front : sizes kept + room ≡ most = rooms most kept (Some room) e in
    omega (arith, front)
