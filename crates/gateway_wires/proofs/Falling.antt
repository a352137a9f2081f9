-- All transports once a member goes down.
use Rattle.std.proofs.Common.{◌≡◌, ◌≢◌, ◌<◌, ◌≤◌, ℕ, zero, suc, ◌==◌, Bool, true, false, not, ◌&&◌, ◌||◌, if◌then◌else◌, eq-eqb, List}
use Rattle.std.proofs.Common.{[], ◌∷◌, ◌++◌, set, get_or, map, length, replicate}
use Rattle.std.proofs.Common.{Option, Some, None, refl, sym, ap, ◌∙◌, get_or-set_same, get_or-set_other, arith}
use Rattle.std.specs.Prelude.{option_map, nat_lt, nat_le, slice_get}
use Rattle.server_list.specs.Tried.{is_member}
use Rattle.std.specs.Ordering.{nat_cmp}
use Rattle.std.specs.List.{AllByRecursion}
use Rattle.std.specs.BTreeSet.{BTreeSet, contains}
use Rattle.std.proofs.lemmas.List.{length-set}
use Rattle.link_ends.proofs.Lists.{all_get}
use Rattle.std.proofs.lemmas.Bool.{false≢true, and_right, or_right, ne_eqb, lt-ltb}
use Rattle.std.proofs.lemmas.Bool.Decides.{nat_tests}
use Rattle.plain_model.proofs.Puts.{by_equal}
use Rattle.gateway_wires.specs.Line.{LineState, is_flying_on, is_empty, fallen_with}
use Rattle.gateway_wires.specs.Wires.{with_down}
use Rattle.gateway_wires.specs.Inside.{Dialled, fell_of, has_dropped, seen_line, wires_in, flies_to, is_in, is_in_set, OfDialled, WasDialled, AreWires, AreNone}

no_flight : (a b : Bool) → a ≡ true → (not a && b) ≡ false
no_flight true b e = refl
no_flight false b e = absurd (false≢true e)

if_off : (b : Bool) → false ≡ (if b then false else false)
if_off true = refl
if_off false = refl

module _ {U : Type 0} (fell : List ℕ) (member count : ℕ) (within : member < length fell) where
  dropped_after : (x : Dialled U) → WasDialled count x → has_dropped (set fell member count) x ≡ (if x.line.member == member then true else has_dropped fell x)
  dropped_after x was = by_equal x.line.member member
      (λ e. or_right x.line.dropped (nat_lt x.since (fell_of (set fell member count) x.line.member))
      (ap (λ (m : ℕ). nat_lt x.since (fell_of (set fell member count) m)) e
      ∙ ap (nat_lt x.since) (get_or-set_same fell member count 0 within) ∙ lt-ltb x.since count was.before)
      ∙ ap (λ (b : Bool). if b then true else has_dropped fell x) (sym (eq-eqb x.line.member member e)))
      (λ ne. ap (λ (n : ℕ). x.line.dropped || nat_lt x.since n) (get_or-set_other fell member x.line.member count 0 ne)
      ∙ ap (λ (b : Bool). if b then true else has_dropped fell x) (sym (ne_eqb x.line.member member ne)))

  line_after : (x : Dialled U) → WasDialled count x → seen_line (set fell member count) x ≡ fallen_with member (seen_line fell x)
  line_after x was = ap (λ (b : Bool). record x.line { dropped = b }) (dropped_after x was)

  pub lines_after : (lines : List (Option (Dialled U))) → AllByRecursion (OfDialled (WasDialled count)) lines
      → map (option_map (seen_line (set fell member count))) lines ≡ map (option_map (fallen_with member)) (map (option_map (seen_line fell)) lines)
  lines_after [] all = refl
  lines_after (None ∷ lines) all = ap (λ (ls : List (Option (LineState U))). None ∷ ls) (lines_after lines all.1)
  lines_after (Some x ∷ lines) all =
      ap (λ (y : LineState U). Some y ∷ map (option_map (seen_line (set fell member count))) lines) (line_after x all.0)
      ∙ ap (λ (ls : List (Option (LineState U))). Some (fallen_with member (seen_line fell x)) ∷ ls) (lines_after lines all.1)

  -- none of this member flies, and of another as before
  flies_of : (x : Dialled U) → WasDialled count x → (another : ℕ)
      → flies_to another (Some (seen_line (set fell member count) x)) ≡ (if another == member then false else flies_to another (Some (seen_line fell x)))
  flies_of x was another = by_equal another member
      (λ e. by_equal x.line.member member
      (λ same. ap (λ (b : Bool). (not b && not (is_empty x.line.flying)) && x.line.member == another)
      (dropped_after x was ∙ ap (λ (b : Bool). if b then true else has_dropped fell x) (eq-eqb x.line.member member same))
      ∙ ap (λ (b : Bool). if b then false else flies_to another (Some (seen_line fell x))) (sym (eq-eqb another member e)))
      (λ other. and_right (is_flying_on (seen_line (set fell member count) x)) (x.line.member == another)
      (ne_eqb x.line.member another (λ same. other (same ∙ e)))
      ∙ ap (λ (b : Bool). if b then false else flies_to another (Some (seen_line fell x))) (sym (eq-eqb another member e))))
      (λ ne. by_equal x.line.member another
      (λ same. ap (λ (b : Bool). (not b && not (is_empty x.line.flying)) && x.line.member == another)
      (dropped_after x was ∙ ap (λ (b : Bool). if b then true else has_dropped fell x) (ne_eqb x.line.member member (λ is. ne (sym same ∙ is))))
      ∙ ap (λ (b : Bool). if b then false else flies_to another (Some (seen_line fell x))) (sym (ne_eqb another member ne)))
      (λ other. and_right (is_flying_on (seen_line (set fell member count) x)) (x.line.member == another) (ne_eqb x.line.member another other)
      ∙ sym (and_right (is_flying_on (seen_line fell x)) (x.line.member == another) (ne_eqb x.line.member another other))
      ∙ ap (λ (b : Bool). if b then false else flies_to another (Some (seen_line fell x))) (sym (ne_eqb another member ne))))

  pub flies_after_down : (x : Option (Dialled U)) → OfDialled (WasDialled count) x → (another : ℕ)
      → flies_to another (option_map (seen_line (set fell member count)) x) ≡
      (if another == member then false else flies_to another (option_map (seen_line fell) x))
  flies_after_down None was another = if_off (another == member)
  flies_after_down (Some x) was another = flies_of x was another

-- ---- a list of which one place is written

get_set_same : {A : Type 0} (xs : List A) (i : ℕ) (x : A) → i < length xs → slice_get (set xs i x) i ≡ Some x
get_set_same [] i x within = absurd (omega arith)
get_set_same (y ∷ xs) zero x within = refl
get_set_same (y ∷ xs) (suc i) x within = get_set_same xs i x (omega arith)

get_set_other : {A : Type 0} (xs : List A) (i j : ℕ) (x : A) → j ≢ i → slice_get (set xs i x) j ≡ slice_get xs j
get_set_other [] i j x ne = refl
get_set_other (y ∷ xs) zero zero x ne = absurd (ne refl)
get_set_other (y ∷ xs) zero (suc j) x ne = refl
get_set_other (y ∷ xs) (suc i) zero x ne = refl
get_set_other (y ∷ xs) (suc i) (suc j) x ne = get_set_other xs i j x (λ e. ne (ap suc e))

module _ {U : Type 0} (fell : List ℕ) (lines : List (Option (Dialled U))) (flying : List (BTreeSet ℕ)) (none : BTreeSet ℕ) (member count : ℕ)
    (empty : (number : ℕ) → contains nat_cmp none number ≡ false) (all_members : length fell ≡ 33) (of_member : member < 33)
    (wires : AreWires lines fell flying count) where
  is_in_now : (another number : ℕ) → is_in (set flying member none) another number ≡ (if another == member then false else is_in flying another number)
  is_in_now another number = by_equal another member
      (λ e. ap (λ (m : ℕ). is_in (set flying member none) m number) e
      ∙ ap (λ (o : Option (BTreeSet ℕ)). is_in_set o number)
      (get_set_same flying member none (let h = wires.all_members in omega (arith, h, of_member)))
      ∙ empty number ∙ ap (λ (b : Bool). if b then false else is_in flying another number) (sym (eq-eqb another member e)))
      (λ ne. ap (λ (o : Option (BTreeSet ℕ)). is_in_set o number) (get_set_other flying member another none ne)
      ∙ ap (λ (b : Bool). if b then false else is_in flying another number) (sym (ne_eqb another member ne)))

  flies_now : (another number : ℕ) → another < 33 → is_in (set flying member none) another number
      ≡ flies_to another (option_map (seen_line (set fell member count)) (get_or lines number None))
  flies_now another number in_range =
      is_in_now another number
      ∙ ap (λ (b : Bool). if another == member then false else b) (wires.flies another number in_range)
      ∙ sym (flies_after_down fell member count (omega (arith, all_members, of_member)) (get_or lines number None)
      (all_get (OfDialled (WasDialled count)) lines number None wires.dialled tt) another)

  fell_now_before : (another : ℕ) → fell_of (set fell member count) another ≤ count
  fell_now_before another = by_equal another member
      (λ e. let h = ap (fell_of (set fell member count)) e ∙ get_or-set_same fell member count 0 (omega (arith, all_members, of_member)) in omega (arith, h))
      (λ ne. let h = get_or-set_other fell member another count 0 ne in let k = wires.fell_before another in omega (arith, h, k))

  pub wires_down : AreWires lines (set fell member count) (set flying member none) count
  wires_down = record {
    all_members = length-set flying member none ∙ wires.all_members;
    dialled = wires.dialled;
    fell_before = fell_now_before;
    flies = flies_now;
  }

  pub view_down : (down : List Bool) → wires_in lines (set fell member count) (set down member true) ≡ with_down member (wires_in lines fell down)
  view_down down = ap (λ (ls : List (Option (LineState U))). record { lines = ls; down = set down member true })
      (lines_after fell member count (omega (arith, all_members, of_member)) lines wires.dialled)

pub member_in : (member : ℕ) → is_member member ≡ true → member < 33
member_in member is = go (nat_le 1 member) (nat_le member 32) refl refl is
  where
    go : (a b : Bool) → nat_le 1 member ≡ a → nat_le member 32 ≡ b → (a && b) ≡ true → member < 33
    go true true e f is = grind (arith, nat_tests)
    go true false e f is = absurd (false≢true is)
    go false b e f is = absurd (false≢true is)

pub empty_of : (none : BTreeSet ℕ) → none.keys ≡ [] → (number : ℕ) → contains nat_cmp none number ≡ false
empty_of none is number = rw is refl

-- one more set without numbers
pub none_pushed : (flying : List (BTreeSet ℕ)) (none : BTreeSet ℕ) → AreNone flying → ((number : ℕ) → contains nat_cmp none number ≡ false)
    → AreNone (flying ++ none ∷ [])
none_pushed [] none all empty zero number = empty number
none_pushed [] none all empty (suc member) number = refl
none_pushed (s ∷ flying) none all empty zero number = all zero number
none_pushed (s ∷ flying) none all empty (suc member) number = none_pushed flying none (λ another. all (suc another)) empty member number

never_fell : (count member : ℕ) → fell_of (replicate count 0) member ≡ 0
never_fell zero member = refl
never_fell (suc count) zero = refl
never_fell (suc count) (suc member) = never_fell count member

-- no transport was dialled
pub wires_none : {U : Type 0} (flying : List (BTreeSet ℕ)) → length flying ≡ 33 → AreNone flying → AreWires {U = U} [] (replicate 33 0) flying 0
wires_none flying size none = record {
  all_members = size;
  dialled = tt;
  fell_before = λ member. let h = never_fell 33 member in omega (arith, h);
  flies = λ member number in_range. none member number;
}
