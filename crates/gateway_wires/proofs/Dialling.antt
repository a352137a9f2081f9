-- All transports once one is dialled.
use Rattle.std.proofs.Common.{◌≡◌, ◌≢◌, ◌<◌, ◌≤◌, ◌+◌, ◌-◌, ℕ, zero, suc, ◌==◌, Bool, true, false, not, ◌&&◌, ◌||◌, List, []}
use Rattle.std.proofs.Common.{◌∷◌, ◌++◌, set, get_or, map, length, replicate}
use Rattle.std.proofs.Common.{Option, Some, None, refl, sym, ap, subst, ◌∙◌, get_or-set_same, get_or-set_other, arith}
use Rattle.std.specs.Prelude.{option_map, nat_lt}
use Rattle.std.specs.List.{AllByRecursion}
use Rattle.std.specs.BTreeSet.{BTreeSet}
use Rattle.std.proofs.lemmas.Bool.{and_left, and_right, ne_eqb}
use Rattle.std.proofs.lemmas.Bool.Decides.{nat_tests}
use Rattle.std.proofs.lemmas.List.{map-set, map-append, length-map}
use Rattle.link_ends.proofs.Lists.{all_set, all_get}
use Rattle.plain_model.proofs.Puts.{by_equal}
use Rattle.server_list.specs.Lists.{Listing}
use Rattle.plain_model.specs.Group.{Meaning}
use Rattle.gateway_wires.specs.Line.{LineState, dialled, is_flying_on, is_empty}
use Rattle.gateway_wires.specs.Wires.{WiresState, with_room, with_line}
use Rattle.gateway_wires.specs.Inside.{Dialled, fell_of, has_dropped, seen_line, wires_in, flies_to, is_in, OfDialled, WasDialled, AreWires}
use Rattle.gateway_wires.specs.Inside.{SortsOld, IsIn}
use Rattle.gateway_wires.proofs.Reading.{any_room_same, room_same, has_room}

map_none : {A B : Type 0} (f : A → B) (n : ℕ) → map (option_map f) (replicate n None) ≡ replicate n None
map_none f zero = refl
map_none f (suc n) = ap (λ (xs : List (Option _)). None ∷ xs) (map_none f n)

map_room : {A B : Type 0} (f : A → B) (number : ℕ) (lines : List (Option A))
    → map (option_map f) (with_room number lines) ≡ with_room number (map (option_map f) lines)
map_room f number lines =
    map-append (option_map f) lines (replicate (suc number - length lines) None)
    ∙ ap (λ (xs : List (Option _)). map (option_map f) lines ++ xs) (map_none f (suc number - length lines))
    ∙ ap (λ (n : ℕ). map (option_map f) lines ++ replicate (suc number - n) None) (sym (length-map lines (option_map f)))

not_later : (a b : ℕ) → b ≤ a → nat_lt a b ≡ false
not_later a b le = go (nat_lt a b) refl
  where
    go : (t : Bool) → nat_lt a b ≡ t → nat_lt a b ≡ false
    go true e = grind (arith, nat_tests)
    go false e = e

-- ---- what holds of all that were dialled

all_more : {A : Type 0} (P Q : A → Type 0) → ((x : A) → P x → Q x) → (xs : List A) → AllByRecursion P xs → AllByRecursion Q xs
all_more P Q more [] all = tt
all_more P Q more (x ∷ xs) all = (more x all.0, all_more P Q more xs all.1)

all_room : {A : Type 0} (P : Option A → Type 0) → P None → (xs : List (Option A)) (n : ℕ) → AllByRecursion P xs → AllByRecursion P (xs ++ replicate n None)
all_room P none [] zero all = tt
all_room P none [] (suc n) all = (none, all_room P none [] n tt)
all_room P none (x ∷ xs) n all = (all.0, all_room P none xs n all.1)

was_before : {U : Type 0} (count : ℕ) (x : Option (Dialled U)) → OfDialled (WasDialled count) x → OfDialled (WasDialled (count + 1)) x
was_before count None was = tt
was_before count (Some x) was = record { before = let h = was.before in omega arith; member = was.member }

module _ {U : Type 0} (fell : List ℕ) (down : List Bool) (flying flying' : List (BTreeSet ℕ)) (lines : List (Option (Dialled U))) (count number : ℕ) where
  -- room for more changes nothing
  pub grown : (more : ℕ) → AreWires lines fell flying count → AreWires (lines ++ replicate more None) fell flying count
  grown more wires = record {
    all_members = wires.all_members;
    dialled = all_room (OfDialled (WasDialled count)) tt lines more wires.dialled;
    fell_before = wires.fell_before;
    flies = λ member n in_range. wires.flies member n in_range
        ∙ ap (λ (x : Option (Dialled U)). flies_to member (option_map (seen_line fell) x)) (sym (any_room_same more lines n));
  }

  -- and so does one that is counted though memory ran out
  pub grown_later : (more : ℕ) → AreWires lines fell flying count → AreWires (lines ++ replicate more None) fell flying (count + 1)
  grown_later more wires =
      let room = grown more wires in
      record {
        all_members = room.all_members;
        dialled = all_more (OfDialled (WasDialled count)) (OfDialled (WasDialled (count + 1))) (was_before count) (lines ++ replicate more None) room.dialled;
        fell_before = λ member. let h = room.fell_before member in omega arith;
        flies = room.flies;
      }

  pub is_in_room : AreWires lines fell flying count → OfDialled (IsIn (length flying)) (get_or (with_room number lines) number None)
  is_in_room wires = go (get_or (with_room number lines) number None)
      (all_get (OfDialled (WasDialled count)) (with_room number lines) number None
      (all_room (OfDialled (WasDialled count)) tt lines (suc number - length lines) wires.dialled) tt)
    where
      go : (x : Option (Dialled U)) → OfDialled (WasDialled count) x → OfDialled (IsIn (length flying)) x
      go None was = tt
      go (Some x) was = let h = was.member in let k = wires.all_members in omega arith

  module _ (x : Dialled U) (since : x.since ≡ count) (standing : x.line.dropped ≡ false) (resting : x.line.flying ≡ []) (within : x.line.member < 33)
      (wires : AreWires lines fell flying count) where
    stands : has_dropped fell x ≡ false
    stands = ap (λ (b : Bool). b || nat_lt x.since (fell_of fell x.line.member)) standing
        ∙ not_later x.since (fell_of fell x.line.member) (let h = wires.fell_before x.line.member in omega (arith, since, h))

    seen_new : seen_line fell x ≡ x.line
    seen_new = ap (λ (b : Bool). record x.line { dropped = b }) (stands ∙ sym standing)

    view_dialled : wires_in (set (with_room number lines) number (Some x)) fell down ≡ with_line number x.line (wires_in lines fell down)
    view_dialled = ap (λ (ls : List (Option (LineState U))). record { lines = ls; down = down })
        (map-set (option_map (seen_line fell)) (with_room number lines) number (Some x)
        ∙ ap (λ (ls : List (Option (LineState U))). set ls number (Some (seen_line fell x))) (map_room (seen_line fell) number lines)
        ∙ ap (λ (y : LineState U). set (with_room number (map (option_map (seen_line fell)) lines)) number (Some y)) seen_new)

    rests : (member : ℕ) → flies_to member (Some (seen_line fell x)) ≡ false
    rests member = ap (λ (bytes : List ℕ). (not (has_dropped fell x) && not (is_empty bytes)) && x.line.member == member) resting
        ∙ off (not (has_dropped fell x)) (x.line.member == member)
      where
        off : (a b : Bool) → ((a && false) && b) ≡ false
        off true b = refl
        off false b = refl

    left : (old : Option (Dialled U)) → SortsOld number old flying flying' → old ≡ get_or lines number None → (member : ℕ) → member < 33
        → is_in flying' member number ≡ false
    left None sorts there member in_range = ap (λ (f : List (BTreeSet ℕ)). is_in f member number) sorts ∙ wires.flies member number in_range
        ∙ ap (λ (o : Option (Dialled U)). flies_to member (option_map (seen_line fell) o)) (sym there)
    left (Some y) sorts there member in_range = by_equal member y.line.member
        (λ e. ap (λ (m : ℕ). is_in flying' m number) e ∙ sorts.this)
        (λ ne. sorts.others member number (and_left (member == y.line.member) (number == number) (ne_eqb member y.line.member ne))
        ∙ wires.flies member number in_range
        ∙ ap (λ (o : Option (Dialled U)). flies_to member (option_map (seen_line fell) o)) (sym there)
        ∙ and_right (is_flying_on (seen_line fell y)) (y.line.member == member) (ne_eqb y.line.member member (λ e. ne (sym e))))

    others : (old : Option (Dialled U)) → SortsOld number old flying flying' → (member other : ℕ) → other ≢ number
        → is_in flying' member other ≡ is_in flying member other
    others None sorts member other ne = ap (λ (f : List (BTreeSet ℕ)). is_in f member other) sorts
    others (Some y) sorts member other ne = sorts.others member other (and_right (member == y.line.member) (other == number) (ne_eqb other number ne))

    size : (old : Option (Dialled U)) → SortsOld number old flying flying' → length flying' ≡ length flying
    size None sorts = ap length sorts
    size (Some y) sorts = sorts.size

    wires_dialled : (old : Option (Dialled U)) → old ≡ get_or (with_room number lines) number None → SortsOld number old flying flying'
        → AreWires (set (with_room number lines) number (Some x)) fell flying' (count + 1)
    wires_dialled old there sorts = record {
      all_members = size old sorts ∙ wires.all_members;
      dialled = all_set (OfDialled (WasDialled (count + 1))) (with_room number lines) number (Some x)
          (all_more (OfDialled (WasDialled count)) (OfDialled (WasDialled (count + 1))) (was_before count) (with_room number lines)
          (all_room (OfDialled (WasDialled count)) tt lines (suc number - length lines) wires.dialled))
          (record { before = omega (arith, since); member = within });
      fell_before = λ member. let h = wires.fell_before member in omega arith;
      flies = λ member other in_range. by_equal other number
          (λ e. subst (λ (n : ℕ). is_in flying' member n ≡ flies_to member
          (option_map (seen_line fell) (get_or (set (with_room number lines) number (Some x)) n None))) (sym e)
          (left old sorts (there ∙ room_same number lines number) member in_range ∙ sym (rests member)
          ∙ ap (λ (o : Option (Dialled U)). flies_to member (option_map (seen_line fell) o))
          (sym (get_or-set_same (with_room number lines) number (Some x) None (has_room number lines)))))
          (λ ne. others old sorts member other ne ∙ wires.flies member other in_range
          ∙ ap (λ (o : Option (Dialled U)). flies_to member (option_map (seen_line fell) o))
          (sym (get_or-set_other (with_room number lines) number other (Some x) None ne ∙ room_same number lines other)));
    }

  -- the same of one that was just dialled
  module _ {S : Type 0} (m : Meaning S U) (member : ℕ) (list : Listing) (x : Dialled U)
      (made : x ≡ record { line = dialled m member list; since = count }) (within : member < 33) (wires : AreWires lines fell flying count) where
    pub shows_dialled : (w : WiresState U) → wires_in lines fell down ≡ w
        → wires_in (set (with_room number lines) number (Some x)) fell down ≡ with_line number (dialled m member list) w
    shows_dialled w view = rw made (view_dialled (record { line = dialled m member list; since = count }) refl refl refl within wires
        ∙ ap (λ (v : WiresState U). with_line number (dialled m member list) v) view)

    pub keeps_dialled : (old : Option (Dialled U)) → old ≡ get_or (with_room number lines) number None → SortsOld number old flying flying'
        → AreWires (set (with_room number lines) number (Some x)) fell flying' (count + 1)
    keeps_dialled old there sorts =
        rw made (wires_dialled (record { line = dialled m member list; since = count }) refl refl refl within wires old there sorts)
