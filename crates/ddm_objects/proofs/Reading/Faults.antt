-- The fault that is answered is the first one.
use Rattle.std.proofs.Common.{◌≡◌, ℕ, zero, suc, ◌+◌, ◌-◌, ◌<◌, ◌≤◌, Bool, true, false, cond, eqb, leb, ltb, List, [], ◌∷◌, ◌++◌, length, take, drop}
use Rattle.std.proofs.Common.{Option, Some, None, Result, Ok, Err, refl, sym, ap, ◌∙◌, subst, arith, inl, inr}
use Rattle.std.specs.Prelude.{◌&&◌}
use Rattle.byteorder.specs.Endian.{big_number}
use Rattle.std.proofs.lemmas.Bool.{eqb-false}
use Rattle.std.proofs.lemmas.List.{length-append, take_at, drop_at, drop-drop}
use Rattle.std.proofs.Math.Seq.{take-append-add, drop-append-add}
use Rattle.ddm_objects.specs.declared.fault.ObjFault.{ObjFault}
use Rattle.ddm_objects.specs.declared.fault.ObjWhy.{ObjWhy}
use Rattle.ddm_objects.specs.declared.fault.ObjWhy.TheVariants.{LessThan4, Past}
use Rattle.ddm_objects.specs.Objects.{Member, Found, StartsWith, IsFirst, IsObject, IsFrontFault, IsLeftOver, IsOuterFault, HasNoFirst, Extent}
use Rattle.ddm_objects.specs.Objects.{fault_at, extent_at, data_at, object_at, to_end, first_object, only_object, outer_of}
use Rattle.ddm_objects.specs.Members.{Members, AreMembers, IsFirstFault, past, with_first, members_within, members_of}
use Rattle.link_ends.specs.Bytes.{AreBytes}
use Rattle.ddm_objects.proofs.Reading.Read.{chosen, object_there}
use Rattle.ddm_objects.proofs.Reading.Spelled.{Takes, object_takes, begins_again, first_takes, first_again, outer_again}

abbrev found_is : Found → Result Found ObjFault
found_is x = Ok x

abbrev fault_is : ObjFault → Result Found ObjFault
fault_is x = Err x

both : (found : Found) (fault : ObjFault) → found_is found ≡ fault_is fault → ⊥
both found fault e = cc

-- ---- where a fault is

data_with : (place : ℕ) (b : Bool) (found : Found) (fault : ObjFault) → cond b (Err (fault_at place Past)) (Ok found) ≡ fault_is fault → fault.at ≡ place
data_with place true found fault e = let same : fault_at place Past ≡ fault = cc in ap (λ (f : ObjFault). f.at) (sym same)
data_with place false found fault e = absurd cc

data_place : (place code : ℕ) (r : Result Extent ObjWhy) (fault : ObjFault) → data_at place code r ≡ fault_is fault → fault.at ≡ place
data_place place code (Ok extent) fault e = data_with place (ltb (length extent.from) extent.size) (object_there code extent) fault e
data_place place code (Err why) fault e = let same : fault_at place why ≡ fault = cc in ap (λ (f : ObjFault). f.at) (sym same)

short_place : (place code : ℕ) (b : Bool) (r : Result Extent ObjWhy) (fault : ObjFault) →
    cond b (Err (fault_at place LessThan4)) (data_at place code r) ≡ fault_is fault → fault.at ≡ place
short_place place code true r fault e = let same : fault_at place LessThan4 ≡ fault = cc in ap (λ (f : ObjFault). f.at) (sym same)
short_place place code false r fault e = data_place place code r fault e

-- a fault is at its place
fault_place : (place : ℕ) (bytes : List ℕ) (fault : ObjFault) → object_at place bytes ≡ Err fault → fault.at ≡ place
unfolding object_at
fault_place place bytes fault e =
    short_place place (big_number 2 (drop 2 bytes)) (ltb (length bytes) 4) (extent_at (big_number 2 bytes) (drop 4 bytes)) fault e

-- ---- members

-- a fault so many bytes behind a place
record StopsAt (place : ℕ) (fault : ObjFault) (objects : List Member) (bytes : List ℕ) : Type 0 where
  offset : ℕ
  at : fault.at ≡ place + offset
  within : offset < length bytes
  before : AreMembers objects (take offset bytes)
  why : object_at fault.at (drop offset bytes) ≡ Err fault

-- an object in front of what stops
stops_behind : (place : ℕ) (bytes : List ℕ) (found : Found) (fault : ObjFault) (objects : List Member) → StartsWith found bytes →
    StopsAt (past place bytes found) fault objects found.rest → StopsAt place fault (found.object ∷ objects) bytes
stops_behind place bytes found fault objects begins stops =
    let front : List ℕ = begins.front in
    let follows = begins.follows in
    let size : length bytes ≡ length front + length found.rest = ap length follows ∙ length-append front found.rest in
    let offset : ℕ = length front + stops.offset in
    let left : List ℕ = take stops.offset found.rest in
    let taken : take offset bytes ≡ front ++ left = ap (take offset) follows ∙ take-append-add front found.rest stops.offset in
    let there : drop offset bytes ≡ drop stops.offset found.rest = ap (drop offset) follows ∙ drop-append-add front found.rest stops.offset in
    record {
      offset = offset;
      at = omega (arith, stops.at, size);
      within = omega (arith, stops.within, size);
      before = (left, record { front = front; object = begins.object; follows = taken }, stops.before);
      why = ap (object_at fault.at) there ∙ stops.why;
    }

abbrev some_fault : ObjFault → Option ObjFault
some_fault fault = Some fault

fault_some : (x y : ObjFault) → some_fault x ≡ some_fault y → x ≡ y
fault_some x y e = cc

stops_with : (place b : ℕ) (bytes : List ℕ) (fault : ObjFault) (r : Result Found ObjFault) (others : Found → Members) → object_at place (b ∷ bytes) ≡ r →
    AreBytes (b ∷ bytes) → (with_first r others).fault ≡ Some fault →
    ((found : Found) → r ≡ Ok found → AreBytes found.rest → (others found).fault ≡ Some fault →
    StopsAt (past place (b ∷ bytes) found) fault (others found).objects found.rest) → StopsAt place fault (with_first r others).objects (b ∷ bytes)
stops_with place b bytes fault (Ok found) others is fits e more =
    let takes = object_takes place (b ∷ bytes) found fits is in
    stops_behind place (b ∷ bytes) found fault (others found).objects takes.begins (more found refl takes.rest_fits e)
stops_with place b bytes fault (Err met) others is fits e more =
    let same : met ≡ fault = fault_some met fault e in
    let place_is : fault.at ≡ place = ap (λ (f : ObjFault). f.at) (sym same) ∙ fault_place place (b ∷ bytes) met is in
    record {
      offset = 0;
      at = omega (arith, place_is);
      within = omega arith;
      before = refl;
      why = ap (λ (n : ℕ). object_at n (b ∷ bytes)) place_is ∙ is ∙ ap fault_is same;
    }

stops : (count place : ℕ) (bytes : List ℕ) (fault : ObjFault) → AreBytes bytes → (members_within count place bytes).fault ≡ Some fault →
    StopsAt place fault (members_within count place bytes).objects bytes
unfolding members_within
stops zero place bytes fault fits e = absurd cc
stops (suc count) place [] fault fits e = absurd cc
stops (suc count) place (b ∷ bytes) fault fits e =
    stops_with place b bytes fault (object_at place (b ∷ bytes)) (λ found. members_within count (past place (b ∷ bytes) found) found.rest) refl fits e
    (λ found is rest_fits met.
    stops count (past place (b ∷ bytes) found) found.rest fault rest_fits met)

nothing_begins : (place : ℕ) (bytes : List ℕ) (fault : ObjFault) (found : Found) → object_at place bytes ≡ Err fault → StartsWith found bytes → ⊥
nothing_begins place bytes fault found e begins = both found fault (sym (begins_again place found bytes begins) ∙ e)

pub members_first_fault : (bytes : List ℕ) (fault : ObjFault) → AreBytes bytes → (members_of bytes).fault ≡ Some fault →
    IsFirstFault fault (members_of bytes).objects bytes
members_first_fault bytes fault fits e =
    let s = stops (length bytes) 0 bytes fault fits e in
    let same : s.offset ≡ fault.at = omega (arith, s.at) in
    let why : object_at fault.at (drop fault.at bytes) ≡ fault_is fault = ap (λ (n : ℕ). object_at fault.at (drop n bytes)) (sym same) ∙ s.why in
    record {
      before = subst (λ (n : ℕ). AreMembers (members_of bytes).objects (take n bytes)) same s.before;
      within = omega (arith, s.within, same);
      none = λ found begins. nothing_begins fault.at (drop fault.at bytes) fault found why begins;
      why = why;
    }

-- ---- the first object, and the only one

front_of : (bytes : List ℕ) (fault : ObjFault) → first_object bytes ≡ fault_is fault → object_at 0 bytes ≡ fault_is fault
unfolding first_object
front_of bytes fault e =
    elim (chosen (leb 4 (length bytes) && eqb (big_number 2 bytes) 0x8004) (found_is (to_end bytes)) (object_at 0 bytes) (fault_is fault) e) [
      | inl p ↦ absurd (both (to_end bytes) fault p.1)
      | inr p ↦ p.1
    ]

pub first_front_fault : (bytes : List ℕ) (fault : ObjFault) → first_object bytes ≡ Err fault → IsFrontFault fault bytes
first_front_fault bytes fault e =
    let why = front_of bytes fault e in
    record { front = fault_place 0 bytes fault why; none = λ found is. both found fault (sym (first_again found bytes is) ∙ e); why = why }

abbrev member_is : Member → Result Member ObjFault
member_is object = Ok object

abbrev refused_is : ObjFault → Result Member ObjFault
refused_is fault = Err fault

left_over : (fault past_it : ObjFault) (object : Member) (b : Bool) → cond b (Ok object) (Err past_it) ≡ refused_is fault → (b ≡ false) × (past_it ≡ fault)
left_over fault past_it object true e = absurd cc
left_over fault past_it object false e = (refl, cc)

-- what an object leaves over begins where it ends
left_behind : (bytes : List ℕ) (found : Found) (fault : ObjFault) → IsFirst found bytes → eqb (length found.rest) 0 ≡ false →
    fault_at (length bytes - length found.rest) Past ≡ fault → IsLeftOver fault bytes
left_behind bytes found fault (inl begins) some is =
    let front : List ℕ = begins.front in
    let size : length bytes ≡ length front + length found.rest = ap length begins.follows ∙ length-append front found.rest in
    let at : length front ≡ fault.at = omega (arith, size, ap (λ (f : ObjFault). f.at) is) in
    let before : take fault.at bytes ≡ front = ap (take fault.at) begins.follows ∙ take_at front found.rest fault.at at in
    record {
      object = found.object;
      before = subst (IsObject false found.object) (sym before) begins.object;
      within = omega (arith, size, at, eqb-false (length found.rest) 0 some);
      why = ap (λ (f : ObjFault). f.why) (sym is);
    }
left_behind bytes found fault (inr whole) some is =
    absurd (eqb-false (length found.rest) 0 some (ap length whole.1))

outer_with : (bytes : List ℕ) (fault : ObjFault) (r : Result Found ObjFault) → first_object bytes ≡ r → AreBytes bytes →
    only_object (length bytes) r ≡ refused_is fault → IsOuterFault fault bytes
outer_with bytes fault (Ok found) is fits e =
    let over = left_over fault (fault_at (length bytes - length found.rest) Past) found.object (eqb (length found.rest) 0) e in
    inr (left_behind bytes found fault (first_takes bytes found fits is) over.0 over.1)
outer_with bytes fault (Err met) is fits e =
    let same : met ≡ fault = cc in
    inl (first_front_fault bytes fault (is ∙ ap fault_is same))

pub outer_first_fault : (bytes : List ℕ) (fault : ObjFault) → AreBytes bytes → outer_of bytes ≡ Err fault → IsOuterFault fault bytes
outer_first_fault bytes fault fits e = outer_with bytes fault (first_object bytes) refl fits e

refused_member : (object : Member) (fault : ObjFault) → member_is object ≡ refused_is fault → ⊥
refused_member object fault e = cc

pub outer_none : (bytes : List ℕ) (fault : ObjFault) (object : Member) → outer_of bytes ≡ Err fault → IsObject true object bytes → ⊥
outer_none bytes fault object e is = refused_member object fault (sym (outer_again bytes object is) ∙ e)
