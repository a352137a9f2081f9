-- Reading objects one after another.
use Rattle.std.proofs.Common.{◌≡◌, ℕ, zero, suc, ◌+◌, ◌-◌, ◌<◌, ◌≤◌, ◌⊎◌, Bool, true, false, cond, eqb, ltb, List, [], ◌∷◌, length, take, drop}
use Rattle.std.proofs.Common.{Option, Some, None, Result, Ok, Err, refl, sym, ap, ◌∙◌, subst, inl, inr, arith}
use Rattle.std.specs.Option.{option_or}
use Rattle.std.proofs.lemmas.Bool.{ltb-false, ltb-true, eqb-true}
use Rattle.std.proofs.lemmas.List.{length-take, length-drop}
use Rattle.byteorder.specs.Endian.{big_number}
use Rattle.ddm_objects.specs.declared.fault.ObjFault.{ObjFault}
use Rattle.ddm_objects.specs.declared.fault.ObjWhy.{ObjWhy}
use Rattle.ddm_objects.specs.declared.fault.ObjWhy.TheVariants.{LessThan4, Past, Extended}
use Rattle.ddm_objects.specs.Objects.{Member, Found, Extent, Form, Short, ToEnd, Extended4, Extended6, Extended8, greatest_extended, fault_at}
use Rattle.ddm_objects.specs.Objects.{extended_at, extent_at, data_at, object_at}
use Rattle.ddm_objects.specs.Members.{Members, Scan, no_members, past, with_first, members_within, members_from, members_of, found_or_fault, find_of}
use Rattle.ddm_objects.specs.Members.{first_with, object_of, next_of, past_object, after_next}

-- a test that did not fail
pub guard : {A : Type 0} (b : Bool) (d : ObjFault) (x : Result A ObjFault) (y : A) → cond b (Err d) x ≡ Ok y → (b ≡ false) × (x ≡ Ok y)
guard true d x y e = absurd cc
guard false d x y e = (refl, e)

abbrev done : Found → Result Found ObjFault
done x = Ok x

ok_is : (x y : Found) → done x ≡ done y → x ≡ y
ok_is x y e = cc

abbrev measured : Extent → Result Extent ObjWhy
measured x = Ok x

extent_is : (x y : Extent) → measured x ≡ measured y → x ≡ y
extent_is x y e = cc

-- which way a test went
pub chosen : {A : Type 0} (b : Bool) (x y z : A) → cond b x y ≡ z → ((b ≡ true) × (x ≡ z)) ⊎ ((b ≡ false) × (y ≡ z))
chosen true x y z e = inl (refl, e)
chosen false x y z e = inr (refl, e)

refused : (b : Bool) (why : ObjWhy) (x : Result Extent ObjWhy) (y : Extent) → cond b (Err why) x ≡ Ok y → (b ≡ false) × (x ≡ Ok y)
refused true why x y e = absurd cc
refused false why x y e = (refl, e)

-- what an extended length of so many bytes says
pub record IsExtended (count : ℕ) (bytes : List ℕ) (extent : Extent) : Type 0 where
  pub whole : count ≤ length bytes
  pub small : big_number count bytes ≤ greatest_extended
  pub is : record { size = big_number count bytes; from = drop count bytes } ≡ extent

extended_found : (count : ℕ) (bytes : List ℕ) (extent : Extent) → extended_at count bytes ≡ Ok extent → IsExtended count bytes extent
extended_found count bytes extent e =
    let long : Extent = record { size = big_number count bytes; from = drop count bytes } in
    let a = refused (ltb (length bytes) count) Past _ extent e in
    let b = refused (ltb greatest_extended (big_number count bytes)) Extended (Ok long) extent a.1 in
    record { whole = ltb-false _ _ a.0; small = ltb-false _ _ b.0; is = extent_is long extent b.1 }

-- what a length of each form says
abbrev pub IsMeasured : Form → ℕ → List ℕ → Extent → Type 0
IsMeasured Short field bytes extent = (4 ≤ field) × (field < 0x8000) × (record { size = field - 4; from = bytes } ≡ extent)
IsMeasured ToEnd field bytes extent = ⊥
IsMeasured Extended4 field bytes extent = (field ≡ 0x8008) × IsExtended 4 bytes extent
IsMeasured Extended6 field bytes extent = (field ≡ 0x800A) × IsExtended 6 bytes extent
IsMeasured Extended8 field bytes extent = (field ≡ 0x800C) × IsExtended 8 bytes extent

abbrev pub Measures : ℕ → List ℕ → Extent → Type 0
Measures field bytes extent = (form : Form) × IsMeasured form field bytes extent

failed : (extent : Extent) (why : ObjWhy) → Err why ≡ measured extent → ⊥
failed extent why e = cc

eights_found : (field : ℕ) (bytes : List ℕ) (extent : Extent) → cond (eqb field 0x800C) (extended_at 8 bytes) (Err Extended) ≡ Ok extent →
    Measures field bytes extent
eights_found field bytes extent e = elim (chosen (eqb field 0x800C) _ _ _ e) [
  | inl p ↦ (Extended8, (eqb-true field 0x800C p.0, extended_found 8 bytes extent p.1))
  | inr p ↦ absurd (failed extent Extended p.1)
]

sixes_found : (field : ℕ) (bytes : List ℕ) (extent : Extent) →
    cond (eqb field 0x800A) (extended_at 6 bytes) (cond (eqb field 0x800C) (extended_at 8 bytes) (Err Extended)) ≡ Ok extent → Measures field bytes extent
sixes_found field bytes extent e = elim (chosen (eqb field 0x800A) _ _ _ e) [
  | inl p ↦ (Extended6, (eqb-true field 0x800A p.0, extended_found 6 bytes extent p.1))
  | inr p ↦ eights_found field bytes extent p.1
]

fours_found : (field : ℕ) (bytes : List ℕ) (extent : Extent) →
    cond (eqb field 0x8008) (extended_at 4 bytes)
    (cond (eqb field 0x800A) (extended_at 6 bytes) (cond (eqb field 0x800C) (extended_at 8 bytes) (Err Extended))) ≡ Ok extent → Measures field bytes extent
fours_found field bytes extent e = elim (chosen (eqb field 0x8008) _ _ _ e) [
  | inl p ↦ (Extended4, (eqb-true field 0x8008 p.0, extended_found 4 bytes extent p.1))
  | inr p ↦ sixes_found field bytes extent p.1
]

pub extent_found : (field : ℕ) (bytes : List ℕ) (extent : Extent) → extent_at field bytes ≡ Ok extent → Measures field bytes extent
unfolding extent_at
extent_found field bytes extent e =
    let short : Extent = record { size = field - 4; from = bytes } in
    let a = refused (ltb field 4) LessThan4 _ extent e in
    elim (chosen (ltb field 0x8000) (Ok short) _ _ a.1) [
      | inl p ↦ (Short, (ltb-false _ _ a.0, ltb-true _ _ p.0, extent_is short extent p.1))
      | inr p ↦ fours_found field bytes extent p.1
    ]

extended_within : (count : ℕ) (bytes : List ℕ) (extent : Extent) → IsExtended count bytes extent → length extent.from ≤ length bytes
extended_within count bytes extent is =
    let same : length (drop count bytes) ≡ length extent.from = ap (λ (x : Extent). length x.from) is.is in
    omega (arith, same, length-drop count bytes)

form_within : (form : Form) (field : ℕ) (bytes : List ℕ) (extent : Extent) → IsMeasured form field bytes extent → length extent.from ≤ length bytes
form_within Short field bytes extent is =
    let same : length bytes ≡ length extent.from = ap (λ (x : Extent). length x.from) is.2 in
    omega (arith, same)
form_within ToEnd field bytes extent is = absurd is
form_within Extended4 field bytes extent is = extended_within 4 bytes extent is.1
form_within Extended6 field bytes extent is = extended_within 6 bytes extent is.1
form_within Extended8 field bytes extent is = extended_within 8 bytes extent is.1

-- the object where no test fails
abbrev pub object_there : ℕ → Extent → Found
object_there code extent = record { object = record { code = code; bytes = take extent.size extent.from }; rest = drop extent.size extent.from }

pub record IsFound (bytes : List ℕ) (found : Found) : Type 0 where
  pub header : 4 ≤ length bytes
  pub extent : Extent
  pub measured : extent_at (big_number 2 bytes) (drop 4 bytes) ≡ Ok extent
  pub within : extent.size ≤ length extent.from
  pub is : object_there (big_number 2 (drop 2 bytes)) extent ≡ found

data_found : (place code : ℕ) (r : Result Extent ObjWhy) (found : Found) → data_at place code r ≡ Ok found →
    (extent : Extent) × (r ≡ Ok extent) × (extent.size ≤ length extent.from) × (object_there code extent ≡ found)
data_found place code (Ok extent) found e =
    let g = guard (ltb (length extent.from) extent.size) (fault_at place Past) (Ok (object_there code extent)) found e in
    (extent, refl, ltb-false _ _ g.0, ok_is (object_there code extent) found g.1)
data_found place code (Err why) found e = absurd cc

pub object_found : (place : ℕ) (bytes : List ℕ) (found : Found) → object_at place bytes ≡ Ok found → IsFound bytes found
unfolding object_at
object_found place bytes found e =
    let a = guard (ltb (length bytes) 4) (fault_at place LessThan4) _ found e in
    let d = data_found place (big_number 2 (drop 2 bytes)) (extent_at (big_number 2 bytes) (drop 4 bytes)) found a.1 in
    record { header = ltb-false _ _ a.0; extent = d.0; measured = d.1; within = d.2; is = d.3 }

pub found_size : (place : ℕ) (bytes : List ℕ) (found : Found) → object_at place bytes ≡ Ok found →
    (length found.object.bytes + 4) + length found.rest ≤ length bytes
found_size place bytes found e =
    let is = object_found place bytes found e in
    let extent : Extent = is.extent in
    let m = extent_found (big_number 2 bytes) (drop 4 bytes) extent is.measured in
    let less : length extent.from ≤ length (drop 4 bytes) = form_within m.0 (big_number 2 bytes) (drop 4 bytes) extent m.1 in
    let size : (length (take extent.size extent.from) + 4) + length (drop extent.size extent.from) ≤ length bytes =
    omega (arith, length-take extent.size extent.from, length-drop extent.size extent.from, length-drop 4 bytes, is.header, is.within, less) in
    subst (λ (f : Found). (length f.object.bytes + 4) + length f.rest ≤ length bytes) is.is size

with_first_same : (r : Result Found ObjFault) (f g : Found → Members) → ((x : Found) → r ≡ Ok x → f x ≡ g x) → with_first r f ≡ with_first r g
with_first_same (Ok x) f g h = ap (λ (m : Members). record { objects = x.object ∷ m.objects; fault = m.fault }) (h x refl)
with_first_same (Err d) f g h = refl

-- as long as the count is no less than the bytes, it doesn't matter
pub members_same : (m n place : ℕ) (bytes : List ℕ) → length bytes ≤ m → length bytes ≤ n → members_within m place bytes ≡ members_within n place bytes
unfolding members_within
members_same zero zero place bytes p q = refl
members_same zero (suc n) place [] p q = refl
members_same zero (suc n) place (b ∷ bytes) p q = absurd (omega (arith, p))
members_same (suc m) zero place [] p q = refl
members_same (suc m) zero place (b ∷ bytes) p q = absurd (omega (arith, q))
members_same (suc m) (suc n) place [] p q = refl
members_same (suc m) (suc n) place (b ∷ bytes) p q =
    with_first_same (object_at place (b ∷ bytes)) _ _ (λ x e.
    let size = found_size place (b ∷ bytes) x e in
    members_same m n (past place (b ∷ bytes) x) x.rest (omega arith) (omega arith))

-- the members of bytes that aren't empty are the first and the others
pub members_step : (place b : ℕ) (bytes : List ℕ) →
    members_from place (b ∷ bytes) ≡ with_first (object_at place (b ∷ bytes)) (λ found. members_from (past place (b ∷ bytes) found) found.rest)
unfolding members_within
members_step place b bytes =
    with_first_same (object_at place (b ∷ bytes)) _ _ (λ x e.
    let size = found_size place (b ∷ bytes) x e in
    members_same (length bytes) (length x.rest) (past place (b ∷ bytes) x) x.rest (omega arith) (omega arith))

-- the members that a scan has before it
abbrev pub members_left : Scan → Members
members_left scan = members_from scan.at scan.left

-- what one object of a scan makes of it
pub record Steps (scan : Scan) (object : Member) : Type 0 where
  pub members : members_left scan ≡ record { objects = object ∷ (members_left (after_next scan)).objects; fault = (members_left (after_next scan)).fault }
  pub smaller : (length object.bytes + 4) + length (after_next scan).left ≤ length scan.left

abbrev next_is : Result Member ObjFault → Option (Result Member ObjFault)
next_is r = Some r

abbrev found_is : Member → Result Member ObjFault
found_is object = Ok object

same_object : (a b : Member) → next_is (found_is a) ≡ next_is (found_is b) → a ≡ b
same_object a b e = cc

steps_with : (place b : ℕ) (bytes : List ℕ) (object : Member) (r : Result Found ObjFault) → object_at place (b ∷ bytes) ≡ r →
    next_is (found_is object) ≡ next_is (object_of r) → Steps (record { at = place; left = b ∷ bytes }) object
steps_with place b bytes object (Ok found) is e =
    let scan : Scan = record { at = place; left = b ∷ bytes } in
    let same = same_object object found.object e in
    let after : after_next scan ≡ past_object place (b ∷ bytes) (Ok found) = ap (past_object place (b ∷ bytes)) is in
    let members : members_left scan ≡ record {
      objects = found.object ∷ (members_left (past_object place (b ∷ bytes) (Ok found))).objects;
      fault =
          (members_left (past_object place (b ∷ bytes) (Ok found))).fault;
    } = members_step place b bytes
    ∙ ap (λ (r : Result Found ObjFault). with_first r (λ f. members_from (past place (b ∷ bytes) f) f.rest)) is in
    let size = found_size place (b ∷ bytes) found is in
    record {
      members = members ∙ ap (λ (s : Scan). record { objects = found.object ∷ (members_left s).objects; fault = (members_left s).fault }) (sym after)
          ∙ ap (λ (m : Member). record { objects = m ∷ (members_left (after_next scan)).objects; fault = (members_left (after_next scan)).fault }) (sym same);
      smaller = omega (arith, ap (λ (m : Member). length m.bytes) same, ap (λ (s : Scan). length s.left) after, size);
    }
steps_with place b bytes object (Err fault) is e = absurd cc

steps_at : (place : ℕ) (left : List ℕ) (object : Member) → next_is (found_is object) ≡ next_of (record { at = place; left = left }) →
    Steps (record { at = place; left = left }) object
steps_at place [] object e = absurd cc
steps_at place (b ∷ bytes) object e = steps_with place b bytes object (object_at place (b ∷ bytes)) refl e

pub steps : (scan : Scan) (object : Member) → Some (Ok object) ≡ next_of scan → Steps scan object
steps scan object e = steps_at scan.at scan.left object e

stops_with : (place b : ℕ) (bytes : List ℕ) (fault : ObjFault) (r : Result Found ObjFault) → object_at place (b ∷ bytes) ≡ r →
    next_is (Err fault) ≡ next_is (object_of r) → (members_from place (b ∷ bytes)).fault ≡ Some fault
stops_with place b bytes fault (Ok found) is e = absurd cc
stops_with place b bytes fault (Err d) is e =
    let same : d ≡ fault = cc in
    ap (λ (m : Members). m.fault) (members_step place b bytes
    ∙ ap (λ (r : Result Found ObjFault). with_first r (λ f. members_from (past place (b ∷ bytes) f) f.rest)) is) ∙ ap (λ (x : ObjFault). Some x) same

stops_at : (place : ℕ) (left : List ℕ) (fault : ObjFault) → next_is (Err fault) ≡ next_of (record { at = place; left = left }) →
    (members_from place left).fault ≡ Some fault
stops_at place [] fault e = absurd cc
stops_at place (b ∷ bytes) fault e = stops_with place b bytes fault (object_at place (b ∷ bytes)) refl e

-- a fault that a scan meets is that of the members before it
pub stops : (scan : Scan) (fault : ObjFault) → Some (Err fault) ≡ next_of scan → (members_left scan).fault ≡ Some fault
stops scan fault e = stops_at scan.at scan.left fault e

ends_at : (place : ℕ) (left : List ℕ) → None ≡ next_of (record { at = place; left = left }) → members_from place left ≡ no_members
unfolding members_within
ends_at place [] e = refl
ends_at place (b ∷ bytes) e = absurd cc

-- at the end there are no members
pub ends : (scan : Scan) → None ≡ next_of scan → members_left scan ≡ no_members
ends scan e = ends_at scan.at scan.left e

-- the first of some objects, and then of the others
pub first_then : (found : Option Member) (code : ℕ) (object : Member) (others : List Member) →
    option_or (option_or found (first_with code (object ∷ []))) (first_with code others) ≡ option_or found (first_with code (object ∷ others))
first_then (Some x) code object others = refl
first_then None code object others =
    elim (eqb object.code code) as
    (λ b. option_or (option_or None (cond b (Some object) None)) (first_with code others) ≡ option_or None
    (cond b (Some object) (first_with code others))) [ true ↦ refl | false ↦ refl ]

-- what finding answers where the members have a fault, or none
pub find_fault : (bytes : List ℕ) (code : ℕ) (fault : ObjFault) → (members_of bytes).fault ≡ Some fault → Err fault ≡ find_of bytes code
find_fault bytes code fault e = ap (λ (f : Option ObjFault). found_or_fault f (first_with code (members_of bytes).objects)) (sym e)

pub find_found : (bytes : List ℕ) (code : ℕ) (found : Option Member) → (members_of bytes).fault ≡ None →
    first_with code (members_of bytes).objects ≡ found → Ok found ≡ find_of bytes code
find_found bytes code found e is = sym (ap (λ (f : Option ObjFault). found_or_fault f (first_with code (members_of bytes).objects)) e
    ∙ ap (λ (f : Option Member). found_or_fault None f) is)
