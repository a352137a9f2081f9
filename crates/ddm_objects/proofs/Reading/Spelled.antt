-- What is read is spelled so, and what is spelled so is read.
use Rattle.std.proofs.Common.{◌≡◌, ℕ, zero, suc, ◌+◌, ◌-◌, ◌*◌, ◌^◌, ◌<◌, ◌≤◌, Bool, true, false, cond, eqb, leb, List, [], ◌∷◌, ◌++◌, length, take}
use Rattle.std.proofs.Common.{drop, None, Result, Ok, Err, refl, sym, ap, ◌∙◌, subst, arith, inl, inr}
use Rattle.std.specs.Prelude.{◌&&◌}
use Rattle.std.specs.List.{flat_map, AllByRecursion}
use Rattle.std.proofs.lemmas.Bool.{eqb-true, leb-true, le-ltb, lt-ltb, le-leb, eq-eqb, ne_eqb, and_parts, and_from, and_right}
use Rattle.std.proofs.lemmas.List.{append_assoc, length-take, length-append, take-append-drop, append-nil, nil_from_length, take_at, drop_at}
use Rattle.link_ends.specs.Bytes.{AreBytes}
use Rattle.link_ends.proofs.Bytes.{byte_at, AreBytes-drop}
use Rattle.byteorder.specs.Endian.{big_number, big_bytes}
use Rattle.byteorder.specs.Numbers.{big_number-reads_back, length-bytes_high_first}
use Rattle.ddm_objects.specs.declared.fault.ObjFault.{ObjFault}
use Rattle.ddm_objects.specs.declared.fault.ObjWhy.TheVariants.{Past}
use Rattle.ddm_objects.specs.Objects.{Member, Form, Short, ToEnd, Extended4, Extended6, Extended8, length_field, extended_length, spelling}
use Rattle.ddm_objects.specs.Objects.{greatest_extended, HasRoom, HasForm, IsAllowed, IsObject, Found, StartsWith, IsFirst, HasCanonical}
use Rattle.ddm_objects.specs.Objects.{canonical_object, short_object, long_object, Extent, extended_at, extent_at, fault_at, object_at, to_end}
use Rattle.ddm_objects.specs.Objects.{first_object, only_object, outer_of}
use Rattle.ddm_objects.specs.Members.{Members, AreMembers, past, with_first, members_within, members_from}
use Rattle.ddm_objects.proofs.Reading.Bytes.{bytes_of_number, number_bytes}
use Rattle.ddm_objects.proofs.Reading.Read.{chosen, IsExtended, IsMeasured, extent_found, object_there, object_found, found_size, members_step}

-- ---- what is spelled so is read

extended_accepted : (count size : ℕ) (bytes : List ℕ) → count ≤ length bytes → big_number count bytes ≡ size → size ≤ greatest_extended →
    extended_at count bytes ≡ Ok (record { size = size; from = drop count bytes })
extended_accepted count size bytes long is small = rw (le-ltb (length bytes) count long, is, le-ltb greatest_extended size small) refl

extended_again : (count size : ℕ) (bytes : List ℕ) → size < 256 ^ count → size ≤ greatest_extended →
    extended_at count (big_bytes count size ++ bytes) ≡ Ok (record { size = size; from = bytes })
extended_again count size bytes fits small =
    extended_accepted count size (big_bytes count size ++ bytes) (omega (
      arith,
      length-append (big_bytes count size) bytes,
      length-bytes_high_first count size,
    )) (big_number-reads_back count size bytes fits) small
    ∙ ap (λ (xs : List ℕ). Ok (record { size = size; from = xs })) (drop_at (big_bytes count size) bytes count (length-bytes_high_first count size))

short_accepted : (field : ℕ) (bytes : List ℕ) → 4 ≤ field → field < 0x8000 → extent_at field bytes ≡ Ok (record { size = field - 4; from = bytes })
unfolding extent_at
short_accepted field bytes low high = rw (le-ltb field 4 low, lt-ltb field 0x8000 high) refl

extent_again : (form : Form) (size : ℕ) (bytes : List ℕ) → IsAllowed false form → HasRoom form size →
    extent_at (length_field form size) (extended_length form size ++ bytes) ≡ Ok (record { size = size; from = bytes })
unfolding extent_at
extent_again Short size bytes allowed room =
    let same : size + 4 - 4 ≡ size = omega arith in
    short_accepted (size + 4) bytes (omega arith) (omega (arith, room)) ∙ ap (λ (n : ℕ). Ok (record { size = n; from = bytes })) same
extent_again ToEnd size bytes allowed room = absurd cc
extent_again Extended4 size bytes allowed room = extended_again 4 size bytes (omega (arith, room)) room
extent_again Extended6 size bytes allowed room = extended_again 6 size bytes (omega (arith, room)) room
extent_again Extended8 size bytes allowed room = extended_again 8 size bytes (omega (arith, room)) room

-- an object is read where no test refuses it
accepted : (place code : ℕ) (bytes : List ℕ) (extent : Extent) → 4 ≤ length bytes → big_number 2 (drop 2 bytes) ≡ code →
    extent_at (big_number 2 bytes) (drop 4 bytes) ≡ Ok extent → extent.size ≤ length extent.from → object_at place bytes ≡ Ok (object_there code extent)
unfolding object_at
accepted place code bytes extent long code_is is within =
    rw (le-ltb (length bytes) 4 long, code_is, is, le-ltb (length extent.from) extent.size within) refl

-- a length fits two bytes
field_fits : (form : Form) (size : ℕ) → HasRoom form size → length_field form size < 256 ^ 2
field_fits Short size room = omega (arith, room)
field_fits ToEnd size room = omega arith
field_fits Extended4 size room = omega arith
field_fits Extended6 size room = omega arith
field_fits Extended8 size room = omega arith

object_again : (place : ℕ) (form : Form) (object : Member) (rest : List ℕ) → IsAllowed false form → HasForm form object →
    object_at place (spelling form object ++ rest) ≡ Ok (record { object = object; rest = rest })
object_again place form object rest allowed fits =
    let size : ℕ = length object.bytes in
    let bytes : List ℕ = spelling form object ++ rest in
    let after : List ℕ = extended_length form size ++ object.bytes ++ rest in
    let field : big_number 2 bytes ≡ length_field form size =
    big_number-reads_back 2 (length_field form size) (big_bytes 2 object.code ++ after) (field_fits form size fits.size) in
    let code : big_number 2 (drop 2 bytes) ≡ object.code = big_number-reads_back 2 object.code after (omega (arith, fits.code)) in
    let extent : Extent = record { size = size; from = object.bytes ++ rest } in
    let is : extent_at (big_number 2 bytes) (drop 4 bytes) ≡ Ok extent =
    ap (λ (n : ℕ). extent_at n after) field
    ∙ ap (λ (xs : List ℕ). extent_at (length_field form size) xs) (append_assoc (extended_length form size) object.bytes rest)
    ∙ extent_again form size (object.bytes ++ rest) allowed fits.size in
    accepted place object.code bytes extent (omega arith) code is (omega (arith, length-append object.bytes rest))
    ∙ ap (λ (xs : List ℕ). Ok (record { object = record { code = object.code; bytes = xs }; rest = drop size (object.bytes ++ rest) }))
    (take_at object.bytes rest size refl)
    ∙ ap (λ (xs : List ℕ). Ok (record { object = object; rest = xs })) (drop_at object.bytes rest size refl)

pub begins_again : (place : ℕ) (found : Found) (bytes : List ℕ) → StartsWith found bytes → object_at place bytes ≡ Ok found
begins_again place found bytes begins =
    let object = begins.object in
    ap (object_at place) (begins.follows ∙ ap (λ (xs : List ℕ). xs ++ found.rest) object.spelled)
    ∙ object_again place object.form found.object found.rest object.allowed object.fits

-- ---- what is read is spelled so

-- what a length says of the bytes after the code point
record Splits (form : Form) (field : ℕ) (bytes : List ℕ) (extent : Extent) : Type 0 where
  allowed : IsAllowed false form
  field_is : field ≡ length_field form extent.size
  room : HasRoom form extent.size
  split : bytes ≡ extended_length form extent.size ++ extent.from
  rest_fits : AreBytes extent.from

record SplitsLong (count : ℕ) (bytes : List ℕ) (extent : Extent) : Type 0 where
  split : bytes ≡ big_bytes count extent.size ++ extent.from
  room : extent.size ≤ greatest_extended
  rest_fits : AreBytes extent.from

splits_long : (count : ℕ) (bytes : List ℕ) (extent : Extent) → AreBytes bytes → IsExtended count bytes extent → SplitsLong count bytes extent
splits_long count bytes extent fits is =
    subst (SplitsLong count bytes) is.is (record {
      split = sym (take-append-drop count bytes) ∙ ap (λ (xs : List ℕ). xs ++ drop count bytes) (sym (number_bytes count bytes is.whole fits));
      room = is.small;
      rest_fits = AreBytes-drop count bytes fits;
    })

splits : (form : Form) (field : ℕ) (bytes : List ℕ) (extent : Extent) → AreBytes bytes → IsMeasured form field bytes extent → Splits form field bytes extent
splits Short field bytes extent fits is =
    subst (Splits Short field bytes) is.2 (record {
      allowed = tt;
      field_is = omega (arith, is.0);
      room = omega (arith, is.0, is.1);
      split = refl;
      rest_fits = fits;
    })
splits ToEnd field bytes extent fits is = absurd is
splits Extended4 field bytes extent fits is =
    let s = splits_long 4 bytes extent fits is.1 in
    record { allowed = tt; field_is = is.0; room = s.room; split = s.split; rest_fits = s.rest_fits }
splits Extended6 field bytes extent fits is =
    let s = splits_long 6 bytes extent fits is.1 in
    record { allowed = tt; field_is = is.0; room = s.room; split = s.split; rest_fits = s.rest_fits }
splits Extended8 field bytes extent fits is =
    let s = splits_long 8 bytes extent fits is.1 in
    record { allowed = tt; field_is = is.0; room = s.room; split = s.split; rest_fits = s.rest_fits }

-- four bytes and what follows them are the spelling of an object
spelled_there : (a b c d : ℕ) (form : Form) (object : Member) (after : List ℕ) → a < 256 → b < 256 → c < 256 → d < 256 →
    length_field form (length object.bytes) ≡ a * 256 + b → object.code ≡ c * 256 + d →
    after ≡ extended_length form (length object.bytes) ++ object.bytes → a ∷ b ∷ c ∷ d ∷ after ≡ spelling form object
spelled_there a b c d form object after p q r s field code is =
    let size : ℕ = length object.bytes in
    let tail : List ℕ = extended_length form size ++ object.bytes in
    let first : big_bytes 2 (length_field form size) ≡ a ∷ b ∷ [] = bytes_of_number a b (length_field form size) p q field in
    let second : big_bytes 2 object.code ≡ c ∷ d ∷ [] = bytes_of_number c d object.code r s code in
    ap (λ (xs : List ℕ). a ∷ b ∷ c ∷ d ∷ xs) is
    ∙ ap (λ (xs : List ℕ). (a ∷ b ∷ []) ++ xs ++ tail) (sym second)
    ∙ ap (λ (xs : List ℕ). xs ++ big_bytes 2 object.code ++ tail) (sym first)

-- what was taken from the front
pub record Takes (bytes : List ℕ) (found : Found) : Type 0 where
  pub begins : StartsWith found bytes
  pub rest_fits : AreBytes found.rest

takes_there : (a b c d : ℕ) (after : List ℕ) (form : Form) (extent : Extent) → AreBytes (a ∷ b ∷ c ∷ d ∷ after) →
    Splits form (big_number 2 (a ∷ b ∷ c ∷ d ∷ after)) after extent → extent.size ≤ length extent.from →
    Takes (a ∷ b ∷ c ∷ d ∷ after) (object_there (big_number 2 (c ∷ d ∷ after)) extent)
takes_there a b c d after form extent fits s within =
    let code : ℕ = big_number 2 (c ∷ d ∷ after) in
    let held : List ℕ = take extent.size extent.from in
    let rest : List ℕ = drop extent.size extent.from in
    let object : Member = record { code = code; bytes = held } in
    let size : extent.size ≡ length held = omega (arith, length-take extent.size extent.from, within) in
    let field : length_field form (length held) ≡ a * 256 + b = ap (length_field form) (sym size) ∙ sym s.field_is ∙ omega arith in
    let code_is : code ≡ c * 256 + d = omega arith in
    let front : List ℕ = a ∷ b ∷ c ∷ d ∷ (extended_length form (length held) ++ held) in
    let whole : after ≡ (extended_length form (length held) ++ held) ++ rest =
    s.split ∙ ap (λ (n : ℕ). extended_length form n ++ extent.from) size
    ∙ ap (λ (xs : List ℕ). extended_length form (length held) ++ xs) (sym (take-append-drop extent.size extent.from))
    ∙ sym (append_assoc (extended_length form (length held)) held rest) in
    record {
      begins = record {
        front = front;
        object = record {
          form = form;
          allowed = s.allowed;
          fits = record {
            code = omega (arith, code_is, byte_at (a ∷ b ∷ c ∷ d ∷ after) fits 2, byte_at (a ∷ b ∷ c ∷ d ∷ after) fits 3);
            size =
                subst (HasRoom form) size s.room;
          };
          spelled =
              spelled_there a b c d form object (extended_length form (length held) ++ held) (byte_at (a ∷ b ∷ c ∷ d ∷ after) fits 0)
              (byte_at (a ∷ b ∷ c ∷ d ∷ after) fits 1) (byte_at (a ∷ b ∷ c ∷ d ∷ after) fits 2) (byte_at (a ∷ b ∷ c ∷ d ∷ after) fits 3) field code_is refl;
        };
        follows = ap (λ (xs : List ℕ). a ∷ b ∷ c ∷ d ∷ xs) whole;
      };
      rest_fits = AreBytes-drop extent.size extent.from s.rest_fits;
    }

pub object_takes : (place : ℕ) (bytes : List ℕ) (found : Found) → AreBytes bytes → object_at place bytes ≡ Ok found → Takes bytes found
object_takes place [] found fits e = let is = object_found place [] found e in absurd (omega (arith, is.header))
object_takes place (a ∷ []) found fits e = let is = object_found place (a ∷ []) found e in absurd (omega (arith, is.header))
object_takes place (a ∷ b ∷ []) found fits e = let is = object_found place (a ∷ b ∷ []) found e in absurd (omega (arith, is.header))
object_takes place (a ∷ b ∷ c ∷ []) found fits e = let is = object_found place (a ∷ b ∷ c ∷ []) found e in absurd (omega (arith, is.header))
object_takes place (a ∷ b ∷ c ∷ d ∷ after) found fits e =
    let bytes : List ℕ = a ∷ b ∷ c ∷ d ∷ after in
    let is = object_found place bytes found e in
    let m = extent_found (big_number 2 bytes) after is.extent is.measured in
    let s = splits m.0 (big_number 2 bytes) after is.extent (AreBytes-drop 4 (a ∷ b ∷ c ∷ d ∷ after) fits) m.1 in
    subst (Takes bytes) is.is (takes_there a b c d after m.0 is.extent fits s is.within)

-- ---- the first object

-- a form that says where its object ends is allowed for the outermost object too
allowed_more : (form : Form) → IsAllowed false form → IsAllowed true form
allowed_more Short allowed = tt
allowed_more ToEnd allowed = absurd cc
allowed_more Extended4 allowed = tt
allowed_more Extended6 allowed = tt
allowed_more Extended8 allowed = tt

outermost_too : (object : Member) (bytes : List ℕ) → IsObject false object bytes → IsObject true object bytes
outermost_too object bytes is =
    record { form = is.form; allowed = allowed_more is.form is.allowed; fits = is.fits; spelled = is.spelled }

to_end_takes : (bytes : List ℕ) → AreBytes bytes → 4 ≤ length bytes → big_number 2 bytes ≡ 0x8004 → IsFirst (to_end bytes) bytes
to_end_takes [] fits long is = absurd (omega (arith, long))
to_end_takes (a ∷ []) fits long is = absurd (omega (arith, long))
to_end_takes (a ∷ b ∷ []) fits long is = absurd (omega (arith, long))
to_end_takes (a ∷ b ∷ c ∷ []) fits long is = absurd (omega (arith, long))
to_end_takes (a ∷ b ∷ c ∷ d ∷ after) fits long is =
    let code : big_number 2 (c ∷ d ∷ after) ≡ c * 256 + d = omega arith in
    let field : 0x8004 ≡ a * 256 + b = sym is ∙ omega arith in
    let object : Member = record { code = big_number 2 (c ∷ d ∷ after); bytes = after } in
    inr (
      record {
        form = ToEnd;
        allowed = refl;
        fits = record { code = omega (arith, code, byte_at (a ∷ b ∷ c ∷ d ∷ after) fits 2, byte_at (a ∷ b ∷ c ∷ d ∷ after) fits 3); size = tt };
        spelled =
            spelled_there a b c d ToEnd object after (byte_at (a ∷ b ∷ c ∷ d ∷ after) fits 0) (byte_at (a ∷ b ∷ c ∷ d ∷ after) fits 1)
            (byte_at (a ∷ b ∷ c ∷ d ∷ after) fits 2) (byte_at (a ∷ b ∷ c ∷ d ∷ after) fits 3) field code refl;
      },
      refl,
    )

abbrev done : Found → Result Found ObjFault
done x = Ok x

ok_is : (x y : Found) → done x ≡ done y → x ≡ y
ok_is x y e = cc

pub first_takes : (bytes : List ℕ) (found : Found) → AreBytes bytes → first_object bytes ≡ Ok found → IsFirst found bytes
unfolding first_object
first_takes bytes found fits e =
    elim (chosen (leb 4 (length bytes) && eqb (big_number 2 bytes) 0x8004) (done (to_end bytes)) (object_at 0 bytes) (done found) e) [
      | inl p ↦
          let both = and_parts (leb 4 (length bytes)) (eqb (big_number 2 bytes) 0x8004) p.0 in
          subst (λ (f : Found). IsFirst f bytes) (ok_is (to_end bytes) found p.1) (to_end_takes bytes fits (leb-true _ _ both.0) (eqb-true _ _ both.1))
      | inr p ↦
          let takes = object_takes 0 bytes found fits p.1 in
          inl takes.begins
    ]

-- a form that says where its object ends isn't the one that goes to the end
ends_itself : (form : Form) (size : ℕ) → IsAllowed false form → HasRoom form size → length_field form size ≡ 0x8004 → ⊥
ends_itself Short size allowed room e = omega (arith, room, e)
ends_itself ToEnd size allowed room e = absurd cc
ends_itself Extended4 size allowed room e = omega (arith, e)
ends_itself Extended6 size allowed room e = omega (arith, e)
ends_itself Extended8 size allowed room e = omega (arith, e)

not_to_end : (bytes : List ℕ) → (big_number 2 bytes ≡ 0x8004 → ⊥) → first_object bytes ≡ object_at 0 bytes
unfolding first_object
not_to_end bytes differs = rw (and_right (leb 4 (length bytes)) (eqb (big_number 2 bytes) 0x8004) (ne_eqb (big_number 2 bytes) 0x8004 differs)) refl

begins_first : (form : Form) (object : Member) (rest : List ℕ) → IsAllowed false form → HasForm form object →
    first_object (spelling form object ++ rest) ≡ Ok (record { object = object; rest = rest })
begins_first form object rest allowed fits =
    let size : ℕ = length object.bytes in
    let bytes : List ℕ = spelling form object ++ rest in
    let field : big_number 2 bytes ≡ length_field form size =
    big_number-reads_back 2 (length_field form size) (big_bytes 2 object.code ++ (extended_length form size ++ object.bytes ++ rest))
    (field_fits form size fits.size) in
    not_to_end bytes (λ e. ends_itself form size allowed fits.size (sym field ∙ e)) ∙ object_again 0 form object rest allowed fits

to_end_taken : (bytes : List ℕ) → 4 ≤ length bytes → big_number 2 bytes ≡ 0x8004 → first_object bytes ≡ Ok (to_end bytes)
unfolding first_object
to_end_taken bytes long is =
    rw (and_from (leb 4 (length bytes)) (eqb (big_number 2 bytes) 0x8004) (le-leb 4 (length bytes) long) (eq-eqb (big_number 2 bytes) 0x8004 is)) refl

to_end_first : (object : Member) → object.code < 2 ^ 16 → first_object (spelling ToEnd object) ≡ Ok (record { object = object; rest = [] })
to_end_first object fits =
    let code : big_number 2 (big_bytes 2 object.code ++ object.bytes) ≡ object.code = big_number-reads_back 2 object.code object.bytes (omega (arith, fits)) in
    to_end_taken (spelling ToEnd object) (omega arith) refl ∙ ap (λ (n : ℕ). Ok (record { object = record { code = n; bytes = object.bytes }; rest = [] })) code

-- the whole of the bytes in any form
whole_first : (form : Form) (object : Member) → HasForm form object → first_object (spelling form object) ≡ Ok (record { object = object; rest = [] })
whole_first Short object fits = ap first_object (sym (append-nil (spelling Short object))) ∙ begins_first Short object [] tt fits
whole_first ToEnd object fits = to_end_first object fits.code
whole_first Extended4 object fits = ap first_object (sym (append-nil (spelling Extended4 object))) ∙ begins_first Extended4 object [] tt fits
whole_first Extended6 object fits = ap first_object (sym (append-nil (spelling Extended6 object))) ∙ begins_first Extended6 object [] tt fits
whole_first Extended8 object fits = ap first_object (sym (append-nil (spelling Extended8 object))) ∙ begins_first Extended8 object [] tt fits

pub first_again : (found : Found) (bytes : List ℕ) → IsFirst found bytes → first_object bytes ≡ Ok found
first_again found bytes (inl begins) =
    let object = begins.object in
    ap first_object (begins.follows ∙ ap (λ (xs : List ℕ). xs ++ found.rest) object.spelled)
    ∙ begins_first object.form found.object found.rest object.allowed object.fits
first_again found bytes (inr whole) =
    let object = whole.0 in
    ap first_object object.spelled ∙ whole_first object.form found.object object.fits
    ∙ ap (λ (xs : List ℕ). Ok (record { object = found.object; rest = xs })) (sym whole.1)

-- ---- the only object

abbrev member_is : Member → Result Member ObjFault
member_is object = Ok object

only_found : (size : ℕ) (found : Found) (object : Member) (b : Bool) →
    cond b (Ok found.object) (Err (fault_at (size - length found.rest) Past)) ≡ member_is object → (b ≡ true) × (found.object ≡ object)
only_found size found object true e = (refl, cc)
only_found size found object false e = absurd cc

-- an object with nothing after it is all of the bytes
all_taken : (found : Found) (bytes : List ℕ) → found.rest ≡ [] → IsFirst found bytes → IsObject true found.object bytes
all_taken found bytes none (inl begins) =
    let is = begins.object in
    let whole : bytes ≡ begins.front = begins.follows ∙ ap (λ (xs : List ℕ). begins.front ++ xs) none ∙ append-nil begins.front in
    record { form = is.form; allowed = allowed_more is.form is.allowed; fits = is.fits; spelled = whole ∙ is.spelled }
all_taken found bytes none (inr whole) = whole.0

only_takes : (bytes : List ℕ) (object : Member) (r : Result Found ObjFault) → first_object bytes ≡ r → AreBytes bytes →
    only_object (length bytes) r ≡ member_is object → IsObject true object bytes
only_takes bytes object (Ok found) is fits e =
    let g = only_found (length bytes) found object (eqb (length found.rest) 0) e in
    let none : found.rest ≡ [] = nil_from_length found.rest (eqb-true (length found.rest) 0 g.0) in
    subst (λ (o : Member). IsObject true o bytes) g.1 (all_taken found bytes none (first_takes bytes found fits is))
only_takes bytes object (Err fault) is fits e = absurd cc

pub outer_takes : (bytes : List ℕ) (object : Member) → AreBytes bytes → outer_of bytes ≡ Ok object → IsObject true object bytes
outer_takes bytes object fits e = only_takes bytes object (first_object bytes) refl fits e

pub outer_again : (bytes : List ℕ) (object : Member) → IsObject true object bytes → outer_of bytes ≡ Ok object
outer_again bytes object is = ap (only_object (length bytes)) (first_again (record { object = object; rest = [] }) bytes (inr (is, refl)))

-- ---- lists of objects

-- the first of the members, and the others
members_first : (place : ℕ) (bytes : List ℕ) (found : Found) → object_at place bytes ≡ Ok found →
    members_from place bytes ≡ record {
      objects = found.object ∷ (members_from (past place bytes found) found.rest).objects;
      fault =
          (members_from (past place bytes found) found.rest).fault;
    }
members_first place [] found e = let is = object_found place [] found e in absurd (omega (arith, is.header))
members_first place (b ∷ bytes) found e =
    members_step place b bytes ∙ ap (λ (r : Result Found ObjFault). with_first r (λ f. members_from (past place (b ∷ bytes) f) f.rest)) e

-- what is spelled so is read
pub members_again : (place : ℕ) (objects : List Member) (bytes : List ℕ) → AreMembers objects bytes →
    members_from place bytes ≡ record { objects = objects; fault = None }
unfolding members_within
members_again place [] bytes are = ap (members_from place) are
members_again place (object ∷ objects) bytes are =
    let found : Found = record { object = object; rest = are.0 } in
    members_first place bytes found (begins_again place found bytes are.1)
    ∙ ap (λ (m : Members). record { objects = object ∷ m.objects; fault = m.fault }) (members_again (past place bytes found) objects are.0 are.2)

-- what is read is spelled so
takes_with : (place : ℕ) (bytes : List ℕ) (r : Result Found ObjFault) (others : Found → Members) → object_at place bytes ≡ r → AreBytes bytes →
    (with_first r others).fault ≡ None →
    ((found : Found) → r ≡ Ok found → AreBytes found.rest → (others found).fault ≡ None → AreMembers (others found).objects found.rest) →
    AreMembers (with_first r others).objects bytes
takes_with place bytes (Ok found) others is fits none more =
    let takes = object_takes place bytes found fits is in
    (found.rest, takes.begins, more found refl takes.rest_fits none)
takes_with place bytes (Err fault) others is fits none more = absurd cc

pub members_take : (count place : ℕ) (bytes : List ℕ) → length bytes ≤ count → AreBytes bytes → (members_within count place bytes).fault ≡ None →
    AreMembers (members_within count place bytes).objects bytes
unfolding members_within
members_take zero place [] enough fits none = refl
members_take zero place (b ∷ bytes) enough fits none = absurd (omega (arith, enough))
members_take (suc count) place [] enough fits none = refl
members_take (suc count) place (b ∷ bytes) enough fits none =
    takes_with place (b ∷ bytes) (object_at place (b ∷ bytes)) (λ found. members_within count (past place (b ∷ bytes) found) found.rest) refl fits none
    (λ found is rest_fits no_fault.
    let size = found_size place (b ∷ bytes) found is in
    members_take count (past place (b ∷ bytes) found) found.rest (omega arith) rest_fits no_fault)

-- ---- the canonical spelling

canonical_with : (object : Member) (b : Bool) → leb (length object.bytes) 32763 ≡ b → HasCanonical object →
    IsObject false object (cond b (short_object object.code object.bytes) (long_object object.code object.bytes))
canonical_with object true is has =
    record { form = Short; allowed = tt; fits = record { code = has.code; size = omega (arith, leb-true (length object.bytes) 32763 is) }; spelled = refl }
canonical_with object false is has =
    record { form = Extended4; allowed = tt; fits = record { code = has.code; size = has.size }; spelled = refl }

canonical_is_object : (object : Member) → HasCanonical object → IsObject false object (canonical_object object.code object.bytes)
canonical_is_object object has = canonical_with object (leb (length object.bytes) 32763) refl has

pub canonical_outer : (object : Member) → HasCanonical object → outer_of (canonical_object object.code object.bytes) ≡ Ok object
canonical_outer object has =
    let bytes : List ℕ = canonical_object object.code object.bytes in
    outer_again bytes object (outermost_too object bytes (canonical_is_object object has))

pub canonical_begins : (object : Member) (rest : List ℕ) → HasCanonical object →
    StartsWith (record { object = object; rest = rest }) (canonical_object object.code object.bytes ++ rest)
canonical_begins object rest has =
    record { front = canonical_object object.code object.bytes; object = canonical_is_object object has; follows = refl }

pub canonical_first : (object : Member) (rest : List ℕ) → HasCanonical object →
    first_object (canonical_object object.code object.bytes ++ rest) ≡ Ok (record { object = object; rest = rest })
canonical_first object rest has =
    first_again (record { object = object; rest = rest }) (canonical_object object.code object.bytes ++ rest) (inl (canonical_begins object rest has))

pub canonical_members : (objects : List Member) → AllByRecursion HasCanonical objects →
    AreMembers objects (flat_map (λ object. canonical_object object.code object.bytes) objects)
canonical_members [] each = refl
canonical_members (object ∷ objects) each =
    let rest : List ℕ = flat_map (λ (o : Member). canonical_object o.code o.bytes) objects in
    (rest, canonical_begins object rest each.0, canonical_members objects each.1)
