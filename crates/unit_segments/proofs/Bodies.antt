-- A command's body has a fault exactly where it isn't sound.
use Rattle.std.proofs.Common.{◌≡◌, ℕ, ◌+◌, ◌-◌, ◌<◌, Bool, true, false, cond, eqb, List, [], ◌∷◌, ◌++◌, length, take, drop}
use Rattle.std.proofs.Common.{Option, Some, None, Result, Ok, Err, refl, sym, ap, ◌∙◌, subst, arith, inl, inr}
use Rattle.std.specs.Prelude.{◌&&◌, nat_le, ◌==◌}
use Rattle.std.proofs.lemmas.Bool.{cond-true, cond-false, cases_Bool, ne_eqb}
use Rattle.std.proofs.lemmas.Option.{same_Some}
use Rattle.std.proofs.lemmas.List.{append_assoc, length-append, length-take, length-drop, take-append-drop, drop_at}
use Rattle.link_ends.specs.Bytes.{AreBytes}
use Rattle.link_ends.proofs.Bytes.{AreBytes-drop}
use Rattle.byteorder.specs.Endian.{big_number, big_bytes}
use Rattle.ddm_objects.specs.declared.fault.ObjFault.{ObjFault}
use Rattle.ddm_objects.specs.declared.fault.ObjWhy.TheVariants.{Past}
use Rattle.ddm_objects.specs.Objects.{Member, Found, StartsWith, IsObject, IsFrontFault, IsOuterFault, spelling, length_field, extended_length}
use Rattle.ddm_objects.specs.Objects.{fault_at, object_at, to_end, first_object, only_object, outer_of}
use Rattle.ddm_objects.specs.Members.{Members, AreMembers, IsFirstFault, past, with_first, members_from, members_of}
use Rattle.ddm_objects.proofs.Reading.Read.{object_found, members_step}
use Rattle.ddm_objects.proofs.Reading.Spelled.{begins_again, first_takes, first_again, outer_takes, outer_again, members_again, members_take}
use Rattle.ddm_objects.proofs.Reading.Faults.{members_first_fault, outer_first_fault}
use Rattle.ddm_codepoints.specs.CodeClass.{class_of}
use Rattle.unit_segments.specs.Command.{BodyFault, fault_from, missing_error, params_fault, body_fault_by, body_fault, is_looked_into, has_needed}
use Rattle.unit_segments.specs.Grammar.{AreParams, IsSound}
use Rattle.unit_segments.specs.BadChain.{IsLookedInto, IsBodyFault}

abbrev found_is : BodyFault → Option BodyFault
found_is fault = Some fault

abbrev no_fault : Option BodyFault
no_fault = None

-- ---- what is sound is read

params_none : (offset : ℕ) (object : Member) → AreParams object →
    params_fault offset object.code object.bytes (members_of object.bytes).fault ≡ None
params_none offset object params =
    let read = members_again 0 params.objects object.bytes params.are in
    rw (ap (λ (m : Members). m.fault) read, params.needed) refl

looked_none : (looked : Bool) (offset : ℕ) (object : Member) → (looked ≡ true → AreParams object) →
    cond looked (params_fault offset object.code object.bytes (members_of object.bytes).fault) None ≡ no_fault
looked_none true offset object params = params_none offset object (params refl)
looked_none false offset object params = refl

pub sound_read : (body : List ℕ) → IsSound body → body_fault body ≡ None
unfolding body_fault
sound_read body sound =
    ap (body_fault_by body) (outer_again body sound.object sound.one)
    ∙ looked_none (is_looked_into (class_of sound.object.code)) (length body - length sound.object.bytes) sound.object sound.params

-- ---- what is read is sound

back_fits : (front back : List ℕ) → AreBytes (front ++ back) → AreBytes back
back_fits front back fits = subst AreBytes (drop_at front back (length front) refl) (AreBytes-drop (length front) (front ++ back) fits)

-- the data of an object are bytes
data_fit : (outermost : Bool) (object : Member) (body : List ℕ) → IsObject outermost object body → AreBytes body → AreBytes object.bytes
data_fit outermost object body is fits =
    let size : ℕ = length object.bytes in
    let whole : AreBytes (spelling is.form object) = subst AreBytes is.spelled fits in
    back_fits (extended_length is.form size) object.bytes
    (back_fits (big_bytes 2 object.code) (extended_length is.form size ++ object.bytes)
    (back_fits (big_bytes 2 (length_field is.form size)) (big_bytes 2 object.code ++ extended_length is.form size ++ object.bytes) whole))

needed_by : (b : Bool) (fault : BodyFault) → cond b None (Some fault) ≡ no_fault → b ≡ true
needed_by true fault e = refl
needed_by false fault e = absurd cc

params_by : (offset : ℕ) (object : Member) (met : Option ObjFault) → AreBytes object.bytes → (members_of object.bytes).fault ≡ met →
    params_fault offset object.code object.bytes met ≡ None → AreParams object
params_by offset object (Some fault) fits is e = absurd cc
params_by offset object None fits is e = record {
  objects = (members_of object.bytes).objects;
  are = members_take (length object.bytes) 0 object.bytes (omega arith) fits is;
  needed = needed_by (has_needed object.code object.bytes) (record { offset = 0; err = missing_error }) e;
}

sound_by : (body : List ℕ) (r : Result Member ObjFault) → AreBytes body → outer_of body ≡ r → body_fault_by body r ≡ None → IsSound body
sound_by body (Err fault) fits is e = absurd cc
sound_by body (Ok object) fits is e =
    let one = outer_takes body object fits is in
    let offset : ℕ = length body - length object.bytes in
    let met : Option ObjFault = (members_of object.bytes).fault in
    record {
      object = object;
      one = one;
      params = λ looked.
          params_by offset object met (data_fit true object body one fits) refl
          (sym (cond-true (is_looked_into (class_of object.code)) (params_fault offset object.code object.bytes met) None looked) ∙ e);
    }

pub read_sound : (body : List ℕ) → AreBytes body → body_fault body ≡ None → IsSound body
unfolding body_fault
read_sound body fits e = sound_by body (outer_of body) fits refl e

-- ---- the fault that is read is the first one

looked_some : (looked : Bool) (x : Option BodyFault) (fault : BodyFault) → cond looked x None ≡ found_is fault → (looked ≡ true) × (x ≡ Some fault)
looked_some true x fault e = (refl, e)
looked_some false x fault e = absurd cc

missing_by : (b : Bool) (lacks fault : BodyFault) → cond b None (Some lacks) ≡ found_is fault → (b ≡ false) × (lacks ≡ fault)
missing_by true lacks fault e = absurd cc
missing_by false lacks fault e = (refl, same_Some lacks fault e)

params_bad : (body : List ℕ) (object : Member) (fault : BodyFault) (met : Option ObjFault) → IsLookedInto object body → AreBytes object.bytes →
    (members_of object.bytes).fault ≡ met → params_fault (length body - length object.bytes) object.code object.bytes met ≡ Some fault →
    IsBodyFault fault body
params_bad body object fault (Some member) looked fits is e =
    inr (inl (record {
      object = object;
      is = looked;
      before = (members_of object.bytes).objects;
      member = member;
      first = members_first_fault object.bytes member fits is;
      told = sym (same_Some (fault_from (length body - length object.bytes) member) fault e);
    }))
params_bad body object fault None looked fits is e =
    let missing = missing_by (has_needed object.code object.bytes) (record { offset = 0; err = missing_error }) fault e in
    inr (inr (record {
      object = object;
      is = looked;
      objects = (members_of object.bytes).objects;
      are = members_take (length object.bytes) 0 object.bytes (omega arith) fits is;
      missing = missing.0;
      told = sym missing.1;
    }))

bad_by : (body : List ℕ) (fault : BodyFault) (r : Result Member ObjFault) → AreBytes body → outer_of body ≡ r → body_fault_by body r ≡ Some fault →
    IsBodyFault fault body
bad_by body fault (Err outer) fits is e =
    inl (record { outer = outer; first = outer_first_fault body outer fits is; told = sym (same_Some (fault_from 0 outer) fault e) })
bad_by body fault (Ok object) fits is e =
    let one = outer_takes body object fits is in
    let met : Option ObjFault = (members_of object.bytes).fault in
    let both = looked_some (is_looked_into (class_of object.code))
    (params_fault (length body - length object.bytes) object.code object.bytes met) fault e in
    params_bad body object fault met (record { one = one; looked = both.0 }) (data_fit true object body one fits) refl both.1

pub read_bad : (body : List ℕ) (fault : BodyFault) → AreBytes body → body_fault body ≡ Some fault → IsBodyFault fault body
unfolding body_fault
read_bad body fault fits e = bad_by body fault (outer_of body) fits refl e

-- ---- the first fault is read

front_met : (body : List ℕ) (fault : ObjFault) → AreBytes body → IsFrontFault fault body → first_object body ≡ Err fault
unfolding first_object
front_met body fault fits bad =
    let test : Bool = nat_le 4 (length body) && big_number 2 body == 0x8004 in
    elim (cases_Bool test) [
      | inl is ↦ absurd (bad.none (to_end body) (first_takes body (to_end body) fits (cond-true test (Ok (to_end body)) (object_at 0 body) is)))
      | inr isnt ↦ cond-false test (Ok (to_end body)) (object_at 0 body) isnt ∙ bad.why
    ]

outer_met : (body : List ℕ) (fault : ObjFault) → AreBytes body → IsOuterFault fault body → outer_of body ≡ Err fault
outer_met body fault fits (inl front) = ap (only_object (length body)) (front_met body fault fits front)
outer_met body fault fits (inr over) =
    let rest : List ℕ = drop fault.at body in
    let begins : StartsWith (record { object = over.object; rest = rest }) body =
    record { front = take fault.at body; object = over.before; follows = sym (take-append-drop fault.at body) } in
    let some : (length rest ≡ 0) → ⊥ = λ none. omega (arith, none, length-drop fault.at body, over.within) in
    let place : length body - length rest ≡ fault.at = omega (arith, length-drop fault.at body, over.within) in
    ap (only_object (length body)) (first_again (record { object = over.object; rest = rest }) body (inl begins))
    ∙ cond-false (eqb (length rest) 0) (Ok over.object) (Err (fault_at (length body - length rest) Past)) (ne_eqb (length rest) 0 some)
    ∙ ap (λ (n : ℕ). Err (fault_at n Past)) place
    ∙ ap (λ why. Err (fault_at fault.at why)) (sym over.why)

-- the fault of members that begin with an object is that of those behind it
fault_behind : (place : ℕ) (bytes : List ℕ) (found : Found) → object_at place bytes ≡ Ok found →
    (members_from place bytes).fault ≡ (members_from (past place bytes found) found.rest).fault
fault_behind place [] found e = let is = object_found place [] found e in absurd (omega (arith, is.header))
fault_behind place (b ∷ bytes) found e =
    ap (λ (m : Members). m.fault) (members_step place b bytes)
    ∙ ap (λ (r : Result Found ObjFault). (with_first r (λ f. members_from (past place (b ∷ bytes) f) f.rest)).fault) e

-- and of members behind others
fault_behind_all : (objects : List Member) (place : ℕ) (front rest : List ℕ) → AreMembers objects front →
    (members_from place (front ++ rest)).fault ≡ (members_from (place + length front) rest).fault
fault_behind_all [] place front rest are =
    ap (λ (xs : List ℕ). (members_from place (xs ++ rest)).fault) are
    ∙ ap (λ (n : ℕ). (members_from n rest).fault) (omega (arith, ap length are))
fault_behind_all (object ∷ objects) place front rest are =
    let begins = are.1 in
    let found : Found = record { object = object; rest = are.0 ++ rest } in
    let all : StartsWith found (front ++ rest) = record {
      front = begins.front;
      object = begins.object;
      follows = ap (λ (xs : List ℕ). xs ++ rest) begins.follows ∙ append_assoc begins.front are.0 rest;
    } in
    let size = ap length begins.follows ∙ length-append begins.front are.0 in
    let next : past place (front ++ rest) found + length are.0 ≡ place + length front =
    omega (arith, size, length-append front rest, length-append are.0 rest) in
    fault_behind place (front ++ rest) found (begins_again place found (front ++ rest) all)
    ∙ fault_behind_all objects (past place (front ++ rest) found) are.0 rest are.2
    ∙ ap (λ (n : ℕ). (members_from n rest).fault) next

fault_at_front : (place : ℕ) (bytes : List ℕ) (fault : ObjFault) → 0 < length bytes → object_at place bytes ≡ Err fault →
    (members_from place bytes).fault ≡ Some fault
fault_at_front place [] fault some e = absurd (omega (arith, some))
fault_at_front place (b ∷ bytes) fault some e =
    ap (λ (m : Members). m.fault) (members_step place b bytes)
    ∙ ap (λ (r : Result Found ObjFault). (with_first r (λ f. members_from (past place (b ∷ bytes) f) f.rest)).fault) e

members_met : (bytes : List ℕ) (fault : ObjFault) (before : List Member) → IsFirstFault fault before bytes → (members_of bytes).fault ≡ Some fault
members_met bytes fault before first =
    let front : List ℕ = take fault.at bytes in
    let rest : List ℕ = drop fault.at bytes in
    let place : 0 + length front ≡ fault.at = omega (arith, length-take fault.at bytes, first.within) in
    let some : 0 < length rest = omega (arith, length-drop fault.at bytes, first.within) in
    ap (λ (xs : List ℕ). (members_of xs).fault) (sym (take-append-drop fault.at bytes))
    ∙ fault_behind_all before 0 front rest first.before
    ∙ ap (λ (n : ℕ). (members_from n rest).fault) place
    ∙ fault_at_front fault.at rest fault some first.why

looked_bad : (body : List ℕ) (object : Member) (fault : BodyFault) → IsLookedInto object body →
    params_fault (length body - length object.bytes) object.code object.bytes (members_of object.bytes).fault ≡ Some fault → body_fault body ≡ Some fault
unfolding body_fault
looked_bad body object fault is e =
    ap (body_fault_by body) (outer_again body object is.one)
    ∙ cond-true (is_looked_into (class_of object.code))
    (params_fault (length body - length object.bytes) object.code object.bytes (members_of object.bytes).fault) None is.looked
    ∙ e

no_object_read : (body : List ℕ) (fault : BodyFault) (outer : ObjFault) → outer_of body ≡ Err outer → fault ≡ fault_from 0 outer →
    body_fault body ≡ Some fault
unfolding body_fault
no_object_read body fault outer is told = ap (body_fault_by body) is ∙ ap found_is (sym told)

pub bad_read : (body : List ℕ) (fault : BodyFault) → AreBytes body → IsBodyFault fault body → body_fault body ≡ Some fault
bad_read body fault fits (inl none) = no_object_read body fault none.outer (outer_met body none.outer fits none.first) none.told
bad_read body fault fits (inr (inl bad)) =
    let offset : ℕ = length body - length bad.object.bytes in
    looked_bad body bad.object fault bad.is
    (ap (params_fault offset bad.object.code bad.object.bytes) (members_met bad.object.bytes bad.member bad.before bad.first)
    ∙ ap found_is (sym bad.told))
bad_read body fault fits (inr (inr lacks)) =
    let offset : ℕ = length body - length lacks.object.bytes in
    let read = members_again 0 lacks.objects lacks.object.bytes lacks.are in
    looked_bad body lacks.object fault lacks.is
    (ap (λ (m : Members). params_fault offset lacks.object.code lacks.object.bytes m.fault) read
    ∙ cond-false (has_needed lacks.object.code lacks.object.bytes) None (Some (record { offset = 0; err = missing_error })) lacks.missing
    ∙ ap found_is (sym lacks.told))
