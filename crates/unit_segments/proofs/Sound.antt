-- The objects that are written as commands are sound.
use Rattle.std.proofs.Common.{◌≡◌, ℕ, zero, suc, ◌+◌, ◌-◌, ◌<◌, ◌≤◌, Bool, true, false, cond, eqb, leb, List, [], ◌∷◌, ◌++◌, length, take}
use Rattle.std.proofs.Common.{Result, Ok, refl, sym, ap, ◌∙◌, subst, arith}
use Rattle.std.specs.Prelude.{replicate, unwrap_or}
use Rattle.std.proofs.lemmas.Bool.{both_ways, ne_eqb, le-leb, cond-true}
use Rattle.std.proofs.lemmas.List.{append_assoc, append-nil, length-append, length-map, length-replicate, length-take, take_at}
use Rattle.byteorder.specs.Endian.{big_bytes}
use Rattle.byteorder.specs.Numbers.{length-bytes_high_first}
use Rattle.ddm_objects.specs.declared.fault.ObjFault.{ObjFault}
use Rattle.ddm_objects.specs.Objects.{Member, Found, Form, Short, ToEnd, Extended4, Extended6, Extended8, IsAllowed, IsObject, StartsWith, HasCanonical}
use Rattle.ddm_objects.specs.Objects.{length_field, extended_length, object_at, greatest_short, short_object, long_object, canonical_object}
use Rattle.ddm_objects.specs.Members.{Members, AreMembers, first_with}
use Rattle.ddm_objects.proofs.Reading.Read.{found_size}
use Rattle.ddm_objects.proofs.Reading.Spelled.{begins_again, outer_again, members_again, canonical_outer, canonical_begins}
use Rattle.ddm_codepoints.specs.declared.code_class.CodeClass.{CodeClass}
use Rattle.ddm_codepoints.specs.declared.code_class.CodeClass.TheVariants.{Access, Pass, UnitEnd, Object, Reply, Unknown}
use Rattle.ddm_codepoints.specs.CodeClass.{class_of}
use Rattle.ddm_codepoints.specs.Character.{space, ebcdic_of, ebcdic_text, padded_name}
use Rattle.ddm_codepoints.specs.CodePoint.{accsec, secchk, accrdb, secmec, rdbnam, rlsconv, rtnsetstt, excsqlset}
use Rattle.ddm_codepoints.specs.Value.{release, return_sets}
use Rattle.access_handshake.specs.Access.{accsec_object}
use Rattle.unit_segments.specs.Limit.{most_chain_bytes}
use Rattle.unit_segments.specs.Command.{ends_unit, is_looked_into, code_by, code_of, data_by, data_of, has_two_bytes, has_needed}
use Rattle.unit_segments.specs.Grammar.{AreParams, IsSound}
use Rattle.unit_segments.specs.Release.{kept_by, kept_within, kept_members, is_asking, asking, asked_body}

-- ---- one object

allowed_outermost : (form : Form) → IsAllowed false form → IsAllowed true form
allowed_outermost Short allowed = tt
allowed_outermost ToEnd allowed = refl
allowed_outermost Extended4 allowed = tt
allowed_outermost Extended6 allowed = tt
allowed_outermost Extended8 allowed = tt

-- what is written of an object is this object
pub written_object : (object : Member) → HasCanonical object → IsObject true object (canonical_object object.code object.bytes)
written_object object has =
    let bytes : List ℕ = canonical_object object.code object.bytes in
    let begins = canonical_begins object [] has in
    let same : begins.front ≡ bytes = sym (append-nil begins.front) ∙ sym begins.follows ∙ append-nil bytes in
    record {
      form = begins.object.form;
      allowed = allowed_outermost begins.object.form begins.object.allowed;
      fits = begins.object.fits;
      spelled = sym same ∙ begins.object.spelled;
    }

pub written_code : (object : Member) → HasCanonical object → code_of (canonical_object object.code object.bytes) ≡ object.code
written_code object has = ap code_by (canonical_outer object has)

canonical_short : (object : Member) → length object.bytes ≤ 32763 → length (canonical_object object.code object.bytes) ≤ length object.bytes + 4
canonical_short object small =
    let is = cond-true (leb (length object.bytes) greatest_short) (short_object object.code object.bytes) (long_object object.code object.bytes)
    (le-leb (length object.bytes) greatest_short small) in
    omega (
      arith,
      ap length is,
      length-append (big_bytes 2 (length object.bytes + 4)) (big_bytes 2 object.code ++ object.bytes),
      length-append (big_bytes 2 object.code) object.bytes,
      length-bytes_high_first 2 (length object.bytes + 4),
      length-bytes_high_first 2 object.code,
    )

-- an object whose data aren't looked into is sound
pub sound_closed : (object : Member) → HasCanonical object → is_looked_into (class_of object.code) ≡ false → IsSound (canonical_object object.code object.bytes)
sound_closed object has closed = record {
  object = object;
  one = written_object object has;
  params = λ looked. absurd (both_ways (is_looked_into (class_of object.code)) closed looked);
}

-- and so is one with the parameters that it needs
pub sound_open : (object : Member) → HasCanonical object → AreParams object → IsSound (canonical_object object.code object.bytes)
sound_open object has params = record { object = object; one = written_object object has; params = λ _. params }

-- ---- members that are kept

-- those whose code points aren't dropped
abbrev kept_objects : (ℕ → Bool) → List Member → List Member
kept_objects drops [] = []
kept_objects drops (object ∷ objects) = cond (drops object.code) (kept_objects drops objects) (object ∷ kept_objects drops objects)

kept_step : (count : ℕ) (drops : ℕ → Bool) (bytes : List ℕ) (found : Found) → object_at 0 bytes ≡ Ok found → 0 < length bytes →
    kept_within (suc count) drops bytes
    ≡ cond (drops found.object.code) [] (take (length bytes - length found.rest) bytes) ++ kept_within count drops found.rest
unfolding kept_within
kept_step count drops [] found e some = absurd (omega (arith, some))
kept_step count drops (byte ∷ bytes) found e some = ap (λ (r : Result Found ObjFault). kept_by drops (byte ∷ bytes) r (kept_within count drops)) e

kept_none : (count : ℕ) (drops : ℕ → Bool) → kept_within count drops [] ≡ []
unfolding kept_within
kept_none zero drops = refl
kept_none (suc count) drops = refl

-- an object has four bytes at least, besides the rest
found_some : (found : Found) (bytes : List ℕ) → StartsWith found bytes → 4 + length found.rest ≤ length bytes
found_some found bytes begins = omega (arith, found_size 0 bytes found (begins_again 0 found bytes begins))

kept_zero : (drops : ℕ → Bool) (bytes : List ℕ) → length (kept_within zero drops bytes) ≤ length bytes
unfolding kept_within
kept_zero drops bytes = omega arith

first_short : (dropped : Bool) (count : ℕ) (bytes : List ℕ) → length (cond dropped [] (take count bytes)) ≤ count
first_short true count bytes = omega arith
first_short false count bytes = omega (arith, length-take count bytes)

-- an object that is kept stands in front of those that are
kept_first : (drops : ℕ → Bool) (object : Member) (rest front kept : List ℕ) (objects : List Member) (dropped : Bool) → drops object.code ≡ dropped →
    IsObject false object front → AreMembers (kept_objects drops objects) kept →
    AreMembers (kept_objects drops (object ∷ objects)) (cond (drops object.code) [] front ++ kept)
kept_first drops object rest front kept objects true is one are = rw is are
kept_first drops object rest front kept objects false is one are = rw is (kept, record { front = front; object = one; follows = refl }, are)

kept_are : (count : ℕ) (drops : ℕ → Bool) (objects : List Member) (bytes : List ℕ) → length bytes ≤ count → AreMembers objects bytes →
    AreMembers (kept_objects drops objects) (kept_within count drops bytes)
kept_are count drops [] bytes small are = ap (kept_within count drops) are ∙ kept_none count drops
kept_are zero drops (object ∷ objects) bytes small are =
    absurd (omega (arith, small, found_some (record { object = object; rest = are.0 }) bytes are.1))
kept_are (suc count) drops (object ∷ objects) bytes small are =
    let rest : List ℕ = are.0 in
    let found : Found = record { object = object; rest = rest } in
    let begins = are.1 in
    let size = ap length begins.follows ∙ length-append begins.front rest in
    let some = found_some found bytes begins in
    let front : take (length bytes - length rest) bytes ≡ begins.front =
    ap (take (length bytes - length rest)) begins.follows ∙ take_at begins.front rest (length bytes - length rest) (omega (arith, size)) in
    let kept = kept_are count drops objects rest (omega (arith, small, some)) are.2 in
    let same = kept_step count drops bytes found (begins_again 0 found bytes begins) (omega (arith, some))
    ∙ ap (λ (xs : List ℕ). cond (drops object.code) [] xs ++ kept_within count drops rest) front in
    subst (AreMembers (kept_objects drops (object ∷ objects))) (sym same)
    (kept_first drops object rest begins.front (kept_within count drops rest) objects (drops object.code) refl begins.object kept)

kept_short : (count : ℕ) (drops : ℕ → Bool) (objects : List Member) (bytes : List ℕ) → AreMembers objects bytes →
    length (kept_within count drops bytes) ≤ length bytes
kept_short zero drops objects bytes are = kept_zero drops bytes
kept_short (suc count) drops [] bytes are = omega (arith, ap length (ap (kept_within (suc count) drops) are ∙ kept_none (suc count) drops))
kept_short (suc count) drops (object ∷ objects) bytes are =
    let rest : List ℕ = are.0 in
    let found : Found = record { object = object; rest = rest } in
    let begins = are.1 in
    let some = found_some found bytes begins in
    let step = ap length (kept_step count drops bytes found (begins_again 0 found bytes begins) (omega (arith, some)))
    ∙ length-append (cond (drops object.code) [] (take (length bytes - length rest) bytes)) (kept_within count drops rest) in
    omega (
      arith,
      step,
      kept_short count drops objects rest are.2,
      first_short (drops object.code) (length bytes - length rest) bytes,
      some,
    )

-- ---- asking for release

members_append : (objects others : List Member) (front back : List ℕ) → AreMembers objects front → AreMembers others back →
    AreMembers (objects ++ others) (front ++ back)
members_append [] others front back are also = subst (AreMembers others) (ap (λ (xs : List ℕ). xs ++ back) (sym are)) also
members_append (object ∷ objects) others front back are also = (
  are.0 ++ back,
  record {
    front = are.1.front;
    object = are.1.object;
    follows = ap (λ (xs : List ℕ). xs ++ back) are.1.follows ∙ append_assoc are.1.front are.0 back;
  },
  members_append objects others are.0 back are.2 also,
)

-- two objects that are written one behind the other
two_members : (a b : Member) → HasCanonical a → HasCanonical b →
    AreMembers (a ∷ b ∷ []) (canonical_object a.code a.bytes ++ canonical_object b.code b.bytes)
two_members a b has also = (
  canonical_object b.code b.bytes,
  canonical_begins a (canonical_object b.code b.bytes) has,
  ([], subst (StartsWith (record { object = b; rest = [] })) (append-nil (canonical_object b.code b.bytes)) (canonical_begins b [] also), refl),
)

abbrev release_asked : Member
release_asked = record { code = rlsconv; bytes = release ∷ [] }

abbrev sets_asked : Member
sets_asked = record { code = rtnsetstt; bytes = return_sets ∷ [] }

asking_are : AreMembers (release_asked ∷ sets_asked ∷ []) asking
asking_are = two_members release_asked sets_asked (record { code = omega arith; size = omega arith }) (record { code = omega arith; size = omega arith })

-- a command that ends a unit needs no parameter
ends_no_unit : (code other : ℕ) → ends_unit (class_of other) ≡ false → ends_unit (class_of code) ≡ true → eqb code other ≡ false
ends_no_unit code other isnt is = ne_eqb code other (λ e. both_ways (ends_unit (class_of code)) (ap (λ (n : ℕ). ends_unit (class_of n)) e ∙ isnt) is)

needs_none : (code : ℕ) (params : List ℕ) → ends_unit (class_of code) ≡ true → has_needed code params ≡ true
unfolding class_of
needs_none code params is =
    rw (ends_no_unit code accsec refl is, ends_no_unit code secchk refl is, ends_no_unit code accrdb refl is) refl

end_is_looked_into : (class : CodeClass) → ends_unit class ≡ true → is_looked_into class ≡ true
end_is_looked_into Access is = absurd cc
end_is_looked_into Pass is = absurd cc
end_is_looked_into UnitEnd is = refl
end_is_looked_into Object is = absurd cc
end_is_looked_into Reply is = absurd cc
end_is_looked_into Unknown is = absurd cc

-- the data of an object are no longer than it
data_short : (outermost : Bool) (object : Member) (body : List ℕ) → IsObject outermost object body → length object.bytes ≤ length body
data_short outermost object body is =
    let size : ℕ = length object.bytes in
    let extended : List ℕ = extended_length is.form size in
    omega (
      arith,
      ap length is.spelled,
      length-append (big_bytes 2 (length_field is.form size)) (big_bytes 2 object.code ++ extended ++ object.bytes),
      length-append (big_bytes 2 object.code) (extended ++ object.bytes),
      length-append extended object.bytes,
    )

pub record IsAsked (body asked : List ℕ) : Type 0 where
  pub sound : IsSound asked
  pub code : code_of asked ≡ code_of body

pub asked_sound : (body : List ℕ) → IsSound body → ends_unit (class_of (code_of body)) ≡ true → length body ≤ most_chain_bytes → IsAsked body (asked_body body)
asked_sound body sound ends small =
    let object : Member = sound.object in
    let outer = outer_again body object sound.one in
    let code : code_of body ≡ object.code = ap code_by outer in
    let held : data_of body ≡ object.bytes = ap data_by outer in
    let ends_it : ends_unit (class_of object.code) ≡ true = subst (λ (n : ℕ). ends_unit (class_of n) ≡ true) code ends in
    let params = sound.params (end_is_looked_into (class_of object.code) ends_it) in
    let kept : List ℕ = kept_members is_asking object.bytes in
    let now : Member = record { code = object.code; bytes = kept ++ asking } in
    let has : HasCanonical now = record {
      code = sound.one.fits.code;
      size = omega (
        arith,
        length-append kept asking,
        kept_short (length object.bytes) is_asking params.objects object.bytes params.are,
        data_short true object body sound.one,
        small,
      );
    } in
    let are : AreParams now = record {
      objects = kept_objects is_asking params.objects ++ (release_asked ∷ sets_asked ∷ []);
      are = members_append (kept_objects is_asking params.objects) (release_asked ∷ sets_asked ∷ []) kept asking
          (kept_are (length object.bytes) is_asking params.objects object.bytes (omega arith) params.are) asking_are;
      needed = needs_none object.code (kept ++ asking) ends_it;
    } in
    let same : canonical_object object.code (kept ++ asking) ≡ asked_body body =
    ap (λ (n : ℕ). canonical_object n (kept ++ asking)) (sym code)
    ∙ ap (λ (xs : List ℕ). canonical_object (code_of body) (kept_members is_asking xs ++ asking)) (sym held) in
    record {
      sound = subst IsSound same (sound_open now has are);
      code = ap code_of (sym same) ∙ written_code now has ∙ sym code;
    }

-- ---- the gateway's own commands

set_closed : is_looked_into (class_of excsqlset) ≡ false
unfolding class_of
set_closed = refl

abbrev set_object : Member
set_object = record { code = excsqlset; bytes = [] }

set_has : HasCanonical set_object
set_has = record { code = omega arith; size = omega arith }

pub set_sound : IsSound (canonical_object excsqlset [])
set_sound = sound_closed set_object set_has set_closed

pub set_code : code_of (canonical_object excsqlset []) ≡ excsqlset
set_code = written_code set_object set_has

padded_short : (name : List ℕ) → length name ≤ 18 → length (padded_name name) ≤ 18
padded_short name small =
    omega (
      arith,
      length-append (ebcdic_text name) (replicate (18 - length name) space),
      length-map name (λ (ascii : ℕ). unwrap_or (ebcdic_of ascii) space),
      length-replicate (18 - length name) space,
      small,
    )

pub record IsAccsec (body : List ℕ) : Type 0 where
  pub sound : IsSound body
  pub code : code_of body ≡ accsec

pub accsec_sound : (mechanism : ℕ) (name : List ℕ) → length name ≤ 18 → IsAccsec (accsec_object mechanism name)
unfolding accsec_object
accsec_sound mechanism name small =
    let first : Member = record { code = secmec; bytes = big_bytes 2 mechanism } in
    let second : Member = record { code = rdbnam; bytes = padded_name name } in
    let held : List ℕ = canonical_object secmec (big_bytes 2 mechanism) ++ canonical_object rdbnam (padded_name name) in
    let now : Member = record { code = accsec; bytes = held } in
    let short = padded_short name small in
    let first_has : HasCanonical first = record { code = omega arith; size = omega (arith, length-bytes_high_first 2 mechanism) } in
    let second_has : HasCanonical second = record { code = omega arith; size = omega (arith, short) } in
    let are = two_members first second first_has second_has in
    let has : HasCanonical now = record {
      code = omega arith;
      size = omega (
        arith,
        length-append (canonical_object secmec (big_bytes 2 mechanism)) (canonical_object rdbnam (padded_name name)),
        canonical_short first (omega (arith, length-bytes_high_first 2 mechanism)),
        canonical_short second (omega (arith, short)),
        length-bytes_high_first 2 mechanism,
        short,
      );
    } in
    let read = members_again 0 (first ∷ second ∷ []) held are in
    let needed : has_needed accsec held ≡ true =
    ap (λ (m : Members). has_two_bytes (first_with secmec m.objects)) read ∙ le-leb 2 (length (big_bytes 2 mechanism))
    (omega (arith, length-bytes_high_first 2 mechanism)) in
    record {
      sound = sound_open now has (record { objects = first ∷ second ∷ []; are = are; needed = needed });
      code = written_code now has;
    }
