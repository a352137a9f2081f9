-- A member lies within the bytes that have it.
use Rattle.std.proofs.Common.{◌≡◌, ℕ, zero, suc, ◌+◌, ◌≤◌, Bool, true, false, cond, eqb, List, [], ◌∷◌, length, Option, Some, None, Result, Ok, Err}
use Rattle.std.proofs.Common.{refl, ap, arith}
use Rattle.ddm_objects.specs.declared.fault.ObjFault.{ObjFault}
use Rattle.ddm_objects.specs.Objects.{Member, Found, object_at}
use Rattle.ddm_objects.specs.Members.{Members, past, with_first, members_within, members_of, first_with, found_or_fault, find_of}
use Rattle.ddm_objects.proofs.Reading.Read.{found_size}

abbrev LiesWithin : ℕ → Member → Type 0
LiesWithin size object = length object.bytes + 4 ≤ size

abbrev FirstWithin : ℕ → ℕ → List Member → Type 0
FirstWithin size code objects = (object : Member) → first_with code objects ≡ Some object → LiesWithin size object

abbrev some : Member → Option Member
some x = Some x

some_is : (x y : Member) → some x ≡ some y → x ≡ y
some_is x y e = cc

first_of_more : (size code : ℕ) (object : Member) (others : List Member) → LiesWithin size object → FirstWithin size code others →
    (b : Bool) (found : Member) → cond b (Some object) (first_with code others) ≡ Some found → LiesWithin size found
first_of_more size code object others lies more true found e =
    let same : object ≡ found = some_is object found e in
    let len : length object.bytes ≡ length found.bytes = ap (λ (m : Member). length m.bytes) same in
    omega (arith, len, lies)
first_of_more size code object others lies more false found e = more found e

first_with_within : (place code : ℕ) (bytes : List ℕ) (r : Result Found ObjFault) (others : Found → Members) → object_at place bytes ≡ r →
    ((found : Found) → r ≡ Ok found → FirstWithin (length bytes) code (others found).objects) → FirstWithin (length bytes) code (with_first r others).objects
first_with_within place code bytes (Ok found) others is more object e =
    let size = found_size place bytes found is in
    first_of_more (length bytes) code found.object (others found).objects (omega (arith, size)) (more found refl) (eqb found.object.code code) object e
first_with_within place code bytes (Err fault) others is more object e = absurd cc

wider : (m n code : ℕ) (objects : List Member) → m ≤ n → FirstWithin m code objects → FirstWithin n code objects
wider m n code objects le within object e = let lies = within object e in omega (arith, lies, le)

members_lie_within : (count place code : ℕ) (bytes : List ℕ) → FirstWithin (length bytes) code (members_within count place bytes).objects
unfolding members_within
members_lie_within zero place code bytes object e = absurd cc
members_lie_within (suc count) place code [] object e = absurd cc
members_lie_within (suc count) place code (b ∷ bytes) object e =
    first_with_within place code (b ∷ bytes) (object_at place (b ∷ bytes)) (λ found. members_within count (past place (b ∷ bytes) found) found.rest) refl
    (λ found is.
    let size = found_size place (b ∷ bytes) found is in
    wider (length found.rest) (length (b ∷ bytes)) code (members_within count (past place (b ∷ bytes) found) found.rest).objects (omega arith)
    (members_lie_within count (past place (b ∷ bytes) found) code found.rest)) object e

abbrev found_is : Option Member → Result (Option Member) ObjFault
found_is found = Ok found

no_fault_found : (fault : Option ObjFault) (first : Option Member) (object : Member) → found_or_fault fault first ≡ found_is (Some object) → first ≡ Some object
no_fault_found None first object e = cc
no_fault_found (Some fault) first object e = absurd cc

pub found_within : (bytes : List ℕ) (code : ℕ) (object : Member) → find_of bytes code ≡ Ok (Some object) → length object.bytes + 4 ≤ length bytes
found_within bytes code object e =
    members_lie_within (length bytes) 0 code bytes object (no_fault_found (members_of bytes).fault (first_with code (members_of bytes).objects) object e)
