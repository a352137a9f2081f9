-- A search among members, one object after another.
use Rattle.std.proofs.Common.{◌≡◌, ℕ, ◌+◌, ◌≤◌, List, [], ◌∷◌, length, Option, Some, None, Result, Ok, Err, option_map, refl, sym, ap, subst, ◌∙◌}
use Rattle.std.proofs.Common.{inl, inr, ◌⊎◌, arith}
use Rattle.std.specs.Prelude.{IfSome}
use Rattle.std.specs.Option.{option_or}
use Rattle.ddm_objects.specs.declared.fault.ObjFault.{ObjFault}
use Rattle.ddm_objects.specs.declared.object.Object.{Object}
use Rattle.ddm_objects.specs.Objects.{Member}
use Rattle.ddm_objects.specs.Members.{Members, Scan, members_of, first_with, next_of, after_next}
use Rattle.ddm_objects.specs.Seen.{seen, seen_result}
use Rattle.ddm_objects.proofs.Reading.Read.{members_left, steps, stops, ends, first_then}

-- the object lies within this many bytes
abbrev pub LiesWithin : ℕ → Object → Type 0
LiesWithin size object = length object.bytes.now + 4 ≤ size

-- what is kept over the objects of a scan
pub record Searches (bytes : List ℕ) (code : ℕ) (scan : Scan) (found : Option Object) : Type 0 where
  pub fault : (members_left scan).fault ≡ (members_of bytes).fault
  pub first : option_or (option_map seen found) (first_with code (members_left scan).objects) ≡ first_with code (members_of bytes).objects
  pub within : IfSome found (LiesWithin (length bytes))
  pub left : length scan.left ≤ length bytes

-- the answer of a scan where an object was read
pub is_next : (scan : Scan) (next : Result Object ObjFault) (object : Object) → next ≡ Ok object → Some (seen_result next) ≡ next_of scan →
    Some (Ok (seen object)) ≡ next_of scan
is_next scan next object is e = ap (λ (r : Result Object ObjFault). Some (seen_result r)) (sym is) ∙ e

-- the members have the fault that the scan met
pub has_fault : (bytes : List ℕ) (code : ℕ) (scan : Scan) (found : Option Object) (next : Result Object ObjFault) (fault : ObjFault) →
    Searches bytes code scan found → next ≡ Err fault → Some (seen_result next) ≡ next_of scan → (members_of bytes).fault ≡ Some fault
has_fault bytes code scan found next fault so_far is e =
    sym so_far.fault ∙ stops scan fault (ap (λ (r : Result Object ObjFault). Some (seen_result r)) (sym is) ∙ e)

first_within : (size : ℕ) (first found : Option Object) (object : Object) → IfSome first (λ x. (found ≡ Some x) ⊎ (x ≡ object)) →
    IfSome found (LiesWithin size) → LiesWithin size object → IfSome first (LiesWithin size)
first_within size None found object either old new = tt
first_within size (Some x) found object (inl e) old new = subst (λ (o : Option Object). IfSome o (LiesWithin size)) e old
first_within size (Some x) found object (inr e) old new = subst (λ (o : Object). LiesWithin size o) (sym e) new

pub searches_on : (bytes : List ℕ) (code : ℕ) (scan scan_now : Scan) (found first : Option Object) (object : Object) → Searches bytes code scan found →
    Some (Ok (seen object)) ≡ next_of scan → scan_now ≡ after_next scan →
    option_map seen first ≡ option_or (option_map seen found) (first_with code (seen object ∷ [])) → IfSome first (λ x. (found ≡ Some x) ⊎ (x ≡ object)) →
    Searches bytes code scan_now first
searches_on bytes code scan scan_now found first object so_far e after is either =
    let step = steps scan (seen object) e in
    let size : length scan_now.left ≡ length (after_next scan).left = ap (λ (s : Scan). length s.left) after in
    record {
      fault = ap (λ (s : Scan). (members_left s).fault) after ∙ sym (ap (λ (m : Members). m.fault) step.members) ∙ so_far.fault;
      first = ap (λ (f : Option Member). option_or f (first_with code (members_left scan_now).objects)) is
          ∙ ap (λ (s : Scan). option_or (option_or (option_map seen found) (first_with code (seen object ∷ [])))
          (first_with code (members_left s).objects)) after
          ∙ first_then (option_map seen found) code (seen object) (members_left (after_next scan)).objects
          ∙ ap (λ (m : Members). option_or (option_map seen found) (first_with code m.objects)) (sym step.members) ∙ so_far.first;
      within = first_within (length bytes) first found object either so_far.within (omega (arith, step.smaller, so_far.left));
      left = omega (arith, step.smaller, so_far.left, size);
    }

-- at the end of the scan the members have no fault
pub has_no_fault : (bytes : List ℕ) (code : ℕ) (scan : Scan) (found : Option Object) → Searches bytes code scan found → None ≡ next_of scan →
    (members_of bytes).fault ≡ None
has_no_fault bytes code scan found so_far e = sym so_far.fault ∙ ap (λ (m : Members). m.fault) (ends scan e)

or_none : (o : Option Member) → option_or o None ≡ o
or_none None = refl
or_none (Some x) = refl

-- and what was found is the first of them all
pub all_searched : (bytes : List ℕ) (code : ℕ) (scan : Scan) (found : Option Object) → Searches bytes code scan found → None ≡ next_of scan →
    first_with code (members_of bytes).objects ≡ option_map seen found
all_searched bytes code scan found so_far e =
    sym so_far.first ∙ ap (λ (m : Members). option_or (option_map seen found) (first_with code m.objects)) (ends scan e) ∙ or_none (option_map seen found)
