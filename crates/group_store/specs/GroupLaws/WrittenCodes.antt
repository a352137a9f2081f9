-- The code point of what is written with one, however long it is.
use Rattle.std.proofs.Common.{◌≡◌, ◌⊎◌, inl, inr, ℕ, ◌-◌, ◌==◌, Bool, true, false, if◌then◌else◌, List, length, nat_le, Result, Ok, Err, ap, sym}
use Rattle.std.proofs.Common.{refl, subst, ◌∙◌}
use Rattle.std.proofs.lemmas.Bool.{cond_both}
use Rattle.byteorder.specs.Endian.{big_number, big_bytes}
use Rattle.ddm_objects.specs.declared.fault.ObjFault.{ObjFault}
use Rattle.ddm_objects.specs.declared.fault.ObjWhy.TheVariants.{Past}
use Rattle.ddm_objects.specs.Objects.{Member, Found, greatest_short, short_object, long_object, canonical_object, fault_at, object_at, to_end}
use Rattle.ddm_objects.specs.Objects.{first_object, only_object}
use Rattle.ddm_objects.proofs.Reading.Read.{object_found}
use Rattle.unit_segments.specs.Command.{code_by, code_of}

abbrev result : Found → Result Found ObjFault
result f = Ok f

ok_is : (x y : Found) → result x ≡ result y → x ≡ y
ok_is x y e = cc

front_code : (size n : ℕ) (r : Result Found ObjFault) → ((f : Found) → r ≡ Ok f → f.object.code ≡ n)
    → (code_by (only_object size r) ≡ n) ⊎ (code_by (only_object size r) ≡ 0)
front_code size n (Ok f) h = cond_both (length f.rest == 0) (Ok f.object) (Err (fault_at (size - length f.rest) Past))
    (λ (o : Result Member ObjFault). (code_by o ≡ n) ⊎ (code_by o ≡ 0)) (λ e. inl (h f refl)) (λ e. inr refl)
front_code size n (Err fault) h = inr refl

either : (b : Bool) (one : Found) (other : Result Found ObjFault) (f : Found) (P : Found → Type 0) → (if b then Ok one else other) ≡ Ok f → P one
    → (other ≡ Ok f → P f) → P f
either true one other f P e p q = subst P (ok_is one f e) p
either false one other f P e p q = q e

first_code : (bytes : List ℕ) (f : Found) → first_object bytes ≡ Ok f → f.object.code ≡ (to_end bytes).object.code
unfolding first_object
first_code bytes f e = either _ (to_end bytes) (object_at 0 bytes) f (λ x. x.object.code ≡ (to_end bytes).object.code) e refl
    (λ is. ap (λ (x : Found). x.object.code) (sym (object_found 0 bytes f is).is))

code_is : (bytes : List ℕ) → (code_of bytes ≡ (to_end bytes).object.code) ⊎ (code_of bytes ≡ 0)
code_is bytes = front_code (length bytes) ((to_end bytes).object.code) (first_object bytes) (first_code bytes)

written_front : (code : ℕ) (bytes : List ℕ) → (to_end (canonical_object code bytes)).object.code ≡ big_number 2 (big_bytes 2 code)
written_front code bytes = cond_both (nat_le (length bytes) greatest_short) (short_object code bytes) (long_object code bytes)
    (λ written. (to_end written).object.code ≡ big_number 2 (big_bytes 2 code)) (λ e. refl) (λ e. refl)

-- it is this one, or there is none
pub code_or : (code : ℕ) (bytes : List ℕ) → big_number 2 (big_bytes 2 code) ≡ code
    → (code_of (canonical_object code bytes) ≡ code) ⊎ (code_of (canonical_object code bytes) ≡ 0)
code_or code bytes e = subst (λ n. (code_of (canonical_object code bytes) ≡ n) ⊎ (code_of (canonical_object code bytes) ≡ 0))
    (written_front code bytes ∙ e) (code_is (canonical_object code bytes))

-- it isn't another one
pub is_no_other : (code other : ℕ) (bytes : List ℕ) → big_number 2 (big_bytes 2 code) ≡ code → (0 == other) ≡ false → (code == other) ≡ false
    → (code_of (canonical_object code bytes) == other) ≡ false
is_no_other code other bytes e none ne = go (code_or code bytes e)
  where
    go : (code_of (canonical_object code bytes) ≡ code) ⊎ (code_of (canonical_object code bytes) ≡ 0) → (code_of (canonical_object code bytes) == other) ≡ false
    go (inl is) = ap (λ n. n == other) is ∙ ne
    go (inr is) = ap (λ n. n == other) is ∙ none
