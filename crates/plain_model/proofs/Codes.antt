-- A reply that is written anew keeps its code point, and says what it said.
use Rattle.std.proofs.Common.{◌≡◌, ◌⊎◌, inl, inr, ℕ, zero, suc, ◌-◌, ◌≤◌, ◌<◌, ◌==◌, Bool, true, false, if◌then◌else◌, List, []}
use Rattle.std.proofs.Common.{◌∷◌, length, take, nat_le, Result, Ok, Err, ap, sym, refl, subst, ◌∙◌, arith}
use Rattle.std.proofs.Common.{true≢false, eqb-true}
use Rattle.std.proofs.lemmas.Bool.{cond_both}
use Rattle.std.proofs.lemmas.List.{length-append, length-take, length-drop}
use Rattle.dss_frame.specs.declared.dss.Dss.{Dss}
use Rattle.ddm_objects.specs.declared.fault.ObjFault.{ObjFault}
use Rattle.ddm_objects.specs.declared.fault.ObjWhy.TheVariants.{Past}
use Rattle.ddm_objects.specs.Objects.{Member, Found, greatest_short, short_object, long_object, canonical_object, fault_at, object_at, to_end}
use Rattle.ddm_objects.specs.Objects.{first_object, only_object}
use Rattle.ddm_objects.proofs.Reading.Read.{object_found, found_size}
use Rattle.ddm_codepoints.specs.CodePoint.{enduowrm, accrdbrm, secchkrm, sqlcard}
use Rattle.unit_segments.specs.Limit.{most_reply_body}
use Rattle.unit_segments.specs.Command.{code_by, code_of, data_by, data_of}
use Rattle.unit_segments.specs.Release.{kept_by, kept_within, kept_members}
use Rattle.unit_segments.specs.Strip.{is_object_of, has_params, are_members, is_list, is_list_or_release, without_lists}
use Rattle.unit_segments.proofs.Sound.{written_code}
use Rattle.plain_model.proofs.Runs.{and_true}

-- ---- the code point of a body

abbrev result : Found → Result Found ObjFault
result f = Ok f

ok_is : (x y : Found) → result x ≡ result y → x ≡ y
ok_is x y e = cc

front_code : (size n : ℕ) (r : Result Found ObjFault) → ((f : Found) → r ≡ Ok f → f.object.code ≡ n)
    → (code_by (only_object size r) ≡ n) ⊎ (code_by (only_object size r) ≡ 0)
front_code size n (Ok f) h = cond_both (length f.rest == 0) (Ok f.object) (Err (fault_at (size - length f.rest) Past))
    (λ (o : Result Member ObjFault). (code_by o ≡ n) ⊎ (code_by o ≡ 0)) (λ e. inl (h f refl)) (λ e. inr refl)
front_code size n (Err fault) h = inr refl

-- what holds of the one and the other holds of what was found
either : (b : Bool) (one : Found) (other : Result Found ObjFault) (f : Found) (P : Found → Type 0) → (if b then Ok one else other) ≡ Ok f → P one
    → (other ≡ Ok f → P f) → P f
either true one other f P e p q = subst P (ok_is one f e) p
either false one other f P e p q = q e

first_code : (bytes : List ℕ) (f : Found) → first_object bytes ≡ Ok f → f.object.code ≡ (to_end bytes).object.code
unfolding first_object
first_code bytes f e = either _ (to_end bytes) (object_at 0 bytes) f (λ x. x.object.code ≡ (to_end bytes).object.code) e refl
    (λ is. ap (λ (x : Found). x.object.code) (sym (object_found 0 bytes f is).is))

-- it is what stands behind the length, or there is none
code_is : (bytes : List ℕ) → (code_of bytes ≡ (to_end bytes).object.code) ⊎ (code_of bytes ≡ 0)
code_is bytes = front_code (length bytes) ((to_end bytes).object.code) (first_object bytes) (first_code bytes)

enduowrm_front : (params : List ℕ) → (to_end (canonical_object enduowrm params)).object.code ≡ enduowrm
enduowrm_front params = cond_both (nat_le (length params) greatest_short) (short_object enduowrm params) (long_object enduowrm params)
    (λ bytes. (to_end bytes).object.code ≡ enduowrm) (λ e. refl) (λ e. refl)

accrdbrm_front : (params : List ℕ) → (to_end (canonical_object accrdbrm params)).object.code ≡ accrdbrm
accrdbrm_front params = cond_both (nat_le (length params) greatest_short) (short_object accrdbrm params) (long_object accrdbrm params)
    (λ bytes. (to_end bytes).object.code ≡ accrdbrm) (λ e. refl) (λ e. refl)

enduowrm_or : (params : List ℕ) → (code_of (canonical_object enduowrm params) ≡ enduowrm) ⊎ (code_of (canonical_object enduowrm params) ≡ 0)
enduowrm_or params = subst (λ n. (code_of (canonical_object enduowrm params) ≡ n) ⊎ (code_of (canonical_object enduowrm params) ≡ 0))
    (enduowrm_front params) (code_is (canonical_object enduowrm params))

accrdbrm_or : (params : List ℕ) → (code_of (canonical_object accrdbrm params) ≡ accrdbrm) ⊎ (code_of (canonical_object accrdbrm params) ≡ 0)
accrdbrm_or params = subst (λ n. (code_of (canonical_object accrdbrm params) ≡ n) ⊎ (code_of (canonical_object accrdbrm params) ≡ 0))
    (accrdbrm_front params) (code_is (canonical_object accrdbrm params))

-- ---- another message than the two that are written anew

-- it is no message with this code point before and after, or it is the same
pub record IsKept (code : ℕ) (d w : Dss) : Type 0 where
  pub still : is_object_of code w ≡ is_object_of code d
  pub same : is_object_of code w ≡ true → w ≡ d

-- this code point is neither of the two, and one
record IsOther (code : ℕ) : Type 0 where
  pub none : (0 == code) ≡ false
  pub no_enduowrm : (enduowrm == code) ≡ false
  pub no_accrdbrm : (accrdbrm == code) ≡ false

has_code : (n code : ℕ) (d : Dss) → has_params n d ≡ true → (n == code) ≡ false → is_object_of code d ≡ false
has_code n code d e f = ap (λ m. m == code) (eqb-true (code_of d.body) n (and_true (is_object_of n d) (are_members (data_of d.body)) e).0) ∙ f

is_not : (code n m : ℕ) → (0 == code) ≡ false → (n == code) ≡ false → (m ≡ n) ⊎ (m ≡ 0) → (m == code) ≡ false
is_not code n m z ne (inl e) = ap (λ k. k == code) e ∙ ne
is_not code n m z ne (inr e) = ap (λ k. k == code) e ∙ z

no_more : (code : ℕ) (d w : Dss) → is_object_of code d ≡ false → is_object_of code w ≡ false → IsKept code d w
no_more code d w a b = record { still = b ∙ sym a; same = λ e. absurd (true≢false (sym e ∙ b)) }

other_kept : (code : ℕ) → IsOther code → (d : Dss) → IsKept code d (without_lists d)
other_kept code o d =
    cond_both {A = Dss} (has_params enduowrm d) (record d { body = canonical_object enduowrm (kept_members is_list_or_release (data_of d.body)) })
    (if has_params accrdbrm d then record d { body = canonical_object accrdbrm (kept_members is_list (data_of d.body)) } else d) (IsKept code d)
    (λ e. no_more code d (record d { body = canonical_object enduowrm (kept_members is_list_or_release (data_of d.body)) })
    (has_code enduowrm code d e o.no_enduowrm)
    (is_not code enduowrm (code_of (canonical_object enduowrm (kept_members is_list_or_release (data_of d.body)))) o.none o.no_enduowrm
    (enduowrm_or (kept_members is_list_or_release (data_of d.body)))))
    (λ e. cond_both {A = Dss} (has_params accrdbrm d) (record d { body = canonical_object accrdbrm (kept_members is_list (data_of d.body)) }) d (IsKept code d)
    (λ f. no_more code d (record d { body = canonical_object accrdbrm (kept_members is_list (data_of d.body)) })
    (has_code accrdbrm code d f o.no_accrdbrm)
    (is_not code accrdbrm (code_of (canonical_object accrdbrm (kept_members is_list (data_of d.body)))) o.none o.no_accrdbrm
    (accrdbrm_or (kept_members is_list (data_of d.body)))))
    (λ f. record { still = refl; same = λ g. refl }))

pub sqlcard_kept : (d : Dss) → IsKept sqlcard d (without_lists d)
sqlcard_kept d = other_kept sqlcard (record { none = refl; no_enduowrm = refl; no_accrdbrm = refl }) d

pub secchkrm_kept : (d : Dss) → IsKept secchkrm d (without_lists d)
secchkrm_kept d = other_kept secchkrm (record { none = refl; no_enduowrm = refl; no_accrdbrm = refl }) d

-- ---- the two themselves, where they are no longer than a reply may be

none_short : (count : ℕ) (drops : ℕ → Bool) (bytes : List ℕ) → length (kept_within count drops bytes) ≤ length bytes
unfolding kept_within
none_short zero drops bytes = omega arith
none_short (suc count) drops [] = omega arith
none_short (suc count) drops (byte ∷ bytes) = go (none_short count drops) (object_at 0 (byte ∷ bytes)) refl
  where
    front : (b : Bool) (n : ℕ) → length (if b then [] else take n (byte ∷ bytes)) ≤ n
    front true n = omega arith
    front false n = omega (arith, length-take n (byte ∷ bytes))

    go : ((rest : List ℕ) → length (kept_within count drops rest) ≤ length rest) → (r : Result Found ObjFault) → object_at 0 (byte ∷ bytes) ≡ r
        → length (kept_by drops (byte ∷ bytes) r (kept_within count drops)) ≤ length (byte ∷ bytes)
    go less (Ok found) e =
        omega (
          arith,
          length-append (if drops found.object.code then [] else take (length (byte ∷ bytes) - length found.rest) (byte ∷ bytes))
              (kept_within count drops found.rest),
          front (drops found.object.code) (length (byte ∷ bytes) - length found.rest),
          less found.rest,
          found_size 0 (byte ∷ bytes) found e,
        )
    go less (Err fault) e = omega arith

data_short : (bytes : List ℕ) → length (data_of bytes) ≤ length bytes
unfolding first_object
data_short bytes = go (first_object bytes) refl
  where
    found : (f : Found) → first_object bytes ≡ Ok f → length f.object.bytes ≤ length bytes
    found f e = either _ (to_end bytes) (object_at 0 bytes) f (λ x. length x.object.bytes ≤ length bytes) e (omega (arith, length-drop 4 bytes))
        (λ is. omega (arith, found_size 0 bytes f is))

    go : (r : Result Found ObjFault) → first_object bytes ≡ r → length (data_by (only_object (length bytes) r)) ≤ length bytes
    go (Ok f) e = cond_both (length f.rest == 0) (Ok f.object) (Err (fault_at (length bytes - length f.rest) Past))
        (λ (o : Result Member ObjFault). length (data_by o) ≤ length bytes) (λ g. found f e) (λ g. omega arith)
    go (Err fault) e = omega arith

kept_code : (code : ℕ) (drops : ℕ → Bool) (bytes : List ℕ) → code < 65536 → length bytes ≤ most_reply_body
    → code_of (canonical_object code (kept_members drops (data_of bytes))) ≡ code
kept_code code drops bytes small size = written_code (record { code = code; bytes = kept_members drops (data_of bytes) }) (record {
  code = omega (arith, small);
  size = omega (arith, size, data_short bytes, none_short (length (data_of bytes)) drops (data_of bytes));
})

pub enduowrm_still : (d : Dss) → (is_object_of enduowrm d ≡ true → length d.body ≤ most_reply_body)
    → is_object_of enduowrm (without_lists d) ≡ is_object_of enduowrm d
enduowrm_still d size =
    cond_both {A = Dss} (has_params enduowrm d) (record d { body = canonical_object enduowrm (kept_members is_list_or_release (data_of d.body)) })
    (if has_params accrdbrm d then record d { body = canonical_object accrdbrm (kept_members is_list (data_of d.body)) } else d)
    (λ w. is_object_of enduowrm w ≡ is_object_of enduowrm d)
    (λ e. let is = (and_true (is_object_of enduowrm d) (are_members (data_of d.body)) e).0 in
    ap (λ n. n == enduowrm) (kept_code enduowrm is_list_or_release d.body (omega arith) (size is)) ∙ sym is)
    (λ e. cond_both {A = Dss} (has_params accrdbrm d) (record d { body = canonical_object accrdbrm (kept_members is_list (data_of d.body)) }) d
    (λ w. is_object_of enduowrm w ≡ is_object_of enduowrm d)
    (λ f. is_not enduowrm accrdbrm (code_of (canonical_object accrdbrm (kept_members is_list (data_of d.body)))) refl refl
    (accrdbrm_or (kept_members is_list (data_of d.body))) ∙ sym (has_code accrdbrm enduowrm d f refl))
    (λ f. refl))

pub accrdbrm_still : (d : Dss) → (is_object_of accrdbrm d ≡ true → length d.body ≤ most_reply_body)
    → is_object_of accrdbrm (without_lists d) ≡ is_object_of accrdbrm d
accrdbrm_still d size =
    cond_both {A = Dss} (has_params enduowrm d) (record d { body = canonical_object enduowrm (kept_members is_list_or_release (data_of d.body)) })
    (if has_params accrdbrm d then record d { body = canonical_object accrdbrm (kept_members is_list (data_of d.body)) } else d)
    (λ w. is_object_of accrdbrm w ≡ is_object_of accrdbrm d)
    (λ e. is_not accrdbrm enduowrm (code_of (canonical_object enduowrm (kept_members is_list_or_release (data_of d.body)))) refl refl
    (enduowrm_or (kept_members is_list_or_release (data_of d.body))) ∙ sym (has_code enduowrm accrdbrm d e refl))
    (λ e. cond_both {A = Dss} (has_params accrdbrm d) (record d { body = canonical_object accrdbrm (kept_members is_list (data_of d.body)) }) d
    (λ w. is_object_of accrdbrm w ≡ is_object_of accrdbrm d)
    (λ f. let is = (and_true (is_object_of accrdbrm d) (are_members (data_of d.body)) f).0 in
    ap (λ n. n == accrdbrm) (kept_code accrdbrm is_list d.body (omega arith) (size is)) ∙ sym is)
    (λ f. refl))
