-- Parameters are written anew without some of them, one after another.
use Rattle.std.proofs.Common.{◌≡◌, ℕ, zero, suc, ◌+◌, ◌-◌, ◌<◌, ◌≤◌, Bool, true, false, List, [], ◌∷◌, ◌++◌, length, take, if◌then◌else◌, Option}
use Rattle.std.proofs.Common.{Some, None, Result, Ok, Err, refl, sym, ap, ◌∙◌, arith}
use Rattle.std.proofs.lemmas.List.{append_assoc, append-nil, length-append, length-take}
use Rattle.ddm_objects.specs.declared.fault.ObjFault.{ObjFault}
use Rattle.ddm_objects.specs.Objects.{Member, Found, object_at}
use Rattle.ddm_objects.specs.Members.{Scan, next_of, next_at, object_of, after_next, past_object}
use Rattle.ddm_objects.specs.Builder.{Building, after_put}
use Rattle.ddm_objects.proofs.Reading.Read.{found_size}
use Rattle.unit_segments.specs.Release.{kept_by, kept_within, kept_members}

-- ---- one of them

abbrev next_is : Result Member ObjFault → Option (Result Member ObjFault)
next_is r = Some r

none_kept : (params : List ℕ) → ((object : Member) → Some (Ok object) ≡ next_at 0 params → ⊥) → (count : ℕ) (dropped : ℕ → Bool) →
    kept_within count dropped params ≡ []
unfolding kept_within
none_kept params none zero dropped = refl
none_kept [] none (suc count) dropped = refl
none_kept (byte ∷ bytes) none (suc count) dropped = by (object_at 0 (byte ∷ bytes)) refl
  where
    by : (r : Result Found ObjFault) → object_at 0 (byte ∷ bytes) ≡ r →
        kept_by dropped (byte ∷ bytes) (object_at 0 (byte ∷ bytes)) (kept_within count dropped) ≡ []
    by (Ok found) is = absurd (none found.object (ap (λ (x : Result Found ObjFault). Some (object_of x)) (sym is)))
    by (Err fault) is = ap (λ (x : Result Found ObjFault). kept_by dropped (byte ∷ bytes) x (kept_within count dropped)) is

-- where no object stands first, nothing is kept
pub none_at_fault : (params : List ℕ) (scan : Scan) (fault : ObjFault) → scan ≡ record { at = 0; left = params } → Some (Err fault) ≡ next_of scan →
    (count : ℕ) (dropped : ℕ → Bool) → kept_within count dropped params ≡ []
none_at_fault params scan fault is e =
    let e_now : Some (Err fault) ≡ next_at 0 params = e ∙ ap next_of is in
    none_kept params (λ object f. differ object fault (f ∙ sym e_now))
  where
    differ : (object : Member) (fault : ObjFault) → next_is (Ok object) ≡ next_is (Err fault) → ⊥
    differ object fault e = absurd cc

pub none_at_end : (params : List ℕ) (scan : Scan) → scan ≡ record { at = 0; left = params } → None ≡ next_of scan →
    (count : ℕ) (dropped : ℕ → Bool) → kept_within count dropped params ≡ []
none_at_end params scan is e =
    let e_now : None ≡ next_at 0 params = e ∙ ap next_of is in
    none_kept params (λ object f. absurd cc)

-- what an object that stands first comes to
pub record StandsFirst (params : List ℕ) (object : Member) (rest : List ℕ) : Type 0 where
  pub kept : (count : ℕ) (dropped : ℕ → Bool) → kept_within (suc count) dropped params
      ≡ (if dropped object.code then [] else take (length params - length rest) params) ++ kept_within count dropped rest
  pub less : length rest < length params

stands_by : (b : ℕ) (bytes : List ℕ) (object : Member) (rest : List ℕ) (r : Result Found ObjFault) → object_at 0 (b ∷ bytes) ≡ r →
    Some (Ok object) ≡ next_at 0 (b ∷ bytes) → rest ≡ (after_next (record { at = 0; left = b ∷ bytes })).left → StandsFirst (b ∷ bytes) object rest
unfolding kept_within
stands_by b bytes object rest (Ok found) is e after =
    let next : Some (Ok object) ≡ Some (object_of (Ok found)) = e ∙ ap (λ (x : Result Found ObjFault). Some (object_of x)) is in
    let same : object ≡ found.object = same_member object found.object next in
    let rest_is : rest ≡ found.rest = after ∙ ap (λ (x : Result Found ObjFault). (past_object 0 (b ∷ bytes) x).left) is in
    let size = found_size 0 (b ∷ bytes) found is in
    record {
      kept = λ count dropped. ap (λ (x : Result Found ObjFault). kept_by dropped (b ∷ bytes) x (kept_within count dropped)) is
          ∙ ap (λ (m : Member). (if dropped m.code then [] else take (length (b ∷ bytes) - length found.rest) (b ∷ bytes))
          ++ kept_within count dropped found.rest)
          (sym same)
          ∙ ap (λ (xs : List ℕ). (if dropped object.code then [] else take (length (b ∷ bytes) - length xs) (b ∷ bytes))
          ++ kept_within count dropped xs)
          (sym rest_is);
      less = omega (arith, size, ap length rest_is);
    }
  where
    same_member : (x y : Member) → next_is (Ok x) ≡ next_is (Ok y) → x ≡ y
    same_member x y e = cc
stands_by b bytes object rest (Err fault) is e after = absurd (fault_isnt object fault (e ∙ ap (λ (x : Result Found ObjFault). Some (object_of x)) is))
  where
    fault_isnt : (object : Member) (fault : ObjFault) → next_is (Ok object) ≡ next_is (Err fault) → ⊥
    fault_isnt object fault e = absurd cc

stands_at : (params : List ℕ) (object : Member) (rest : List ℕ) → Some (Ok object) ≡ next_at 0 params →
    rest ≡ (after_next (record { at = 0; left = params })).left → StandsFirst params object rest
stands_at [] object rest e after = absurd cc
stands_at (b ∷ bytes) object rest e after = stands_by b bytes object rest (object_at 0 (b ∷ bytes)) refl e after

pub stands_first : (params : List ℕ) (scan scan_now : Scan) (object : Member) (rest : List ℕ) → scan ≡ record { at = 0; left = params } →
    Some (Ok object) ≡ next_of scan → scan_now ≡ after_next scan → rest ≡ scan_now.left → StandsFirst params object rest
stands_first params scan scan_now object rest is e after left =
    stands_at params object rest (e ∙ ap next_of is) (left ∙ ap (λ (s : Scan). s.left) (after ∙ ap after_next is))

-- its bytes as they came, and those behind it, are as many as all
pub split_size : (params rest : List ℕ) → length rest < length params →
    length (take (length params - length rest) params) + length rest ≡ length params
split_size params rest less = omega (arith, length-take (length params - length rest) params, less)

-- ---- all of them

-- an object is begun, and the parameters that were kept so far are its data
pub record Rewrites (code : ℕ) (dropped : ℕ → Bool) (params left : List ℕ) (builder : Building) : Type 0 where
  pub done : List ℕ
  pub count : ℕ
  pub enough : length left ≤ count
  pub built : builder ≡ record { written = []; begun = record { code = code; bytes = done } ∷ [] }
  pub same : done ++ kept_within count dropped left ≡ kept_members dropped params
  pub size : length done + length left ≤ length params

kept_or : (code : ℕ) (done spelled : List ℕ) (drop : Bool) → (if drop then record { written = []; begun = record { code = code; bytes = done } ∷ [] }
    else after_put (record { written = []; begun = record { code = code; bytes = done } ∷ [] }) spelled)
    ≡ record { written = []; begun = record { code = code; bytes = done ++ (if drop then [] else spelled) } ∷ [] }
kept_or code done spelled true =
    ap (λ (xs : List ℕ). record { written = []; begun = record { code = code; bytes = xs } ∷ [] }) (sym (append-nil done))
kept_or code done spelled false = refl

-- one parameter more is looked at
pub rewrites_on : (code : ℕ) (dropped : ℕ → Bool) (params left rest spelled : List ℕ) (own : ℕ) (builder builder_now : Building) →
    Rewrites code dropped params left builder →
    ((count : ℕ) (drops : ℕ → Bool) → kept_within (suc count) drops left ≡ (if drops own then [] else spelled) ++ kept_within count drops rest) →
    length spelled + length rest ≡ length left → length rest < length left →
    builder_now ≡ (if dropped own then builder else after_put builder spelled) → Rewrites code dropped params rest builder_now
rewrites_on code dropped params left rest spelled own builder builder_now so_far kept size less is =
    let more : List ℕ = if dropped own then [] else spelled in
    let count : ℕ = so_far.count - 1 in
    let step : suc count ≡ so_far.count = omega (arith, so_far.enough, less) in
    let few : length more ≤ length spelled = if_few (dropped own) spelled in
    record {
      done = so_far.done ++ more;
      count = count;
      enough = omega (arith, so_far.enough, less);
      built = is ∙ ap (λ (b : Building). if dropped own then b else after_put b spelled) so_far.built ∙ kept_or code so_far.done spelled (dropped own);
      same = append_assoc so_far.done more (kept_within count dropped rest)
          ∙ ap (λ (xs : List ℕ). so_far.done ++ xs) (sym (kept count dropped) ∙ ap (λ (n : ℕ). kept_within n dropped left) step) ∙ so_far.same;
      size = omega (arith, length-append so_far.done more, few, size, so_far.size);
    }
  where
    if_few : (drop : Bool) (spelled : List ℕ) → length (if drop then [] else spelled) ≤ length spelled
    if_few true spelled = omega arith
    if_few false spelled = omega arith
