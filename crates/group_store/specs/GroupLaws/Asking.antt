-- A command that ends a unit of work asks for release and for SET statements exactly where it is made to.
use Rattle.std.proofs.Common.{◌≡◌, ◌⊎◌, inl, inr, ℕ, ◌-◌, ◌≤◌, ◌==◌, ◌||◌, Bool, true, false, not, if◌then◌else◌, List, [], ◌∷◌}
use Rattle.std.proofs.Common.{◌++◌, length}
use Rattle.std.proofs.Common.{Option, Some, None, Result, Ok, Err, refl, sym, ap, ◌∙◌, subst, arith, true≢false, eqb-true}
use Rattle.std.specs.List.{list_all}
use Rattle.std.proofs.lemmas.Bool.{cond_both, cond-true}
use Rattle.std.proofs.lemmas.List.{append-nil, length-append, length-drop}
use Rattle.ddm_objects.specs.declared.fault.ObjFault.{ObjFault}
use Rattle.ddm_objects.specs.declared.fault.ObjWhy.TheVariants.{Past}
use Rattle.ddm_objects.specs.Objects.{Member, Found, canonical_object, fault_at, extent_at, object_at, to_end, first_object, only_object, outer_of}
use Rattle.ddm_objects.specs.Members.{members_of, first_with}
use Rattle.ddm_objects.proofs.Reading.Read.{found_size}
use Rattle.ddm_objects.proofs.Reading.Spelled.{canonical_outer}
use Rattle.ddm_codepoints.specs.declared.code_class.CodeClass.{CodeClass}
use Rattle.ddm_codepoints.specs.declared.code_class.CodeClass.TheVariants.{Access, Pass, UnitEnd, Object, Reply, Unknown}
use Rattle.ddm_codepoints.specs.CodeClass.{Known, table, known_of, class_or_unknown, class_of}
use Rattle.ddm_codepoints.specs.CodePoint.{rdbcmm, rdbrllbck, rlsconv, rtnsetstt}
use Rattle.ddm_codepoints.specs.Value.{release, return_sets}
use Rattle.ddm_codepoints.proofs.Found.{found_passes}
use Rattle.access_handshake.specs.Parameter.{parameter, data_of as found_data}
use Rattle.unit_segments.specs.declared.command.Command.{Command}
use Rattle.unit_segments.specs.Command.{ends_unit, is_looked_into, code_by, code_of, data_by, data_of, BodyFault, params_fault, body_fault_by, body_fault}
use Rattle.unit_segments.specs.Limit.{most_chain_bytes}
use Rattle.unit_segments.specs.Release.{kept_members, is_asking, asking, asked_body, asked}
use Rattle.unit_segments.specs.Accepts.{is_data}
use Rattle.plain_model.specs.UnitEnd.{unasked}
use Rattle.plain_model.specs.Group.{IsCommand}
use Rattle.group_store.specs.UnitEnd.{asks_release, asks_sets}
use Rattle.group_store.specs.GroupLaws.Members.{Reads, reads_none, reads_first, Kept, kept_reads, parameter_read, first_behind}

-- ---- the two commands that end a unit

abbrev ends_by_these : Known → Bool
ends_by_these known = not (ends_unit known.class) || (known.code == rdbcmm || known.code == rdbrllbck)

these_alone : list_all ends_by_these table ≡ true
these_alone = refl

abbrev found : Known → Option Known
found known = Some known

pub ends_code : (code : ℕ) → ends_unit (class_of code) ≡ true → (code ≡ rdbcmm) ⊎ (code ≡ rdbrllbck)
unfolding class_of
ends_code code ends = go (known_of code) refl ends
  where
    by_code : (known : Known) → known.code ≡ code → (a b : Bool) → (known.code == rdbcmm) ≡ a → (known.code == rdbrllbck) ≡ b → (a || b) ≡ true
        → (code ≡ rdbcmm) ⊎ (code ≡ rdbrllbck)
    by_code known is true b e f some = inl (sym is ∙ eqb-true known.code rdbcmm e)
    by_code known is false true e f some = inr (sym is ∙ eqb-true known.code rdbrllbck f)
    by_code known is false false e f some = absurd (true≢false (sym some))

    not_ends : (b : Bool) (rest : Bool) → (not b || rest) ≡ true → b ≡ true → rest ≡ true
    not_ends true rest e f = e
    not_ends false rest e f = absurd (true≢false (sym f))

    go : (k : Option Known) → known_of code ≡ k → ends_unit (class_or_unknown k) ≡ true → (code ≡ rdbcmm) ⊎ (code ≡ rdbrllbck)
    go None e f = absurd (true≢false (sym f))
    go (Some known) e f =
        let passes = found_passes (λ (k : Known). k.code == code) ends_by_these table known these_alone (sym e) in
        by_code known (eqb-true known.code code passes.0) (known.code == rdbcmm) (known.code == rdbrllbck) refl refl
        (not_ends (ends_unit known.class) (known.code == rdbcmm || known.code == rdbrllbck) passes.1 f)

-- ---- the data of their bodies

end_is_looked_into : (class : CodeClass) → ends_unit class ≡ true → is_looked_into class ≡ true
end_is_looked_into Access is = absurd (true≢false (sym is))
end_is_looked_into Pass is = absurd (true≢false (sym is))
end_is_looked_into UnitEnd is = refl
end_is_looked_into Object is = absurd (true≢false (sym is))
end_is_looked_into Reply is = absurd (true≢false (sym is))
end_is_looked_into Unknown is = absurd (true≢false (sym is))

abbrev is_fine : Option BodyFault → Bool
is_fine None = true
is_fine (Some fault) = false

params_fine : (offset code : ℕ) (params : List ℕ) (fault : Option ObjFault) → params_fault offset code params fault ≡ None → fault ≡ None
params_fine offset code params None e = refl
params_fine offset code params (Some fault) e = absurd (true≢false (sym (ap is_fine e)))

-- they are objects one after another
data_sound : (body : List ℕ) → body_fault body ≡ None → ends_unit (class_of (code_of body)) ≡ true → (members_of (data_of body)).fault ≡ None
unfolding body_fault
data_sound body sound ends = go (outer_of body) sound ends
  where
    go : (r : Result Member ObjFault) → body_fault_by body r ≡ None → ends_unit (class_of (code_by r)) ≡ true → (members_of (data_by r)).fault ≡ None
    go (Ok object) e f =
        params_fine (length body - length object.bytes) object.code object.bytes (members_of object.bytes).fault
        (sym (cond-true (is_looked_into (class_of object.code))
        (params_fault (length body - length object.bytes) object.code object.bytes (members_of object.bytes).fault) None
        (end_is_looked_into (class_of object.code) f)) ∙ e)
    go (Err fault) e f = absurd (true≢false (sym (ap is_fine e)))

abbrev result : Found → Result Found ObjFault
result f = Ok f

ok_is : (x y : Found) → result x ≡ result y → x ≡ y
ok_is x y e = cc

either : (b : Bool) (one : Found) (other : Result Found ObjFault) (f : Found) (P : Found → Type 0) → (if b then Ok one else other) ≡ Ok f → P one
    → (other ≡ Ok f → P f) → P f
either true one other f P e p q = subst P (ok_is one f e) p
either false one other f P e p q = q e

data_short : (bytes : List ℕ) → length (data_of bytes) ≤ length bytes
unfolding first_object
data_short bytes = go (first_object bytes) refl
  where
    found_short : (f : Found) → first_object bytes ≡ Ok f → length f.object.bytes ≤ length bytes
    found_short f e = either _ (to_end bytes) (object_at 0 bytes) f (λ x. length x.object.bytes ≤ length bytes) e (omega (arith, length-drop 4 bytes))
        (λ is. omega (arith, found_size 0 bytes f is))

    go : (r : Result Found ObjFault) → first_object bytes ≡ r → length (data_by (only_object (length bytes) r)) ≤ length bytes
    go (Ok f) e = cond_both (length f.rest == 0) (Ok f.object) (Err (fault_at (length bytes - length f.rest) Past))
        (λ (o : Result Member ObjFault). length (data_by o) ≤ length bytes) (λ g. found_short f e) (λ g. omega arith)
    go (Err fault) e = omega arith

-- ---- what is asked of them

abbrev release_asked : Member
release_asked = record { code = rlsconv; bytes = release ∷ [] }

abbrev sets_asked : Member
sets_asked = record { code = rtnsetstt; bytes = return_sets ∷ [] }

abbrev both_asked : List Member
both_asked = release_asked ∷ sets_asked ∷ []

asking_reads : Reads asking both_asked
unfolding object_at extent_at
asking_reads =
    reads_first (canonical_object rlsconv (release ∷ [])) (canonical_object rtnsetstt (return_sets ∷ []))
    (record { object = release_asked; rest = [] }) (sets_asked ∷ []) refl
    (reads_first (canonical_object rtnsetstt (return_sets ∷ [])) [] (record { object = sets_asked; rest = [] }) [] refl reads_none)

-- a command that ends a unit, and what is kept of its parameters
pub record IsEnd (c : Command) : Type 0 where
  pub ends : ends_unit (class_of c.code) ≡ true
  pub kept : Kept is_asking (data_of c.body) (kept_members is_asking (data_of c.body))
  pub code : (code_of c.body ≡ rdbcmm) ⊎ (code_of c.body ≡ rdbrllbck)
  pub size : length c.body ≤ most_chain_bytes

pub is_end : (c : Command) → IsCommand c → ends_unit (class_of c.code) ≡ true → IsEnd c
is_end c is ends =
    let now : ends_unit (class_of (code_of c.body)) ≡ true = subst (λ n. ends_unit (class_of n) ≡ true) is.code ends in
    record {
      ends = ends;
      kept = kept_reads (length (data_of c.body)) 0 is_asking (data_of c.body) (omega arith) (data_sound c.body is.sound now);
      code = ends_code (code_of c.body) now;
      size = is.size;
    }

written_data : (code : ℕ) (bytes : List ℕ) → (code ≡ rdbcmm) ⊎ (code ≡ rdbrllbck) → length bytes ≤ 16777226 → data_of (canonical_object code bytes) ≡ bytes
written_data code bytes (inl e) size = rw e (ap data_by (canonical_outer (record { code = rdbcmm; bytes = bytes })
    (record { code = omega arith; size = omega (arith, size) })))
written_data code bytes (inr e) size = rw e (ap data_by (canonical_outer (record { code = rdbrllbck; bytes = bytes })
    (record { code = omega arith; size = omega (arith, size) })))

abbrev kept_of : Command → List ℕ
kept_of c = kept_members is_asking (data_of c.body)

asked_data : (c : Command) → IsEnd c → data_of (asked c).body ≡ kept_of c ++ asking
asked_data c is =
    ap (λ (d : Command). data_of d.body) (cond-true (ends_unit (class_of c.code)) (record c { body = asked_body c.body }) c is.ends)
    ∙ written_data (code_of c.body) (kept_of c ++ asking) is.code
    (omega (arith, length-append (kept_of c) asking, is.kept.short, data_short c.body, is.size))

unasked_data : (c : Command) → IsEnd c → data_of (unasked c).body ≡ kept_of c
unasked_data c is =
    ap (λ (d : Command). data_of d.body)
    (cond-true (ends_unit (class_of c.code)) (record c { body = canonical_object (code_of c.body) (kept_of c) }) c is.ends)
    ∙ written_data (code_of c.body) (kept_of c) is.code (omega (arith, is.kept.short, data_short c.body, is.size))

asked_parameter : (c : Command) (code : ℕ) → IsEnd c → is_asking code ≡ true
    → parameter (data_of (asked c).body) code ≡ found_data (Ok (first_with code both_asked))
asked_parameter c code is dropped =
    ap (λ bytes. parameter bytes code) (asked_data c is)
    ∙ parameter_read (kept_of c ++ asking) (is.kept.objects ++ both_asked) code (is.kept.reads asking both_asked asking_reads)
    ∙ ap (λ (o : Option Member). found_data (Ok o)) (first_behind is_asking code is.kept.objects both_asked dropped is.kept.none)

unasked_parameter : (c : Command) (code : ℕ) → IsEnd c → is_asking code ≡ true → parameter (data_of (unasked c).body) code ≡ None
unasked_parameter c code is dropped =
    ap (λ bytes. parameter bytes code) (unasked_data c is ∙ sym (append-nil (kept_of c)))
    ∙ parameter_read (kept_of c ++ []) (is.kept.objects ++ []) code (is.kept.reads [] [] reads_none)
    ∙ ap (λ (o : Option Member). found_data (Ok o)) (first_behind is_asking code is.kept.objects [] dropped is.kept.none)

pub asked_release : (c : Command) → IsEnd c → asks_release (asked c) ≡ true
asked_release c is = ap (is_data (release ∷ [])) (asked_parameter c rlsconv is refl)

pub asked_sets : (c : Command) → IsEnd c → asks_sets (asked c) ≡ true
asked_sets c is = ap (is_data (return_sets ∷ [])) (asked_parameter c rtnsetstt is refl)

pub unasked_release : (c : Command) → IsEnd c → asks_release (unasked c) ≡ false
unasked_release c is = ap (is_data (release ∷ [])) (unasked_parameter c rlsconv is refl)

pub unasked_sets : (c : Command) → IsEnd c → asks_sets (unasked c) ≡ false
unasked_sets c is = ap (is_data (return_sets ∷ [])) (unasked_parameter c rtnsetstt is refl)
