-- The log of a session: what it keeps of the registers that it was told, and which registers it sets again.
use Rattle.std.proofs.Common.{◌≡◌, ◌⊎◌, inl, inr, ℕ, ◌==◌, ◌&&◌, ◌||◌, Bool, true, false, not, if◌then◌else◌, cond, List, [], ◌∷◌, ◌++◌, length}
use Rattle.std.proofs.Common.{map, filter}
use Rattle.std.proofs.Common.{Option, Some, None, Result, Ok, Err, refl, sym, ap, ◌∙◌, arith, true≢false, nat_le, nat_lt}
use Rattle.std.specs.Prelude.{bytes_eq}
use Rattle.std.specs.List.{AllByRecursion, list_any}
use Rattle.std.proofs.lemmas.Bool.{cond_both, cond-true, eq-eqb}
use Rattle.ddm_objects.specs.Objects.{Member, canonical_object}
use Rattle.ddm_objects.proofs.Reading.Spelled.{canonical_outer}
use Rattle.ddm_codepoints.specs.declared.typdef.TypDef.{TypDef}
use Rattle.ddm_codepoints.specs.CodePoint.{sqlstt}
use Rattle.unit_segments.specs.declared.registers.RegisterFault.{RegisterFault}
use Rattle.unit_segments.specs.declared.registers.RegisterFault.TheVariants.{TooMany, TooLong}
use Rattle.unit_segments.specs.Command.{code_by, code_of, data_by, data_of}
use Rattle.unit_segments.specs.Registers.{Register as Logged, most_registers, most_text, set_of, key_of, has_key, with_register, with_set, AfterSets, after_set}
use Rattle.unit_segments.specs.Registers.{with_sets}
use Rattle.member_statements.specs.declared.statement.Statement.{Statement}
use Rattle.member_replies.specs.declared.sql_outcome.SqlOutcome.TheVariants.{Success, NoStatement}
use Rattle.member_replies.specs.Reply.{card_said}
use Rattle.group_store.specs.Unit.{Registers, UnitState, accessed_as}
use Rattle.group_store.specs.Answered.{Answered, says}
use Rattle.group_store.specs.Statement.{is_object_with, data_with}
use Rattle.group_store.specs.Execute.{AfterSets as Set_all, set_by, after_sets, with_value, with_sets as unit_with, excsqlset_answered}
use Rattle.group_store.specs.Store.{with_log}
use Rattle.group_store.specs.Values.{IsSet, set_data, logged}
use Rattle.group_store.specs.GroupLaws.Registers.{Entry, rank, with_values, has_entry, in_place, told_one, told_all}
use Rattle.group_store.specs.GroupLaws.SetTexts.{data_short, read_back, same_keys}

-- ---- what is kept

abbrev log_of : TypDef → Registers → List Logged
log_of typ told = map (logged typ) told

has_same : (typ : TypDef) (entry : Entry) (told : Registers) → IsSet entry → AllByRecursion IsSet told
    → has_key (key_of typ (set_data typ entry)) (log_of typ told) ≡ has_entry entry told
has_same typ entry [] is each = refl
has_same typ entry (other ∷ told) is each =
    ap (λ (b : Bool). b || has_key (key_of typ (set_data typ entry)) (log_of typ told)) (same_keys typ entry other is each.0)
    ∙ ap (λ (b : Bool). (rank entry == rank other) || b) (has_same typ entry told is each.1)

placed_by : (typ : TypDef) (b : Bool) (entry other : Entry) → cond b (logged typ entry) (logged typ other) ≡ logged typ (cond b entry other)
placed_by typ true entry other = refl
placed_by typ false entry other = refl

abbrev in_log : TypDef → Entry → Logged → Logged
in_log typ entry register = if bytes_eq (key_of typ (set_data typ entry)) register.key then logged typ entry else register

placed_same : (typ : TypDef) (entry : Entry) (told : Registers) → IsSet entry → AllByRecursion IsSet told
    → map (in_log typ entry) (log_of typ told) ≡ log_of typ (map (in_place entry) told)
placed_same typ entry [] is each = refl
placed_same typ entry (other ∷ told) is each =
    ap (λ (b : Bool). cond b (logged typ entry) (logged typ other) ∷ map (in_log typ entry) (log_of typ told)) (same_keys typ entry other is each.0)
    ∙ ap (λ (r : Logged). r ∷ map (in_log typ entry) (log_of typ told)) (placed_by typ (rank entry == rank other) entry other)
    ∙ ap (λ (rs : List Logged). logged typ (in_place entry other) ∷ rs) (placed_same typ entry told is each.1)

last_same : (typ : TypDef) (entry : Entry) (told : Registers) → log_of typ told ++ logged typ entry ∷ [] ≡ log_of typ (told ++ entry ∷ [])
last_same typ entry [] = refl
last_same typ entry (other ∷ told) = ap (λ (rs : List Logged). logged typ other ∷ rs) (last_same typ entry told)

told_same : (typ : TypDef) (entry : Entry) (told : Registers) → IsSet entry → AllByRecursion IsSet told
    → with_register (logged typ entry) (log_of typ told) ≡ log_of typ (told_one entry told)
told_same typ entry told is each =
    ap (λ (b : Bool). cond b (map (in_log typ entry) (log_of typ told)) (log_of typ told ++ logged typ entry ∷ [])) (has_same typ entry told is each)
    ∙ go (has_entry entry told)
  where
    go : (b : Bool) → cond b (map (in_log typ entry) (log_of typ told)) (log_of typ told ++ logged typ entry ∷ [])
        ≡ log_of typ (cond b (map (in_place entry) told) (told ++ entry ∷ []))
    go true = placed_same typ entry told is each
    go false = last_same typ entry told

-- a statement that the log takes
taken : (typ : TypDef) (log : List Logged) (bytes : List ℕ)
    → (with_set typ log bytes ≡ Ok (with_register (record { key = key_of typ bytes; statement = bytes }) log)) ⊎ ((fault : RegisterFault) ×
    (with_set typ log bytes ≡ Err fault))
unfolding with_set
taken typ log bytes = cond_both (nat_lt most_text (set_of bytes).size) (Err TooLong) others
    (λ (r : Result (List Logged) RegisterFault). (r ≡ Ok added) ⊎ ((fault : RegisterFault) × (r ≡ Err fault)))
    (λ e. inr (TooLong, refl))
    (λ e. cond_both (nat_le most_registers (length log) && not (has_key (key_of typ bytes) log)) (Err TooMany) (Ok added)
    (λ (r : Result (List Logged) RegisterFault). (r ≡ Ok added) ⊎ ((fault : RegisterFault) × (r ≡ Err fault)))
    (λ f. inr (TooMany, refl)) (λ f. inl refl))
  where
    added : List Logged
    added = with_register (record { key = key_of typ bytes; statement = bytes }) log

    others : Result (List Logged) RegisterFault
    others = if nat_le most_registers (length log) && not (has_key (key_of typ bytes) log) then Err TooMany else Ok added

abbrev is_faultless : Option RegisterFault → Bool
is_faultless None = true
is_faultless (Some fault) = false

-- each entry is in the list that each of the others is in
abbrev AllSet : Registers → Type 0
AllSet registers = AllByRecursion IsSet registers

one_each : (entry : Entry) (told : Registers) → IsSet entry → AllSet told → AllSet (told_one entry told)
one_each entry told is each = cond_both (has_entry entry told) (map (in_place entry) told) (told ++ entry ∷ []) AllSet
    (λ e. places told each) (λ e. last told each)
  where
    places : (told : Registers) → AllSet told → AllSet (map (in_place entry) told)
    places [] each = tt
    places (other ∷ told) each =
        (cond_both (rank entry == rank other) entry other IsSet (λ e. is) (λ e. each.0), places told each.1)

    last : (told : Registers) → AllSet told → AllSet (told ++ entry ∷ [])
    last [] each = (is, tt)
    last (other ∷ told) each = (each.0, last told each.1)

-- the log after all of these, if it takes them
pub log_after : (typ : TypDef) (entries told : Registers) → AllSet entries → AllSet told
    → (with_sets typ (map (set_data typ) entries) (log_of typ told)).fault ≡ None
    → (with_sets typ (map (set_data typ) entries) (log_of typ told)).log ≡ log_of typ (told_all entries told)
unfolding with_sets
log_after typ [] told each also none = refl
log_after typ (entry ∷ entries) told each also none =
    go (taken typ (log_of typ told) (set_data typ entry))
    (log_after typ entries (told_one entry told) each.1 (one_each entry told each.0 also))
  where
    rest : List Logged → AfterSets
    rest = with_sets typ (map (set_data typ) entries)

    now : Result (List Logged) RegisterFault
    now = with_set typ (log_of typ told) (set_data typ entry)

    go : (now ≡ Ok (with_register (logged typ entry) (log_of typ told))) ⊎ ((fault : RegisterFault) × (now ≡ Err fault))
        → ((rest (log_of typ (told_one entry told))).fault ≡ None
        → (rest (log_of typ (told_one entry told))).log ≡ log_of typ (told_all (entry ∷ entries) told))
        → (after_set (log_of typ told) now rest).log ≡ log_of typ (told_all (entry ∷ entries) told)
    go (inl e) others =
        let is : after_set (log_of typ told) now rest ≡ rest (log_of typ (told_one entry told)) =
        ap (λ (r : Result (List Logged) RegisterFault). after_set (log_of typ told) r rest) e ∙ ap rest (told_same typ entry told each.0 also) in
        ap (λ (a : AfterSets). a.log) is ∙ others (sym (ap (λ (a : AfterSets). a.fault) is) ∙ none)
    go (inr p) others =
        absurd (true≢false (sym (ap is_faultless (sym (ap (λ (r : Result (List Logged) RegisterFault). (after_set
        (log_of typ told) r rest).fault) p.1) ∙ none))))

-- ---- what is set again

object_of_set : (typ : TypDef) (entry : Entry) → IsSet entry
    → (code_of (canonical_object sqlstt (set_data typ entry)) ≡ sqlstt) × (data_of (canonical_object sqlstt (set_data typ entry)) ≡ set_data typ entry)
object_of_set typ entry is =
    let object : Member = record { code = sqlstt; bytes = set_data typ entry } in
    let outer = canonical_outer object (record { code = omega arith; size = omega (arith, data_short typ entry is) }) in
    (ap code_by outer, ap data_by outer)

abbrev objects_of : TypDef → Registers → List (List ℕ)
objects_of typ told = map (λ (register : Logged). canonical_object sqlstt register.statement) (log_of typ told)

is_one : (typ : TypDef) (entry : Entry) → IsSet entry → is_object_with sqlstt (canonical_object sqlstt (set_data typ entry)) ≡ true
is_one typ entry is = eq-eqb (code_of (canonical_object sqlstt (set_data typ entry))) sqlstt (object_of_set typ entry is).0

data_again : (typ : TypDef) (told : Registers) → AllSet told → data_with sqlstt (objects_of typ told) ≡ map (set_data typ) told
data_again typ [] each = refl
data_again typ (entry ∷ told) each =
    ap (map data_of) (cond-true (is_object_with sqlstt (canonical_object sqlstt (set_data typ entry)))
    (canonical_object sqlstt (set_data typ entry) ∷ filter (is_object_with sqlstt) (objects_of typ told)) (filter (is_object_with sqlstt) (objects_of typ told))
    (is_one typ entry each.0))
    ∙ ap (λ (xs : List ℕ). xs ∷ data_with sqlstt (objects_of typ told)) (object_of_set typ entry each.0).1
    ∙ ap (λ (xs : List (List ℕ)). set_data typ entry ∷ xs) (data_again typ told each.1)

after_again : (typ : TypDef) (told registers : Registers) → AllSet told
    → after_sets typ (map (set_data typ) told) registers ≡ record { registers = with_values told registers; outcome = Success }
after_again typ [] registers each = refl
after_again typ (entry ∷ told) registers each =
    ap (λ (o : Option Statement). set_by o registers (after_sets typ (map (set_data typ) told))) (read_back typ entry each.0)
    ∙ after_again typ told (with_value entry.0 entry.1 registers) each.1

-- the unit to which the command leads that sets them again
pub set_again_is : (user : List ℕ) (typ : TypDef) (told : Registers) → AllSet told
    → with_log (accessed_as user typ) (log_of typ told) ≡ record (accessed_as user typ) { registers = with_values told [] }
unfolding excsqlset_answered
set_again_is user typ [] each = refl
set_again_is user typ (entry ∷ told) each =
    let u : UnitState = accessed_as user typ in
    ap (λ (a : Answered). a.unit) (cond-true (list_any (is_object_with sqlstt) (objects_of typ (entry ∷ told)))
    (unit_with u (after_sets typ (data_with sqlstt (objects_of typ (entry ∷ told))) [])) (says u (card_said NoStatement))
    (ap (λ (b : Bool). b || list_any (is_object_with sqlstt) (objects_of typ told)) (is_one typ entry each.0)))
    ∙ ap (λ (sets : List (List ℕ)). (unit_with u (after_sets typ sets [])).unit) (data_again typ (entry ∷ told) each)
    ∙ ap (λ (a : Set_all). (unit_with u a).unit) (after_again typ (entry ∷ told) [] each)
