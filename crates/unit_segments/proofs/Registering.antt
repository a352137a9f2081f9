-- A log of registers is kept in a map.
use Rattle.std.proofs.Common.{◌≡◌, ℕ, ◌+◌, ◌<◌, ◌≤◌, Bool, true, false, not, cond, ◌&&◌, if◌then◌else◌, List, [], ◌∷◌, ◌++◌, length}
use Rattle.std.proofs.Common.{map, is_some, nat_eq, nat_lt, nat_le, Ok, Err, refl, sym, ap, ◌∙◌, subst, arith}
use Rattle.std.specs.Prelude.{bytes_eq}
use Rattle.std.specs.List.{AllByRecursion, IsDistinct}
use Rattle.std.specs.Map.{lookup, keys_of}
use Rattle.std.specs.Cmp.Lexicographic.{pointwise, same_text}
use Rattle.std.proofs.lemmas.Cmp.{nat_list_eq_equiv}
use Rattle.std.proofs.lemmas.List.{append_assoc, append-nil, length-append, length-map}
use Rattle.indexmap.specs.IndexMap.{insert_entry}
use Rattle.ddm_objects.specs.Objects.{canonical_object}
use Rattle.ddm_codepoints.specs.declared.typdef.TypDef.{TypDef}
use Rattle.ddm_codepoints.specs.CodePoint.{sqlstt}
use Rattle.unit_segments.specs.declared.registers.RegisterFault.TheVariants.{TooMany, TooLong}
use Rattle.unit_segments.specs.Registers.{Register, most_registers, most_text, set_of, key_of, has_key, with_register, with_set}
use Rattle.std.proofs.lemmas.Bool.{leb-false, ltb-false}
use Rattle.unit_segments.specs.Kept.{register_of, registers_of, IsShort, IsKept}

abbrev Entries : Type 0
Entries = List (List ℕ × List ℕ)

-- ---- the objects of the command that sets all again

abbrev pub objects_of : List Register → List (List ℕ)
objects_of log = map (λ register. canonical_object sqlstt register.statement) log

pub objects_on : (done done_now whole : List (List ℕ)) (entry : List ℕ × List ℕ) (entries left : Entries) (shown : List ℕ) →
    done ++ objects_of (registers_of left) ≡ whole → left ≡ entry ∷ entries → shown ≡ canonical_object sqlstt entry.1 →
    done_now ≡ done ++ shown ∷ [] → done_now ++ objects_of (registers_of entries) ≡ whole
objects_on done done_now whole entry entries left shown so_far first is pushed =
    ap (λ (os : List (List ℕ)). os ++ objects_of (registers_of entries)) (pushed ∙ ap (λ (o : List ℕ). done ++ o ∷ []) is)
    ∙ append_assoc done (canonical_object sqlstt entry.1 ∷ []) (objects_of (registers_of entries))
    ∙ ap (λ (es : Entries). done ++ objects_of (registers_of es)) (sym first) ∙ so_far

pub objects_all : (done whole : List (List ℕ)) (left : Entries) → done ++ objects_of (registers_of left) ≡ whole → left ≡ [] → done ≡ whole
objects_all done whole left so_far none =
    sym (append-nil done) ∙ ap (λ (es : Entries). done ++ objects_of (registers_of es)) (sym none) ∙ so_far

-- ---- a register that is set

-- a key is looked up as the log has it
pub key_found : (key : List ℕ) (entries : Entries) → is_some (lookup (pointwise nat_eq key) entries) ≡ has_key key (registers_of entries)
key_found key [] = refl
key_found key (entry ∷ entries) = found_by key entry entries (bytes_eq key entry.0) refl (key_found key entries)
  where
    found_by : (key : List ℕ) (entry : List ℕ × List ℕ) (entries : Entries) (b : Bool) → bytes_eq key entry.0 ≡ b →
        is_some (lookup (pointwise nat_eq key) entries) ≡ has_key key (registers_of entries) →
        is_some (lookup (pointwise nat_eq key) (entry ∷ entries)) ≡ has_key key (registers_of (entry ∷ entries))
    found_by key entry entries true e others = rw e refl
    found_by key entry entries false e others = rw e others

-- what a register becomes where this one is set
abbrev set_again : Register → Register → Register
set_again register other = if bytes_eq register.key other.key then register else other

-- none of these is it
others_stay : (register : Register) (entries : Entries) → AllByRecursion (λ key. pointwise nat_eq register.key key ≡ false) (keys_of entries) →
    map (set_again register) (registers_of entries) ≡ registers_of entries
others_stay register [] all = refl
others_stay register (entry ∷ entries) all =
    let first : set_again register (register_of entry) ≡ register_of entry = rw all.0 refl in
    ap (λ (r : Register). r ∷ map (set_again register) (registers_of entries)) first
    ∙ ap (λ (rs : List Register). register_of entry ∷ rs) (others_stay register entries all.1)

distinct_from : (key : List ℕ) (keys : List (List ℕ)) → IsDistinct (pointwise nat_eq) (key ∷ keys) →
    AllByRecursion (λ other. pointwise nat_eq key other ≡ false) keys × IsDistinct (pointwise nat_eq) keys
unfolding IsDistinct
distinct_from key keys distinct = (distinct.0, distinct.1)

-- one that isn't it stays in front of the others
behind : (register : Register) (entry : List ℕ × List ℕ) (entries : Entries) (there : Bool) → has_key register.key (registers_of entries) ≡ there →
    bytes_eq register.key entry.0 ≡ false →
    register_of entry ∷ with_register register (registers_of entries) ≡ with_register register (registers_of (entry ∷ entries))
behind register entry entries true is e = rw (e, is) refl
behind register entry entries false is e = rw (e, is) refl

-- one that is it takes the statement
in_front : (key value : List ℕ) (entry : List ℕ × List ℕ) (entries : Entries) → bytes_eq key entry.0 ≡ true →
    AllByRecursion (λ other. pointwise nat_eq entry.0 other ≡ false) (keys_of entries) →
    record { key = entry.0; statement = value } ∷ registers_of entries
    ≡ with_register (record { key = key; statement = value }) (registers_of (entry ∷ entries))
in_front key value entry entries e apart =
    let same : key ≡ entry.0 = same_text key entry.0 (sym e) in
    let stay : map (set_again (record { key = key; statement = value })) (registers_of entries) ≡ registers_of entries =
    others_stay (record { key = key; statement = value }) entries
    (subst (λ (k : List ℕ). AllByRecursion (λ other. pointwise nat_eq k other ≡ false) (keys_of entries)) (sym same) apart) in
    let whole : record { key = key; statement = value } ∷ map (set_again (record { key = key; statement = value })) (registers_of entries)
    ≡ with_register (record { key = key; statement = value }) (registers_of (entry ∷ entries)) = rw e refl in
    ap (λ (k : List ℕ). record { key = k; statement = value } ∷ registers_of entries) (sym same)
    ∙ ap (λ (rs : List Register). record { key = key; statement = value } ∷ rs) (sym stay) ∙ whole

inserted_by : (key value : List ℕ) (entry : List ℕ × List ℕ) (entries : Entries) (b : Bool) → bytes_eq key entry.0 ≡ b →
    AllByRecursion (λ other. pointwise nat_eq entry.0 other ≡ false) (keys_of entries) →
    registers_of (insert_entry (pointwise nat_eq) entries key value) ≡ with_register (record { key = key; statement = value }) (registers_of entries) →
    registers_of (insert_entry (pointwise nat_eq) (entry ∷ entries) key value)
    ≡ with_register (record { key = key; statement = value }) (registers_of (entry ∷ entries))
inserted_by key value entry entries true e apart others =
    let step : registers_of (insert_entry (pointwise nat_eq) (entry ∷ entries) key value) ≡ record { key = entry.0; statement = value } ∷ registers_of entries =
    rw e refl in
    step ∙ in_front key value entry entries e apart
inserted_by key value entry entries false e apart others =
    let step : registers_of (insert_entry (pointwise nat_eq) (entry ∷ entries) key value)
    ≡ register_of entry ∷ registers_of (insert_entry (pointwise nat_eq) entries key value) = rw e refl in
    step ∙ ap (λ (rs : List Register). register_of entry ∷ rs) others
    ∙ behind (record { key = key; statement = value }) entry entries (has_key key (registers_of entries)) refl e

-- the entry that a register with this key has takes the statement, or there is one more
inserted : (key value : List ℕ) (entries : Entries) → IsDistinct (pointwise nat_eq) (keys_of entries) →
    registers_of (insert_entry (pointwise nat_eq) entries key value)
    ≡ with_register (record { key = key; statement = value }) (registers_of entries)
inserted key value [] distinct = refl
inserted key value (entry ∷ entries) distinct =
    let parts = distinct_from entry.0 (keys_of entries) distinct in
    inserted_by key value entry entries (bytes_eq key entry.0) refl parts.0 (inserted key value entries parts.1)

short_by : (key value : List ℕ) (entry : List ℕ × List ℕ) (entries : Entries) (b : Bool) → pointwise nat_eq key entry.0 ≡ b →
    AllByRecursion IsShort (entry ∷ entries) → length value ≤ most_text + 10 → AllByRecursion IsShort (insert_entry (pointwise nat_eq) entries key value) →
    AllByRecursion IsShort (insert_entry (pointwise nat_eq) (entry ∷ entries) key value)
short_by key value entry entries true e all short others = rw e (short, all.1)
short_by key value entry entries false e all short others = rw e (all.0, others)

short_inserted : (key value : List ℕ) (entries : Entries) → AllByRecursion IsShort entries → length value ≤ most_text + 10 →
    AllByRecursion IsShort (insert_entry (pointwise nat_eq) entries key value)
short_inserted key value [] all short = (short, tt)
short_inserted key value (entry ∷ entries) all short =
    short_by key value entry entries (pointwise nat_eq key entry.0) refl all short (short_inserted key value entries all.1 short)

-- what the map shows after a statement is put in
pub seen_inserted : (key value shown : List ℕ) (entries entries_now : Entries) (log : List Register) → IsKept entries → registers_of entries ≡ log →
    shown ≡ value → entries_now ≡ insert_entry (pointwise nat_eq) entries key shown →
    registers_of entries_now ≡ with_register (record { key = key; statement = value }) log
seen_inserted key value shown entries entries_now log kept view same is =
    ap registers_of (is ∙ ap (λ (v : List ℕ). insert_entry (pointwise nat_eq) entries key v) same) ∙ inserted key value entries kept.distinct
    ∙ ap (λ (rs : List Register). with_register (record { key = key; statement = value }) rs) view

pub kept_inserted : (key value shown : List ℕ) (entries entries_now : Entries) (log : List Register) → IsKept entries → registers_of entries ≡ log →
    shown ≡ value → entries_now ≡ insert_entry (pointwise nat_eq) entries key shown → IsDistinct (pointwise nat_eq) (keys_of entries_now) →
    length value ≤ most_text + 10 → length (with_register (record { key = key; statement = value }) log) ≤ most_registers → IsKept entries_now
kept_inserted key value shown entries entries_now log kept view same is distinct short room =
    let seen = seen_inserted key value shown entries entries_now log kept view same is in
    let size : length shown ≤ most_text + 10 = omega (arith, ap length same, short) in
    record {
      few = omega (arith, length-map entries_now register_of, ap length seen, room);
      short = subst (λ (es : Entries). AllByRecursion IsShort es) (sym is) (short_inserted key shown entries kept.short size);
      distinct = distinct;
    }

-- ---- a log that is copied

-- a key that stands behind others is none of them
behind_differs : (first key value : List ℕ) (done left : Entries) →
    AllByRecursion (λ other. pointwise nat_eq first other ≡ false) (keys_of (done ++ (key, value) ∷ left)) → pointwise nat_eq key first ≡ false
behind_differs first key value [] left all = nat_list_eq_equiv.symm key first ∙ all.0
behind_differs first key value (entry ∷ done) left all = behind_differs first key value done left all.1

-- the next of entries with distinct keys comes last behind those before it
next_is_last : (key value : List ℕ) (done left : Entries) → IsDistinct (pointwise nat_eq) (keys_of (done ++ (key, value) ∷ left)) →
    insert_entry (pointwise nat_eq) done key value ≡ done ++ (key, value) ∷ []
next_is_last key value [] left distinct = refl
next_is_last key value (entry ∷ done) left distinct =
    let parts = distinct_from entry.0 (keys_of (done ++ (key, value) ∷ left)) distinct in
    let differs : pointwise nat_eq key entry.0 ≡ false = behind_differs entry.0 key value done left parts.0 in
    rw differs (ap (λ (es : Entries). entry ∷ es) (next_is_last key value done left parts.1))

-- what is copied so far and what is left stay the whole
pub copied_on : (done done_now left rest : Entries) (key value key_now value_now : List ℕ) → IsKept (done ++ left) → left ≡ (key, value) ∷ rest →
    key_now ≡ key → value_now ≡ value → done_now ≡ insert_entry (pointwise nat_eq) done key_now value_now → done_now ++ rest ≡ done ++ left
copied_on done done_now left rest key value key_now value_now kept first same_key same_value inserted =
    let kept_first : IsKept (done ++ (key, value) ∷ rest) = subst (λ (es : Entries). IsKept (done ++ es)) first kept in
    let last : done_now ≡ done ++ (key, value) ∷ [] =
    inserted ∙ ap (λ (k : List ℕ). insert_entry (pointwise nat_eq) done k value_now) same_key
    ∙ ap (λ (v : List ℕ). insert_entry (pointwise nat_eq) done key v) same_value ∙ next_is_last key value done rest kept_first.distinct in
    ap (λ (es : Entries). es ++ rest) last ∙ append_assoc done ((key, value) ∷ []) rest ∙ ap (λ (es : Entries). done ++ es) (sym first)

-- ---- which answer a statement has

pub set_is : (typ : TypDef) (log : List Register) (bytes key : List ℕ) (count : ℕ) (too_long full is_set : Bool) →
    too_long ≡ nat_lt most_text (set_of bytes).size → key ≡ key_of typ bytes → count ≡ length log → is_set ≡ has_key key log →
    full ≡ (nat_le most_registers count && not is_set) →
    with_set typ log bytes ≡ cond too_long (Err TooLong) (cond full (Err TooMany) (Ok (with_register (record { key = key; statement = bytes }) log)))
unfolding with_set
set_is typ log bytes key count too_long full is_set long key_is count_is set full_is =
    let full_now : full ≡ (nat_le most_registers (length log) && not (has_key key log)) =
    full_is ∙ ap (λ (n : ℕ). nat_le most_registers n && not is_set) count_is ∙ ap (λ (b : Bool). nat_le most_registers (length log) && not b) set in
    sym (ap (λ (b : Bool). cond b (Err TooLong) (cond full (Err TooMany) (Ok (with_register (record { key = key; statement = bytes }) log)))) long
    ∙ ap (λ (b : Bool). cond (nat_lt most_text (set_of bytes).size) (Err TooLong)
    (cond b (Err TooMany) (Ok (with_register (record { key = key; statement = bytes }) log)))) full_now
    ∙ ap (λ (k : List ℕ). cond (nat_lt most_text (set_of bytes).size) (Err TooLong)
    (cond (nat_le most_registers (length log) && not (has_key k log)) (Err TooMany) (Ok (with_register (record { key = k; statement = bytes }) log)))) key_is)

-- ---- whether there is room

room_by : (register : Register) (log : List Register) (there : Bool) → has_key register.key log ≡ there → length log ≤ most_registers →
    (nat_le most_registers (length log) && not there) ≡ false → length (with_register register log) ≤ most_registers
room_by register log true is few room = rw is (omega (arith, length-map log (set_again register), few))
room_by register log false is few room =
    let less : length log < most_registers = below (nat_le most_registers (length log)) refl room in
    rw is (omega (arith, length-append log (register ∷ []), less))
  where
    below : (b : Bool) → nat_le most_registers (length log) ≡ b → (b && true) ≡ false → length log < most_registers
    below true e isnt = absurd cc
    below false e isnt = leb-false most_registers (length log) e

pub room_for : (register : Register) (log : List Register) (count : ℕ) (is_set full : Bool) → count ≡ length log → count ≤ most_registers →
    is_set ≡ has_key register.key log → full ≡ (nat_le most_registers count && not is_set) → full ≡ false →
    length (with_register register log) ≤ most_registers
room_for register log count is_set full count_is few set full_is isnt =
    let free : (nat_le most_registers (length log) && not (has_key register.key log)) ≡ false =
    sym (full_is ∙ ap (λ (n : ℕ). nat_le most_registers n && not is_set) count_is
    ∙ ap (λ (b : Bool). nat_le most_registers (length log) && not b) set) ∙ isnt in
    room_by register log (has_key register.key log) refl (omega (arith, count_is, few)) free

-- a statement that isn't too long has few bytes
pub set_fits : (bytes : List ℕ) (size : ℕ) (too_long : Bool) → too_long ≡ nat_lt most_text size → too_long ≡ false → length bytes ≤ size + 10 →
    length bytes ≤ most_text + 10
set_fits bytes size too_long is isnt fits = omega (arith, ltb-false most_text size (sym is ∙ isnt), fits)
