-- SET statements that are told of registers are read as the same, and a session knows by them which register they set.
use Rattle.std.proofs.Common.{◌≡◌, ℕ, zero, suc, ◌+◌, ◌<◌, ◌≤◌, ◌/◌, ◌%◌, ◌==◌, ◌&&◌, Bool, true, false, not, List, [], ◌∷◌, ◌++◌, length, map}
use Rattle.std.proofs.Common.{take, drop}
use Rattle.std.proofs.Common.{Option, Some, None, refl, sym, ap, ◌∙◌, arith, true≢false, eqb-true, nat_lt, nat_le, inl, inr}
use Rattle.std.specs.Prelude.{codes, bytes_eq, is_some, option_and_then}
use Rattle.std.specs.List.{list_all, before_first, prefix_len}
use Rattle.std.proofs.lemmas.Bool.{and_parts, cases_eq, cond_both, cond-true, cond-false, le-ltb, leb-true, eq-eqb}
use Rattle.std.proofs.lemmas.List.{append_assoc, length-append, length-map, take_at, drop_at}
use Rattle.std.proofs.lemmas.Slice.Eq.{bytes_eq-Decides}
use Rattle.byteorder.specs.Endian.{big_number, big_bytes}
use Rattle.byteorder.specs.Numbers.{big_number-reads_back, length-bytes_high_first}
use Rattle.ddm_codepoints.specs.declared.typdef.TypDef.{TypDef}
use Rattle.ddm_codepoints.specs.declared.typdef.TypDef.TheVariants.{Sql370, SqlAsc, SqlX86}
use Rattle.ddm_codepoints.specs.Character.{ebcdic_of, ascii_of}
use Rattle.ddm_codepoints.proofs.WholeTables.{leads_both_ways}
use Rattle.reply_texts.specs.Text.{is_character, code_in, is_character_in, ascii_in, is_text, codes_in, text_in}
use Rattle.unit_segments.specs.Statement.{Statement as SqlText, sized_text, text_of as sized, with_first, statement_of as sql_text_of}
use Rattle.unit_segments.specs.Registers.{equals_sign, or_all, key_of}
use Rattle.member_statements.specs.declared.statement.Statement.{Statement}
use Rattle.member_statements.specs.declared.statement.Statement.TheVariants.{Set}
use Rattle.member_statements.specs.declared.register.Register.{Register}
use Rattle.member_statements.specs.declared.register.Register.TheVariants.{Schema, Degree, Path, Numbered}
use Rattle.member_statements.specs.Register.{IsRegister, decimal, digit, register_name, set_text}
use Rattle.member_statements.specs.Statement.{is_inner, is_inner_text, most_text}
use Rattle.member_statements.specs.Reading.{statement_of}
use Rattle.member_statements.proofs.Spelled.{spelled_is_read}
use Rattle.group_store.specs.Unit.{register_rank}
use Rattle.group_store.specs.Statement.{statement_in}
use Rattle.group_store.specs.Values.{IsSet, set_data}
use Rattle.group_store.specs.GroupLaws.Registers.{Entry, rank, same_register}

-- ---- characters there and back

record IsBack (typ : TypDef) (ascii : ℕ) : Type 0 where
  pub known : is_character_in typ (code_in typ ascii) ≡ true
  pub same : ascii_in typ (code_in typ ascii) ≡ ascii

ebcdic_back : (ascii : ℕ) (found : Option ℕ) → ebcdic_of ascii ≡ found → is_some found ≡ true → IsBack Sql370 ascii
ebcdic_back ascii None e some = absurd (true≢false (sym some))
ebcdic_back ascii (Some code) e some =
    let back : ascii_of code ≡ Some ascii = (leads_both_ways ascii code).0 e in
    record { known = rw (e, back) refl; same = rw (e, back) refl }

character_back : (typ : TypDef) (ascii : ℕ) → is_character ascii ≡ true → IsBack typ ascii
character_back Sql370 ascii known = ebcdic_back ascii (ebcdic_of ascii) refl known
character_back SqlAsc ascii known = record { known = known; same = refl }
character_back SqlX86 ascii known = record { known = known; same = refl }

all_known : (typ : TypDef) (text : List ℕ) → is_text text ≡ true → list_all (is_character_in typ) (codes_in typ text) ≡ true
all_known typ [] known = refl
all_known typ (ascii ∷ text) known =
    let both = and_parts (is_character ascii) (is_text text) known in
    rw ((character_back typ ascii both.0).known) (all_known typ text both.1)

all_same : (typ : TypDef) (text : List ℕ) → is_text text ≡ true → map (ascii_in typ) (codes_in typ text) ≡ text
all_same typ [] known = refl
all_same typ (ascii ∷ text) known =
    let both = and_parts (is_character ascii) (is_text text) known in
    ap (λ a. a ∷ map (ascii_in typ) (codes_in typ text)) (character_back typ ascii both.0).same
    ∙ ap (λ rest. ascii ∷ rest) (all_same typ text both.1)

text_back : (typ : TypDef) (text : List ℕ) → is_text text ≡ true → text_in typ (codes_in typ text) ≡ Some text
text_back typ text known = rw (all_known typ text known) (ap Some (all_same typ text known))

-- ---- parts of a SET statement

all_append : (p : ℕ → Bool) (a b : List ℕ) → list_all p a ≡ true → list_all p b ≡ true → list_all p (a ++ b) ≡ true
all_append p [] b all also = also
all_append p (x ∷ a) b all also = let both = and_parts (p x) (list_all p a) all in rw (both.0) (all_append p a b both.1 also)

all_weaker : (p q : ℕ → Bool) → ((x : ℕ) → p x ≡ true → q x ≡ true) → (xs : List ℕ) → list_all p xs ≡ true → list_all q xs ≡ true
all_weaker p q weaker [] all = refl
all_weaker p q weaker (x ∷ xs) all =
    let both = and_parts (p x) (list_all p xs) all in
    rw (weaker x both.0) (all_weaker p q weaker xs both.1)

-- what stands before the equals sign
abbrev front : Register → List ℕ
front register = codes "SET " ++ register_name register ++ 0x20 ∷ []

abbrev behind : List ℕ → List ℕ
behind value = 0x20 ∷ 0x27 ∷ value ++ codes "'"

regroup : (name value : List ℕ) → codes "SET " ++ name ++ codes " = '" ++ value ++ codes "'" ≡ (codes "SET " ++ name ++ 0x20 ∷ []) ++ 0x3D ∷ behind value
regroup name value = simp append_assoc refl

set_parts : (register : Register) (value : List ℕ) → set_text register value ≡ front register ++ 0x3D ∷ behind value
set_parts register value = regroup (register_name register) value

-- a character that isn't the equals sign, in this type definition
abbrev is_plain : TypDef → ℕ → Bool
is_plain typ ascii = is_character ascii && not (code_in typ ascii == equals_sign typ)

abbrev is_plain_name : TypDef → ℕ → Bool
is_plain_name typ number = list_all (is_plain typ) (front (Numbered number))

abbrev passes_upto : (ℕ → Bool) → ℕ → Bool
passes_upto p zero = true
passes_upto p (suc n) = p n && passes_upto p n

passes_below : (p : ℕ → Bool) (n : ℕ) → passes_upto p n ≡ true → (k : ℕ) → k < n → p k ≡ true
passes_below p zero e k h = absurd (omega (arith, h))
passes_below p (suc n) e k h =
    let both = and_parts (p n) (passes_upto p n) e in
    elim (cases_eq k n) [
      | inl same ↦ rw same both.0
      | inr differ ↦ passes_below p n both.1 k (omega (arith, h, differ))
    ]

names_370 : passes_upto (is_plain_name Sql370) 100 ≡ true
unfolding ebcdic_of
names_370 = refl

names_asc : passes_upto (is_plain_name SqlAsc) 100 ≡ true
unfolding ebcdic_of
names_asc = refl

names_x86 : passes_upto (is_plain_name SqlX86) 100 ≡ true
unfolding ebcdic_of
names_x86 = refl

names_plain : (typ : TypDef) → passes_upto (is_plain_name typ) 100 ≡ true
names_plain Sql370 = names_370
names_plain SqlAsc = names_asc
names_plain SqlX86 = names_x86

schema_plain : (typ : TypDef) → list_all (is_plain typ) (front Schema) ≡ true
unfolding ebcdic_of
schema_plain Sql370 = refl
schema_plain SqlAsc = refl
schema_plain SqlX86 = refl

degree_plain : (typ : TypDef) → list_all (is_plain typ) (front Degree) ≡ true
unfolding ebcdic_of
degree_plain Sql370 = refl
degree_plain SqlAsc = refl
degree_plain SqlX86 = refl

path_plain : (typ : TypDef) → list_all (is_plain typ) (front Path) ≡ true
unfolding ebcdic_of
path_plain Sql370 = refl
path_plain SqlAsc = refl
path_plain SqlX86 = refl

front_plain : (typ : TypDef) (register : Register) → IsRegister register → list_all (is_plain typ) (front register) ≡ true
front_plain typ Schema is = schema_plain typ
front_plain typ Degree is = degree_plain typ
front_plain typ Path is = path_plain typ
front_plain typ (Numbered number) is = passes_below (is_plain_name typ) 100 (names_plain typ) number (omega (arith, is.1))

front_text : (register : Register) → IsRegister register → is_text (front register) ≡ true
front_text register is =
    all_weaker (is_plain SqlAsc) is_character (λ x both. (and_parts (is_character x) (not (code_in SqlAsc x == equals_sign SqlAsc)) both).0)
    (front register) (front_plain SqlAsc register is)

value_text : (value : List ℕ) → is_inner_text value ≡ true → is_text value ≡ true
value_text value is =
    all_weaker is_inner is_character (λ x both. (and_parts (is_some (ebcdic_of x)) (not (x == 0x27)) both).0) value
    (and_parts (nat_le (length value) most_text) (list_all is_inner value) is).1

signs_text : is_text (0x3D ∷ 0x20 ∷ 0x27 ∷ []) ≡ true
unfolding ebcdic_of
signs_text = refl

quote_text : is_text (codes "'") ≡ true
unfolding ebcdic_of
quote_text = refl

set_is_text : (e : Entry) → IsSet e → is_text (set_text e.0 e.1) ≡ true
set_is_text e is =
    ap is_text (set_parts e.0 e.1)
    ∙ all_append is_character (front e.0) (0x3D ∷ behind e.1) (front_text e.0 is.named)
    (all_append is_character (0x3D ∷ 0x20 ∷ 0x27 ∷ []) (e.1 ++ codes "'") signs_text
    (all_append is_character e.1 (codes "'") (value_text e.1 is.value) quote_text))

-- ---- how long it is

decimal_short : (number : ℕ) → length (decimal number) ≤ 2
decimal_short number = cond_both (nat_lt number 10) (digit number ∷ []) (digit (number / 10) ∷ digit (number % 10) ∷ []) (λ xs. length xs ≤ 2)
    (λ e. omega arith) (λ e. omega arith)

name_short : (register : Register) → length (register_name register) ≤ 14
name_short Schema = omega arith
name_short Degree = omega arith
name_short Path = omega arith
name_short (Numbered number) = omega (arith, decimal_short number)

value_short : (value : List ℕ) → is_inner_text value ≡ true → length value ≤ 200
value_short value is = leb-true (length value) most_text (and_parts (nat_le (length value) most_text) (list_all is_inner value) is).0

pub set_short : (e : Entry) → IsSet e → length (set_text e.0 e.1) ≤ 250
set_short e is = omega (
  arith,
  ap length (set_parts e.0 e.1),
  length-append (front e.0) (0x3D ∷ behind e.1),
  length-append (register_name e.0) (0x20 ∷ []),
  length-append e.1 (codes "'"),
  name_short e.0,
  value_short e.1 is.value,
)

pub data_short : (typ : TypDef) (e : Entry) → IsSet e → length (set_data typ e) ≤ 300
data_short typ e is = omega (
  arith,
  length-append (big_bytes 4 (length (set_text e.0 e.1))) (codes_in typ (set_text e.0 e.1) ++ 0xFF ∷ []),
  length-append (codes_in typ (set_text e.0 e.1)) (0xFF ∷ []),
  length-bytes_high_first 4 (length (set_text e.0 e.1)),
  length-map (set_text e.0 e.1) (code_in typ),
  set_short e is,
)

-- ---- the text of its SQLSTT

text_read : (n : ℕ) (text : List ℕ) → length text ≡ n → n ≤ 250
    → sql_text_of (0 ∷ big_bytes 4 n ++ text ++ 0xFF ∷ []) ≡ Some (record { text = text; size = length text + 0 })
unfolding sql_text_of
text_read n text size small =
    let rest : List ℕ = big_bytes 4 n ++ text ++ 0xFF ∷ [] in
    let held : List ℕ = text ++ 0xFF ∷ [] in
    let number : big_number 4 rest ≡ n = big_number-reads_back 4 n held (omega (arith, small)) in
    let first : sized_text rest ≡ Some (record { text = Some text; rest = 0xFF ∷ [] }) =
    cond-false (nat_lt (length rest) 4) None (sized (big_number 4 rest) held)
    (le-ltb (length rest) 4 (omega (arith, length-append (big_bytes 4 n) held, length-bytes_high_first 4 n)))
    ∙ ap (λ k. sized k held) number
    ∙ cond-false (nat_lt (length held) n) None (Some (record { text = Some (take n held); rest = drop n held }))
    (le-ltb (length held) n (omega (arith, length-append text (0xFF ∷ []), size)))
    ∙ ap (λ (xs : List ℕ). Some (record { text = Some xs; rest = drop n held })) (take_at text (0xFF ∷ []) n size)
    ∙ ap (λ (xs : List ℕ). Some (record { text = Some text; rest = xs })) (drop_at text (0xFF ∷ []) n size) in
    ap with_first first

pub set_read : (typ : TypDef) (e : Entry) → IsSet e
    → sql_text_of (set_data typ e) ≡ Some (record { text = codes_in typ (set_text e.0 e.1); size = length (codes_in typ (set_text e.0 e.1)) + 0 })
set_read typ e is =
    text_read (length (set_text e.0 e.1)) (codes_in typ (set_text e.0 e.1)) (length-map (set_text e.0 e.1) (code_in typ)) (set_short e is)

statement_back : (e : Entry) → IsSet e → statement_of (set_text e.0 e.1) ≡ Some (Set e.0 e.1)
statement_back e is = spelled_is_read (set_text e.0 e.1) (Set e.0 e.1) (is.named, is.value, refl)

-- it is read as the same statement
pub read_back : (typ : TypDef) (e : Entry) → IsSet e → statement_in typ (set_data typ e) ≡ Some (Set e.0 e.1)
read_back typ e is =
    ap (λ (o : Option SqlText). option_and_then statement_of (option_and_then (λ (found : SqlText). text_in typ found.text) o)) (set_read typ e is)
    ∙ ap (λ (o : Option (List ℕ)). option_and_then statement_of o) (text_back typ (set_text e.0 e.1) (set_is_text e is))
    ∙ statement_back e is

-- ---- keys

stops_at : (p : ℕ → Bool) (ahead rest : List ℕ) (mark : ℕ) → list_all (λ byte. not (p byte)) ahead ≡ true → p mark ≡ true
    → before_first p (ahead ++ mark ∷ rest) ≡ ahead
stops_at p [] rest mark all is = rw is refl
stops_at p (byte ∷ ahead) rest mark all is =
    let both = and_parts (not (p byte)) (list_all (λ b. not (p b)) ahead) all in
    let count : prefix_len (λ b. not (p b)) (byte ∷ ahead ++ mark ∷ rest) ≡ suc (prefix_len (λ b. not (p b)) (ahead ++ mark ∷ rest)) =
    cond-true (not (p byte)) (1 + prefix_len (λ b. not (p b)) (ahead ++ mark ∷ rest)) 0 both.0 ∙ omega arith in
    ap (λ n. take n (byte ∷ ahead ++ mark ∷ rest)) count ∙ ap (λ (xs : List ℕ). byte ∷ xs) (stops_at p ahead rest mark both.1 is)

map_append : (f : ℕ → ℕ) (a b : List ℕ) → map f (a ++ b) ≡ map f a ++ map f b
map_append f [] b = refl
map_append f (x ∷ a) b = ap (λ (xs : List ℕ). f x ∷ xs) (map_append f a b)

codes_plain : (typ : TypDef) (text : List ℕ) → list_all (is_plain typ) text ≡ true
    → list_all (λ byte. not (byte == equals_sign typ)) (codes_in typ text) ≡ true
codes_plain typ [] all = refl
codes_plain typ (x ∷ text) all =
    let both = and_parts (is_plain typ x) (list_all (is_plain typ) text) all in
    rw ((and_parts (is_character x) (not (code_in typ x == equals_sign typ)) both.0).1) (codes_plain typ text both.1)

equals_coded : (typ : TypDef) → (code_in typ 0x3D == equals_sign typ) ≡ true
unfolding ebcdic_of
equals_coded Sql370 = refl
equals_coded SqlAsc = refl
equals_coded SqlX86 = refl

key_is : (typ : TypDef) (e : Entry) → IsSet e → key_of typ (set_data typ e) ≡ codes_in typ (front e.0)
key_is typ e is =
    ap (λ (o : Option SqlText). before_first (λ byte. byte == equals_sign typ) (or_all (set_data typ e) o).text) (set_read typ e is)
    ∙ ap (λ (xs : List ℕ). before_first (λ byte. byte == equals_sign typ) (codes_in typ xs)) (set_parts e.0 e.1)
    ∙ ap (before_first (λ byte. byte == equals_sign typ)) (map_append (code_in typ) (front e.0) (0x3D ∷ behind e.1))
    ∙ stops_at (λ byte. byte == equals_sign typ) (codes_in typ (front e.0)) (codes_in typ (behind e.1)) (code_in typ 0x3D)
    (codes_plain typ (front e.0) (front_plain typ e.0 is.named)) (equals_coded typ)

abbrev set_register : Option Statement → Register
set_register (Some (Set register value)) = register
set_register _ = Schema

front_alone : (a b : Register) → IsRegister a → IsRegister b → front a ≡ front b → a ≡ b
front_alone a b is also e =
    let none : is_inner_text [] ≡ true = refl in
    ap set_register (sym (statement_back (a, []) (record { named = is; value = none }))
    ∙ ap statement_of (set_parts a [] ∙ ap (λ (xs : List ℕ). xs ++ 0x3D ∷ behind []) e ∙ sym (set_parts b []))
    ∙ statement_back (b, []) (record { named = also; value = none }))

same_bools : (a b : Bool) → (a ≡ true → b ≡ true) → (b ≡ true → a ≡ true) → a ≡ b
same_bools true b to from = sym (to refl)
same_bools false true to from = from refl
same_bools false false to from = refl

-- the keys are the same exactly where the registers are
pub same_keys : (typ : TypDef) (a b : Entry) → IsSet a → IsSet b → bytes_eq (key_of typ (set_data typ a)) (key_of typ (set_data typ b)) ≡ (rank a == rank b)
same_keys typ a b is also = same_bools _ _ to from
  where
    ka : List ℕ
    ka = key_of typ (set_data typ a)

    kb : List ℕ
    kb = key_of typ (set_data typ b)

    fronts : codes_in typ (front a.0) ≡ codes_in typ (front b.0) → front a.0 ≡ front b.0
    fronts e = sym (all_same typ (front a.0) (front_text a.0 is.named)) ∙ ap (map (ascii_in typ)) e ∙ all_same typ (front b.0) (front_text b.0 also.named)

    to : bytes_eq ka kb ≡ true → (rank a == rank b) ≡ true
    to e = eq-eqb (rank a) (rank b) (ap register_rank (front_alone a.0 b.0 is.named also.named
        (fronts (sym (key_is typ a is) ∙ (bytes_eq-Decides ka kb).0 e ∙ key_is typ b also))))

    from : (rank a == rank b) ≡ true → bytes_eq ka kb ≡ true
    from e = (bytes_eq-Decides ka kb).1 (key_is typ a is
        ∙ ap (λ (r : Register). codes_in typ (front r)) (same_register a.0 b.0 (eqb-true (rank a) (rank b) e)) ∙ sym (key_is typ b also))
