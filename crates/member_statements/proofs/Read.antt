-- What is read as a statement spells it.
use Rattle.std.specs.Prelude.{ℕ, ◌≡◌, ◌+◌, ◌/◌, ◌%◌, ◌<◌, ◌==◌, ◌≤◌, ◌&&◌, Bool, true, false, if◌then◌else◌, List, [], ◌∷◌, ◌++◌, codes, length, take}
use Rattle.std.specs.Prelude.{drop, IsTrue, bytes_eq}
use Rattle.std.specs.Prelude.{Option, Some, None, option_and_then, unwrap_or}
use Rattle.std.proofs.Common.{arith, refl, sym, ap, subst, ◌∙◌, append_assoc}
use Rattle.std.proofs.Math.ListN.{take-append-drop}
use Rattle.std.proofs.lemmas.Slice.Eq.{bytes_eq-Decides}
use Rattle.member_statements.specs.declared.statement.Statement.{Statement}
use Rattle.member_statements.specs.declared.statement.Statement.TheVariants.{Insert, Update, Delete, Set, Select}
use Rattle.member_statements.specs.declared.register.Register.{Register}
use Rattle.member_statements.specs.declared.register.Register.TheVariants.{Schema, Degree, Path, Numbered}
use Rattle.member_statements.specs.Register.{IsRegister, register_name, decimal, digit}
use Rattle.member_statements.specs.Statement.{is_key, number_of, is_inner_text, quote, SpellsKey, insert_text, select_text, Spells}
use Rattle.member_statements.specs.Reading.{after, ahead_of, between, place_of, comma, equals, insert_of, some_insert, some_update, update_of}
use Rattle.member_statements.specs.Reading.{delete_of, is_register_number, numbered_of, register_of, set_by, some_set, set_of, by_form, statement_of}
use Rattle.member_statements.proofs.Parts.{after_splits, ahead_of_splits, between_splits}

-- a form is read where its first words stand, and the others elsewhere
pub by_form_cases : (front bytes : List ℕ) (form : List ℕ → Option Statement) (others : Option Statement) (statement : Statement)
    → by_form (after front bytes) form others ≡ Some statement → (P : Type 0)
    → ((rest : List ℕ) → bytes ≡ front ++ rest → form rest ≡ Some statement → P) → (others ≡ Some statement → P) → P
by_form_cases front bytes form others statement is P here elsewhere = split (after front bytes) refl is where
  split : (rest : Option (List ℕ)) → after front bytes ≡ rest → by_form rest form others ≡ Some statement → P
  split None was read = elsewhere read
  split (Some rest) was read = here rest (after_splits front bytes rest was) read

-- what a choice by two tests gives
pub chosen : (a b : Bool) (value statement : Statement) (P : Statement → Type 0)
    → (if a && b then Some value else None) ≡ Some statement → (IsTrue a → IsTrue b → P value) → P statement
chosen true true value statement P is holds = subst P (ap (λ o. unwrap_or o value) is) (holds refl refl)
chosen true false value statement P is holds = absurd (grind (arith, is))
chosen false b value statement P is holds = absurd (grind (arith, is))

-- ---- each form

pub regroup_two : (a b c d : List ℕ) → a ++ (b ++ (c ++ d)) ≡ a ++ b ++ c ++ d
regroup_two a b c d = simp append_assoc refl

pub regroup_three : (a b c d e : List ℕ) → a ++ (b ++ (c ++ d ++ e)) ≡ a ++ b ++ c ++ d ++ e
regroup_three a b c d e = simp append_assoc refl

insert_spelled : (bytes rest : List ℕ) (statement : Statement) → bytes ≡ codes "INSERT INTO T VALUES (" ++ rest
    → insert_of rest ≡ Some statement → Spells bytes statement
unfolding insert_of
insert_spelled bytes rest statement front is =
    parts (between (codes ", '") (codes "')") (drop (place_of comma rest) rest)) refl is where
      parts : (text : Option (List ℕ)) → between (codes ", '") (codes "')") (drop (place_of comma rest) rest) ≡ text
          → option_and_then (some_insert (take (place_of comma rest) rest)) text ≡ Some statement → Spells bytes statement
      parts None was read = absurd (grind (arith, read))
      parts (Some text) was read =
          chosen (is_key (take (place_of comma rest) rest)) (is_inner_text text) (Insert (number_of (take (place_of comma rest) rest)) text)
          statement (Spells bytes) read
          (λ key inner. (
            take (place_of comma rest) rest,
            record { some = key; value = refl },
            inner,
            front ∙ ap (λ r. codes "INSERT INTO T VALUES (" ++ r) (sym (take-append-drop (place_of comma rest) rest)
                ∙ ap (λ back. take (place_of comma rest) rest ++ back) (between_splits (codes ", '") (codes "')") (drop (place_of comma rest) rest) text was))
                ∙ regroup_three (codes "INSERT INTO T VALUES (") (take (place_of comma rest) rest) (codes ", '") text (codes "')"),
          ))

update_spelled : (bytes rest : List ℕ) (statement : Statement) → bytes ≡ codes "UPDATE T SET V = '" ++ rest
    → update_of rest ≡ Some statement → Spells bytes statement
unfolding update_of
update_spelled bytes rest statement front is =
    parts (after (codes "' WHERE K = ") (drop (place_of quote rest) rest)) refl is where
      parts : (digits : Option (List ℕ)) → after (codes "' WHERE K = ") (drop (place_of quote rest) rest) ≡ digits
          → option_and_then (some_update (take (place_of quote rest) rest)) digits ≡ Some statement → Spells bytes statement
      parts None was read = absurd (grind (arith, read))
      parts (Some digits) was read =
          chosen (is_key digits) (is_inner_text (take (place_of quote rest) rest)) (Update (number_of digits) (take (place_of quote rest) rest))
          statement (Spells bytes) read
          (λ key inner. (
            digits,
            record { some = key; value = refl },
            inner,
            front ∙ ap (λ r. codes "UPDATE T SET V = '" ++ r) (sym (take-append-drop (place_of quote rest) rest)
                ∙ ap (λ back. take (place_of quote rest) rest ++ back) (after_splits (codes "' WHERE K = ") (drop (place_of quote rest) rest) digits was))
                ∙ regroup_two (codes "UPDATE T SET V = '") (take (place_of quote rest) rest) (codes "' WHERE K = ") digits,
          ))

-- what a choice by one test gives
pub chosen_by : {X : Type 0} (a : Bool) (value : X) (others : Option X) (found : X) (P : X → Type 0)
    → (if a then Some value else others) ≡ Some found → (IsTrue a → P value) → (others ≡ Some found → P found) → P found
chosen_by true value others found P is here elsewhere = subst P (ap (λ o. unwrap_or o value) is) (here refl)
chosen_by false value others found P is here elsewhere = elsewhere is

delete_spelled : (bytes digits : List ℕ) (statement : Statement) → bytes ≡ codes "DELETE FROM T WHERE K = " ++ digits
    → delete_of digits ≡ Some statement → Spells bytes statement
unfolding delete_of
delete_spelled bytes digits statement front is =
    chosen_by (is_key digits) (Delete (number_of digits)) None statement (Spells bytes) is
    (λ key. (digits, record { some = key; value = refl }, front)) (λ impossible. absurd (grind (arith, impossible)))

-- ---- registers

-- a register has this name
abbrev IsNamed : List ℕ → Register → Type 0
IsNamed name register = IsRegister register × (name ≡ register_name register)

same_bytes : (bytes others : List ℕ) → IsTrue (bytes_eq bytes others) → bytes ≡ others
same_bytes bytes others same = (bytes_eq-Decides bytes others).0 same

decimal_one : (n d : ℕ) → n < 10 → 48 + n ≡ d → d ∷ [] ≡ decimal n
decimal_one n d few is = grind (arith, few, is)

decimal_two : (n t o : ℕ) → 10 ≤ n → 48 + n / 10 ≡ t → 48 + n % 10 ≡ o → t ∷ o ∷ [] ≡ decimal n
decimal_two n t o many tens ones = grind (arith, many, tens, ones)

one_digit : (d : ℕ) → 49 ≤ d → d ≤ 57 → IsNamed (codes "R" ++ d ∷ []) (Numbered (number_of (d ∷ [])))
one_digit d low high = (
  (omega (arith, low), omega (arith, high)),
  ap (λ digits. codes "R" ++ digits) (decimal_one (number_of (d ∷ [])) d (omega (arith, high)) (omega (arith, low))),
)

two_digits : (t o : ℕ) → 49 ≤ t → t ≤ 57 → 48 ≤ o → o ≤ 57 → IsNamed (codes "R" ++ t ∷ o ∷ []) (Numbered (number_of (t ∷ o ∷ [])))
two_digits t o low high least most = (
  (omega (arith, low), omega (arith, high, most)),
  ap (λ digits. codes "R" ++ digits)
      (decimal_two (number_of (t ∷ o ∷ [])) t o (omega (arith, low)) (omega (arith, low, high, least, most)) (omega (arith, low, high, least, most))),
)

number_named : (digits : List ℕ) → IsTrue (is_register_number digits) → IsNamed (codes "R" ++ digits) (Numbered (number_of digits))
number_named [] is = absurd (grind (arith, is))
number_named (d ∷ []) is = one_digit d (grind (arith, is)) (grind (arith, is))
number_named (t ∷ o ∷ []) is = two_digits t o (grind (arith, is)) (grind (arith, is)) (grind (arith, is)) (grind (arith, is))
number_named (t ∷ o ∷ x ∷ digits) is = absurd (grind (arith, is))

named : (name : List ℕ) (register : Register) → register_of name ≡ Some register → IsNamed name register
named name register is =
    chosen_by (bytes_eq name (codes "CURRENT SCHEMA")) Schema _ register (IsNamed name) is (λ same. (tt, same_bytes _ _ same))
    (λ is. chosen_by (bytes_eq name (codes "CURRENT DEGREE")) Degree _ register (IsNamed name) is (λ same. (tt, same_bytes _ _ same))
    (λ is. chosen_by (bytes_eq name (codes "CURRENT PATH")) Path _ register (IsNamed name) is (λ same. (tt, same_bytes _ _ same))
    (λ is. numbered (after (codes "R") name) refl is))) where
      numbered : (digits : Option (List ℕ)) → after (codes "R") name ≡ digits → option_and_then numbered_of digits ≡ Some register
          → IsNamed name register
      numbered None was read = absurd (grind (arith, read))
      numbered (Some digits) was read =
          chosen_by (is_register_number digits) (Numbered (number_of digits)) None register (IsNamed name) read
          (λ number. subst (λ n. IsNamed n (Numbered (number_of digits))) (sym (after_splits (codes "R") name digits was)) (number_named digits number))
          (λ impossible. absurd (grind (arith, impossible)))

pub regroup_set : (a name ahead behind value e : List ℕ)
    → a ++ ((name ++ ahead) ++ (behind ++ value ++ e)) ≡ a ++ name ++ (ahead ++ behind) ++ value ++ e
regroup_set a name ahead behind value e = simp append_assoc refl

set_spelled : (bytes rest : List ℕ) (statement : Statement) → bytes ≡ codes "SET " ++ rest
    → set_of rest ≡ Some statement → Spells bytes statement
unfolding set_of
set_spelled bytes rest statement front is =
    valued (between (codes "= '") (codes "'") (drop (place_of equals rest) rest)) refl is where
      spelled : (name value : List ℕ) (register : Register) → IsNamed name register → IsTrue (is_inner_text value)
          → take (place_of equals rest) rest ≡ name ++ codes " "
          → drop (place_of equals rest) rest ≡ codes "= '" ++ value ++ codes "'" → Spells bytes (Set register value)
      spelled name value register has inner ahead behind = (
        has.0,
        inner,
        front ∙ ap (λ r. codes "SET " ++ r) (sym (take-append-drop (place_of equals rest) rest)
            ∙ ap (λ t. t ++ drop (place_of equals rest) rest) ahead
            ∙ ap (λ d. (name ++ codes " ") ++ d) behind
            ∙ ap (λ n. (n ++ codes " ") ++ (codes "= '" ++ value ++ codes "'")) has.1)
            ∙ regroup_set (codes "SET ") (register_name register) (codes " ") (codes "= '") value (codes "'"),
      )

      with_register : (name value : List ℕ) (register : Option Register) → register_of name ≡ register
          → take (place_of equals rest) rest ≡ name ++ codes " "
          → drop (place_of equals rest) rest ≡ codes "= '" ++ value ++ codes "'"
          → some_set register value ≡ Some statement → Spells bytes statement
      with_register name value None was ahead behind read = absurd (grind (arith, read))
      with_register name value (Some register) was ahead behind read =
          chosen_by (is_inner_text value) (Set register value) None statement (Spells bytes) read
          (λ inner. spelled name value register (named name register was) inner ahead behind)
          (λ impossible. absurd (grind (arith, impossible)))

      with_name : (value : List ℕ) (name : Option (List ℕ)) → ahead_of (codes " ") (take (place_of equals rest) rest) ≡ name
          → drop (place_of equals rest) rest ≡ codes "= '" ++ value ++ codes "'"
          → some_set (option_and_then register_of name) value ≡ Some statement → Spells bytes statement
      with_name value None was behind read = absurd (grind (arith, read))
      with_name value (Some name) was behind read =
          with_register name value (register_of name) refl (ahead_of_splits (codes " ") (take (place_of equals rest) rest) name was) behind read

      valued : (value : Option (List ℕ)) → between (codes "= '") (codes "'") (drop (place_of equals rest) rest) ≡ value
          → option_and_then (set_by (take (place_of equals rest) rest)) value ≡ Some statement → Spells bytes statement
      valued None was read = absurd (grind (arith, read))
      valued (Some value) was read =
          with_name value (ahead_of (codes " ") (take (place_of equals rest) rest)) refl
          (between_splits (codes "= '") (codes "'") (drop (place_of equals rest) rest) value was) read

-- ---- all of them

pub read_is_spelled : (bytes : List ℕ) (statement : Statement) → statement_of bytes ≡ Some statement → Spells bytes statement
unfolding statement_of
read_is_spelled bytes statement is =
    by_form_cases (codes "INSERT INTO T VALUES (") bytes insert_of _ statement is (Spells bytes statement)
    (λ rest front read. insert_spelled bytes rest statement front read)
    (λ is. by_form_cases (codes "UPDATE T SET V = '") bytes update_of _ statement is (Spells bytes statement)
    (λ rest front read. update_spelled bytes rest statement front read)
    (λ is. by_form_cases (codes "DELETE FROM T WHERE K = ") bytes delete_of _ statement is (Spells bytes statement)
    (λ rest front read. delete_spelled bytes rest statement front read)
    (λ is. by_form_cases (codes "SET ") bytes set_of _ statement is (Spells bytes statement)
    (λ rest front read. set_spelled bytes rest statement front read)
    (λ is. chosen_by (bytes_eq bytes select_text) Select None statement (Spells bytes) is
    (λ same. same_bytes bytes select_text same) (λ impossible. absurd (grind (arith, impossible)))))))
