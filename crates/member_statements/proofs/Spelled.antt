-- What spells a statement is read as it.
use Rattle.std.specs.Prelude.{ℕ, ◌≡◌, ◌+◌, ◌-◌, ◌*◌, ◌/◌, ◌%◌, ◌<◌, ◌≤◌, ◌==◌, ◌&&◌, not, nat_lt, Bool, true, false, if◌then◌else◌, List, [], ◌∷◌}
use Rattle.std.specs.Prelude.{◌++◌, codes, length, take, drop, IsTrue}
use Rattle.std.specs.Prelude.{Option, Some, None, option_and_then, unwrap_or, is_some}
use Rattle.std.specs.List.{list_all}
use Rattle.std.proofs.Common.{arith, refl, sym, ap, subst, ◌∙◌, append_assoc}
use Rattle.std.proofs.Math.Seq.{take-append_seam, drop-append_seam}
use Rattle.ddm_codepoints.specs.Character.{ebcdic_of}
use Rattle.member_statements.specs.declared.statement.Statement.{Statement}
use Rattle.member_statements.specs.declared.statement.Statement.TheVariants.{Insert, Update, Delete, Set, Select}
use Rattle.member_statements.specs.declared.register.Register.{Register}
use Rattle.member_statements.specs.declared.register.Register.TheVariants.{Schema, Degree, Path, Numbered}
use Rattle.member_statements.specs.Register.{IsRegister, register_name, decimal, digit, set_text}
use Rattle.member_statements.specs.Statement.{is_digit, is_key, number_of, is_inner, is_inner_text, quote, SpellsKey, insert_text, update_text}
use Rattle.member_statements.specs.Statement.{delete_text, select_text, Spells}
use Rattle.member_statements.specs.Reading.{after, ahead_of, between, place_of, comma, equals, insert_of, some_insert, update_of, some_update}
use Rattle.member_statements.specs.Reading.{delete_of, is_register_number, numbered_of, register_of, set_of, set_by, some_set, by_form, statement_of}
use Rattle.member_statements.proofs.Parts.{bytes_eq-refl, after-append, ahead_of-append, between-append, place_of-append}
use Rattle.member_statements.proofs.Read.{regroup_two, regroup_three, regroup_set}

-- ---- bytes that aren't the mark

pub unmarked : (p : ℕ → Bool) (mark : ℕ) → p mark ≡ false → (bytes : List ℕ) → list_all p bytes ≡ true
    → list_all (λ byte. not (byte == mark)) bytes ≡ true
unmarked p mark out [] all = refl
unmarked p mark out (byte ∷ bytes) all =
    let others : list_all (λ b. not (b == mark)) bytes ≡ true = unmarked p mark out bytes (grind (arith, all)) in
    let first : not (byte == mark) ≡ true = other_than (byte == mark) refl in
    rw first others where
      other_than : (b : Bool) → (byte == mark) ≡ b → not b ≡ true
      other_than true same = absurd (grind (arith, same, out, all))
      other_than false differs = refl

pub key_unmarked : (digits : List ℕ) → IsTrue (is_key digits) → list_all (λ byte. not (byte == comma)) digits ≡ true
key_unmarked digits is = unmarked is_digit comma refl digits (grind (arith, is))

and_false : (b : Bool) → (b && false) ≡ false
and_false true = refl
and_false false = refl

pub text_unmarked : (text : List ℕ) → IsTrue (is_inner_text text) → list_all (λ byte. not (byte == quote)) text ≡ true
text_unmarked text is = unmarked is_inner quote (and_false (is_some (ebcdic_of quote))) text (grind (arith, is))

-- ---- each form

insert_read : (digits text : List ℕ) → IsTrue (is_key digits) → IsTrue (is_inner_text text)
    → insert_of (digits ++ (codes ", '" ++ text ++ codes "')")) ≡ Some (Insert (number_of digits) text)
unfolding insert_of
insert_read digits text key inner =
    let tail : List ℕ = codes ", '" ++ text ++ codes "')" in
    let place : place_of comma (digits ++ tail) ≡ length digits = place_of-append comma digits _ (key_unmarked digits key) in
    rw place (rw (take-append_seam digits tail) (rw (drop-append_seam digits tail)
    (rw (between-append (codes ", '") text (codes "')")) (rw key (rw inner refl)))))

update_read : (digits text : List ℕ) → IsTrue (is_key digits) → IsTrue (is_inner_text text)
    → update_of (text ++ (codes "' WHERE K = " ++ digits)) ≡ Some (Update (number_of digits) text)
unfolding update_of
update_read digits text key inner =
    let tail : List ℕ = codes "' WHERE K = " ++ digits in
    let place : place_of quote (text ++ tail) ≡ length text = place_of-append quote text _ (text_unmarked text inner) in
    rw place (rw (take-append_seam text tail) (rw (drop-append_seam text tail)
    (rw key (rw inner refl))))

delete_read : (digits : List ℕ) → IsTrue (is_key digits) → delete_of digits ≡ Some (Delete (number_of digits))
unfolding delete_of
delete_read digits key = rw key refl

-- ---- registers

small_number : (n : ℕ) → 1 ≤ n → n ≤ 99 → numbered_of (decimal n) ≡ Some (Numbered n)
small_number n low high = by_size (nat_lt n 10) refl where
  by_size : (b : Bool) → nat_lt n 10 ≡ b
      → numbered_of (if b then digit n ∷ [] else digit (n / 10) ∷ digit (n % 10) ∷ []) ≡ Some (Numbered n)
  by_size true few = grind (arith, few, low)
  by_size false many = grind (arith, many, high)

register_read : (register : Register) → IsRegister register → register_of (register_name register) ≡ Some register
register_read Schema is = refl
register_read Degree is = refl
register_read Path is = refl
register_read (Numbered n) is = small_number n is.0 is.1

name_unmarked : (register : Register) → IsRegister register
    → list_all (λ byte. not (byte == equals)) (register_name register ++ codes " ") ≡ true
name_unmarked Schema is = refl
name_unmarked Degree is = refl
name_unmarked Path is = refl
name_unmarked (Numbered n) is = by_size (nat_lt n 10) refl where
  by_size : (b : Bool) → nat_lt n 10 ≡ b → list_all (λ byte. not (byte == equals))
      (codes "R" ++ (if b then digit n ∷ [] else digit (n / 10) ∷ digit (n % 10) ∷ []) ++ codes " ") ≡ true
  by_size true few = grind (arith, few)
  by_size false many = grind (arith, many, is.1)

set_read : (register : Register) (value : List ℕ) → IsRegister register → IsTrue (is_inner_text value)
    → set_of ((register_name register ++ codes " ") ++ (codes "= '" ++ value ++ codes "'")) ≡ Some (Set register value)
unfolding set_of
set_read register value is inner =
    let name : List ℕ = register_name register ++ codes " " in
    let tail : List ℕ = codes "= '" ++ value ++ codes "'" in
    let place : place_of equals (name ++ tail) ≡ length name = place_of-append equals name _ (name_unmarked register is) in
    rw place (rw (take-append_seam name tail) (rw (drop-append_seam name tail)
    (rw (between-append (codes "= '") value (codes "'")) (rw (ahead_of-append (register_name register) (codes " "))
    (rw (register_read register is) (rw inner refl))))))

-- ---- all of them

pub spelled_is_read : (bytes : List ℕ) (statement : Statement) → Spells bytes statement → statement_of bytes ≡ Some statement
unfolding statement_of
spelled_is_read bytes (Insert key text) spells =
    subst (λ b. statement_of b ≡ Some (Insert key text))
    (sym (spells.3 ∙ sym (regroup_three (codes "INSERT INTO T VALUES (") spells.0 (codes ", '") text (codes "')"))))
    (insert_read spells.0 text spells.1.some spells.2 ∙ ap (λ k. Some (Insert k text)) spells.1.value)
spelled_is_read bytes (Update key text) spells =
    subst (λ b. statement_of b ≡ Some (Update key text)) (sym (spells.3 ∙ sym (regroup_two (codes "UPDATE T SET V = '") text (codes "' WHERE K = ") spells.0)))
    (update_read spells.0 text spells.1.some spells.2 ∙ ap (λ k. Some (Update k text)) spells.1.value)
spelled_is_read bytes (Delete key) spells =
    subst (λ b. statement_of b ≡ Some (Delete key)) (sym spells.2)
    (delete_read spells.0 spells.1.some ∙ ap (λ k. Some (Delete k)) spells.1.value)
spelled_is_read bytes (Set register value) spells =
    subst (λ b. statement_of b ≡ Some (Set register value))
    (sym (spells.2 ∙ sym (regroup_set (codes "SET ") (register_name register) (codes " ") (codes "= '") value (codes "'"))))
    (set_read register value spells.0 spells.1)
spelled_is_read bytes Select spells = subst (λ b. statement_of b ≡ Some Select) (sym spells) refl
