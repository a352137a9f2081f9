-- The line that inserts a row, whose numbers are any.
use Rattle.std.proofs.Common.{◌≡◌, ℕ, ◌+◌, ◌<◌, ◌≤◌, ◌^◌, ◌==◌, Bool, true, false, List, [], ◌∷◌, ◌++◌, length, refl, ap, ◌∙◌, subst, arith}
use Rattle.std.proofs.Common.{Some, None}
use Rattle.std.proofs.lemmas.Bool.{and_from, le-leb, lt-ltb}
use Rattle.std.proofs.lemmas.List.{append_assoc}
use Rattle.std.proofs.lemmas.List.Folds.{list_all-append}
use Rattle.std.proofs.lemmas.List.Sums.{sum_by-append}
use Rattle.std.specs.Prelude.{not, nat_le, nat_lt, codes, if◌then◌else◌}
use Rattle.std.specs.Fmt.{decimal, digits}
use Rattle.std.specs.List.{list_all, range_with_len, count_by}
use Rattle.hex_lines.specs.Lines.{line_end}
use Rattle.ddm_codepoints.specs.CodePoint.{excsqlimm}
use Rattle.ddm_codepoints.specs.Character.{ebcdic_of}
use Rattle.reply_texts.specs.Text.{is_text, is_character}
use Rattle.unit_segments.specs.declared.command.Command.{Command}
use Rattle.script_maker.specs.Lines.{insert_line}
use Rattle.script_commands.specs.Commands.{statement_command}
use Rattle.script_words.specs.declared.keyword.Keyword.TheVariants as keyword
use Rattle.script_words.specs.declared.keyword.CommandWord.TheVariants as command
use Rattle.script_words.specs.Field.{is_printable, text_read}
use Rattle.script_words.specs.Number.{number_within}
use Rattle.script_words.specs.Words.{word, behind, word_count, is_space}
use Rattle.script_words.specs.Keyword.{keyword_of, keyword_by_name, header_keyword, header_word, chain_word, command_word}
use Rattle.script_words.specs.Keyword.{fits_count, fits_command}
use Rattle.script_reader.specs.Body.{app_of}
use Rattle.script_reader.specs.Command.{command_read, statement_read}
use Rattle.script_reader.specs.Script.{words_read}
use Rattle.script_laws.proofs.Cutting.{spaceless, before, after}
use Rattle.script_laws.proofs.Digits.{one_in, decimal_passes, is_number, number_is}
use Rattle.script_laws.proofs.Leading.{Leads, line_leads}
use Rattle.script_laws.proofs.Lines.{Says, Whole, command_adds}

-- ---- what all four parts of a list pass, of which two are numbers

module _ (p : ℕ → Bool) (digit : list_all p (range_with_len 48 10) ≡ true) where
  number_then : (n : ℕ) (rest : List ℕ) → n < 2 ^ 64 → list_all p rest ≡ true → list_all p (decimal n ++ rest) ≡ true
  number_then n rest small passes =
      list_all-append p (decimal n) rest ∙ and_from (list_all p (decimal n)) (list_all p rest) (decimal_passes p digit n small) passes

  text_then : (text rest : List ℕ) → list_all p text ≡ true → list_all p rest ≡ true → list_all p (text ++ rest) ≡ true
  text_then text rest here passes = list_all-append p text rest ∙ and_from (list_all p text) (list_all p rest) here passes

-- the statement, and the line without its end
abbrev pub statement : ℕ → ℕ → List ℕ
statement key number = codes "INSERT INTO T VALUES (" ++ (decimal key ++ (codes ", 'V" ++ (decimal number ++ codes "')")))

abbrev pub insert_words : ℕ → ℕ → ℕ → List ℕ
insert_words app key number = codes "sql " ++ (decimal app ++ 32 ∷ statement key number)

-- ---- what each byte of it is

module _ (p : ℕ → Bool) (digit : list_all p (range_with_len 48 10) ≡ true) (front : list_all p (codes "INSERT INTO T VALUES (") ≡ true)
    (middle : list_all p (codes ", 'V") ≡ true) (back : list_all p (codes "')") ≡ true) where
  pub statement_passes : (key number : ℕ) → key < 2 ^ 64 → number < 2 ^ 64 → list_all p (statement key number) ≡ true
  statement_passes key number k n =
      text_then p digit (codes "INSERT INTO T VALUES (") (decimal key ++ (codes ", 'V" ++ (decimal number ++ codes "')"))) front
      (number_then p digit key (codes ", 'V" ++ (decimal number ++ codes "')")) k
      (text_then p digit (codes ", 'V") (decimal number ++ codes "')") middle (number_then p digit number (codes "')") n back)))

  pub words_pass : (app key number : ℕ) → list_all p (codes "sql ") ≡ true → p 32 ≡ true → app < 2 ^ 64 → key < 2 ^ 64 → number < 2 ^ 64
      → list_all p (insert_words app key number) ≡ true
  words_pass app key number sql space a k n =
      text_then p digit (codes "sql ") (decimal app ++ 32 ∷ statement key number) sql
      (number_then p digit app (32 ∷ statement key number) a (and_from (p 32) (list_all p (statement key number)) space (statement_passes key number k n)))

-- ---- its words

app_spaceless : (app : ℕ) → app < 2 ^ 64 → spaceless (decimal app) ≡ true
app_spaceless app small = decimal_passes (λ byte. not (is_space byte)) refl app small

-- the second word, and what stands behind it
second : (app key number : ℕ) → app < 2 ^ 64 → word 1 (insert_words app key number) ≡ decimal app
second app key number small = before (statement key number) (decimal app) (app_spaceless app small)

behind_second : (app key number : ℕ) → app < 2 ^ 64 → behind 2 (insert_words app key number) ≡ statement key number
behind_second app key number small = after (statement key number) (decimal app) (app_spaceless app small)

numbers_are : list_all (λ app. is_number app (number_within 1 64 (decimal app))) (range_with_len 1 64) ≡ true
unfolding digits
numbers_are = refl

app_found : (app key number : ℕ) → 1 ≤ app → app ≤ 64 → app_of (insert_words app key number) ≡ Some app
app_found app key number least most =
    ap (number_within 1 64) (second app key number (omega arith))
    ∙ number_is app (number_within 1 64 (decimal app)) (one_in (λ a. is_number a (number_within 1 64 (decimal a))) 1 64 app numbers_are least (omega arith))

-- at least three words
some_words : (app key number : ℕ) → nat_le 3 (word_count (insert_words app key number)) ≡ true
some_words app key number =
    let rest : List ℕ = 32 ∷ statement key number in
    let one : ℕ → ℕ = λ byte. if is_space byte then 1 else 0 in
    let whole : count_by is_space (insert_words app key number) ≡ 1 + count_by is_space (decimal app ++ rest)
    = sum_by-append one (codes "sql ") (decimal app ++ rest) in
    let parts : count_by is_space (decimal app ++ rest) ≡ count_by is_space (decimal app) + count_by is_space rest
    = sum_by-append one (decimal app) rest in
    let last : count_by is_space rest ≡ 1 + count_by is_space (statement key number) = sum_by-append one (32 ∷ []) (statement key number) in
    le-leb 3 (word_count (insert_words app key number)) (omega (arith, whole, parts, last))

says : (app key number : ℕ) → app < 2 ^ 64 → key < 2 ^ 64 → number < 2 ^ 64 → Says (insert_words app key number) (keyword.Command command.Sql false)
unfolding words_read keyword_of keyword_by_name header_keyword header_word chain_word command_word fits_count fits_command
says app key number a k n = record {
  some = refl;
  printable = words_pass is_printable refl refl refl refl app key number refl refl a k n;
  is = rw (some_words app key number) refl;
}

-- ---- its statement

text_is : (key number : ℕ) → key < 2 ^ 64 → number < 2 ^ 64 → text_read (statement key number) ≡ Some (statement key number)
unfolding ebcdic_of
text_is key number k n =
    let some : nat_lt 0 (length (statement key number)) ≡ true = lt-ltb 0 (length (statement key number)) (omega arith) in
    ap (λ b. if b then Some (statement key number) else None)
    (and_from (nat_lt 0 (length (statement key number))) (is_text (statement key number)) some
    (statement_passes is_character refl refl refl refl key number k n))

reads : (app key number : ℕ) → app < 2 ^ 64 → key < 2 ^ 64 → number < 2 ^ 64 → (corr : ℕ) (rdb : List ℕ)
    → (c : Command) × (command_read command.Sql corr rdb (insert_words app key number) ≡ Some c)
unfolding command_read statement_read
reads app key number a k n corr rdb = (
  statement_command excsqlimm corr (statement key number),
  rw (behind_second app key number a, text_is key number k n) refl,
)

-- ---- the line

line_is : (app key number : ℕ) → insert_words app key number ++ line_end
    ≡ codes "sql " ++ (decimal app ++ (codes " INSERT INTO T VALUES (" ++ (decimal key ++ (codes ", 'V" ++ (decimal number ++ (codes "')" ++ line_end))))))
line_is app key number =
    append_assoc (codes "sql ") (decimal app ++ 32 ∷ statement key number) line_end
    ∙ ap (λ t. codes "sql " ++ t) (append_assoc (decimal app) (32 ∷ statement key number) line_end
    ∙ ap (λ t. decimal app ++ (codes " INSERT INTO T VALUES (" ++ t)) (append_assoc (decimal key) (codes ", 'V" ++ (decimal number ++ codes "')")) line_end
    ∙ ap (λ t. decimal key ++ (codes ", 'V" ++ t)) (append_assoc (decimal number) (codes "')") line_end)))

pub insert_leads : (app key number : ℕ) → 1 ≤ app → app ≤ 64 → key < 2 ^ 64 → number < 2 ^ 64 → Leads Whole Whole (insert_line app key number)
unfolding insert_line
insert_leads app key number least most k n =
    let words = insert_words app key number in
    let a : app < 2 ^ 64 = omega arith in
    subst (Leads Whole Whole) (line_is app key number) (line_leads {A = Whole} {B = Whole} words
    (words_pass (λ byte. not (byte == 10)) refl refl refl refl app key number refl refl a k n)
    (command_adds words command.Sql app (says app key number a k n) (app_found app key number least most) (reads app key number a k n)))
