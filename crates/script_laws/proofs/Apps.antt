-- The lines that an application's number alone tells: tried of all 64.
use Rattle.std.proofs.Common.{◌≡◌, ℕ, ◌≤◌, ◌==◌, Bool, true, false, List, ◌++◌, refl, ap, ◌∙◌, subst, arith}
use Rattle.std.proofs.Common.{Some, Ok}
use Rattle.std.proofs.lemmas.Bool.{and_parts, eqb-true}
use Rattle.std.proofs.lemmas.List.{append_assoc}
use Rattle.std.specs.Prelude.{◌&&◌, codes}
use Rattle.std.specs.Fmt.{decimal, digits}
use Rattle.std.specs.List.{list_all, range_with_len}
use Rattle.hex_lines.specs.Lines.{line_end}
use Rattle.script_maker.specs.Lines.{start_line, commit_line, end_line}
use Rattle.script_words.specs.declared.keyword.Keyword.TheVariants as keyword
use Rattle.script_words.specs.declared.keyword.HeaderWord.TheVariants as header
use Rattle.script_words.specs.declared.keyword.CommandWord.TheVariants as command
use Rattle.script_words.specs.declared.keyword.StepWord.TheVariants as step
use Rattle.script_words.specs.Field.{is_printable, is_name}
use Rattle.script_words.specs.Words.{word, word_count}
use Rattle.script_words.specs.Keyword.{keyword_of, keyword_by_name, header_keyword, header_word, chain_word, command_word, event_word, move_word, step_word, lone_word}
use Rattle.script_words.specs.Keyword.{fits_count, fits_header, fits_command}
use Rattle.ddm_codepoints.specs.CodePoint.{rdbcmm}
use Rattle.unit_segments.specs.declared.command.Command.{Command}
use Rattle.script_commands.specs.Commands.{unit_end_command}
use Rattle.script_reader.specs.Command.{command_read}
use Rattle.script_reader.specs.Body.{app_of}
use Rattle.script_reader.specs.Script.{words_read}
use Rattle.script_laws.proofs.Leading.{one_line, Leads, line_leads}
use Rattle.script_laws.proofs.Digits.{one_in, is_number, number_is}
use Rattle.script_laws.proofs.Lines.{Says, Whole, step_adds, command_adds, start_adds}

-- ---- what the lines say, without their ends

abbrev pub user_name : ℕ → List ℕ
user_name app = codes "U" ++ decimal app

abbrev pub user_words : ℕ → List ℕ
user_words app = codes "user U" ++ (decimal app ++ codes " P")

abbrev pub start_words : ℕ → List ℕ
start_words app = codes "start " ++ (decimal app ++ (codes " U" ++ (decimal app ++ codes " P")))

abbrev pub app_words : List ℕ → ℕ → List ℕ
app_words first app = first ++ decimal app

-- ---- what is tried

-- one line of so many words, which can be printed
abbrev is_plain : ℕ → List ℕ → Bool
is_plain count words = one_line words && (list_all is_printable words && word_count words == count)

abbrev fits_user : ℕ → Bool
fits_user app = is_plain 3 (user_words app) && (is_name (word 1 (user_words app)) && is_name (word 2 (user_words app)))

abbrev fits_start : ℕ → Bool
fits_start app =
    is_plain 4 (start_words app)
    && (is_number app (app_of (start_words app)) && (is_name (word 2 (start_words app)) && is_name (word 3 (start_words app))))

abbrev fits_app : List ℕ → ℕ → Bool
fits_app first app = is_plain 2 (app_words first app) && is_number app (app_of (app_words first app))

users_fit : list_all fits_user (range_with_len 1 64) ≡ true
unfolding digits
users_fit = refl

starts_fit : list_all fits_start (range_with_len 1 64) ≡ true
unfolding digits
starts_fit = refl

ends_fit : list_all (fits_app (codes "end ")) (range_with_len 1 64) ≡ true
unfolding digits
ends_fit = refl

cuts_fit : list_all (fits_app (codes "cut ")) (range_with_len 1 64) ≡ true
unfolding digits
cuts_fit = refl

commits_fit : list_all (fits_app (codes "commit ")) (range_with_len 1 64) ≡ true
unfolding digits
commits_fit = refl

-- ---- the first words

reads_user : (app : ℕ) → word_count (user_words app) ≡ 3 → words_read (user_words app) ≡ Ok (keyword.Header header.User)
unfolding words_read keyword_of keyword_by_name header_keyword header_word fits_count fits_header
reads_user app count = rw count refl

reads_start : (app : ℕ) → word_count (start_words app) ≡ 4 → words_read (start_words app) ≡ Ok keyword.Start
unfolding words_read keyword_of keyword_by_name header_keyword header_word chain_word command_word event_word move_word step_word lone_word fits_count
reads_start app count = rw count refl

reads_end : (app : ℕ) → word_count (app_words (codes "end ") app) ≡ 2 → words_read (app_words (codes "end ") app) ≡ Ok (keyword.Step step.End)
unfolding words_read keyword_of keyword_by_name header_keyword header_word chain_word command_word event_word move_word step_word lone_word fits_count
reads_end app count = rw count refl

reads_cut : (app : ℕ) → word_count (app_words (codes "cut ") app) ≡ 2 → words_read (app_words (codes "cut ") app) ≡ Ok (keyword.Step step.Cut)
unfolding words_read keyword_of keyword_by_name header_keyword header_word chain_word command_word event_word move_word step_word lone_word fits_count
reads_cut app count = rw count refl

reads_commit : (app : ℕ) → word_count (app_words (codes "commit ") app) ≡ 2
    → words_read (app_words (codes "commit ") app) ≡ Ok (keyword.Command command.Commit false)
unfolding words_read keyword_of keyword_by_name header_keyword header_word chain_word command_word fits_count fits_command
reads_commit app count = rw count refl

-- ---- what was tried of an application's number

record IsPlain (count : ℕ) (words : List ℕ) : Type 0 where
  pub one : one_line words ≡ true
  pub printable : list_all is_printable words ≡ true
  pub count_is : word_count words ≡ count

plain : (count : ℕ) (words : List ℕ) → is_plain count words ≡ true → IsPlain count words
plain count words e =
    let (one, rest) = and_parts (one_line words) (list_all is_printable words && word_count words == count) e in
    let (printable, count_is) = and_parts (list_all is_printable words) (word_count words == count) rest in
    record { one = one; printable = printable; count_is = eqb-true (word_count words) count count_is }

pub record FitsUser (app : ℕ) : Type 0 where
  pub one : one_line (user_words app) ≡ true
  pub says : Says (user_words app) (keyword.Header header.User)
  pub name : is_name (word 1 (user_words app)) ≡ true
  pub password : is_name (word 2 (user_words app)) ≡ true

pub user_fits : (app : ℕ) → 1 ≤ app → app ≤ 64 → FitsUser app
user_fits app least most =
    let u = user_words app in
    let (e, names) = and_parts (is_plain 3 u) (is_name (word 1 u) && is_name (word 2 u)) (one_in fits_user 1 64 app users_fit least (omega arith)) in
    let p = plain 3 u e in
    let (name, password) = and_parts (is_name (word 1 u)) (is_name (word 2 u)) names in
    record { one = p.one; says = record { some = refl; printable = p.printable; is = reads_user app p.count_is }; name = name; password = password }

-- ---- lines that lead from one whole draft to another

app_line : (first : List ℕ) (app : ℕ) → Leads Whole Whole (app_words first app ++ line_end) → Leads Whole Whole (first ++ (decimal app ++ line_end))
app_line first app leads = subst (Leads Whole Whole) (append_assoc first (decimal app) line_end) leads

app_fits : (first : List ℕ) (app : ℕ) → list_all (fits_app first) (range_with_len 1 64) ≡ true → 1 ≤ app → app ≤ 64
    → IsPlain 2 (app_words first app) × (app_of (app_words first app) ≡ Some app)
app_fits first app all least most =
    let words = app_words first app in
    let (p, is) = and_parts (is_plain 2 words) (is_number app (app_of words)) (one_in (fits_app first) 1 64 app all least (omega arith)) in
    (plain 2 words p, number_is app (app_of words) is)

pub end_leads : (app : ℕ) → 1 ≤ app → app ≤ 64 → Leads Whole Whole (end_line app)
unfolding end_line
end_leads app least most =
    let words = app_words (codes "end ") app in
    let (p, is) = app_fits (codes "end ") app ends_fit least most in
    app_line (codes "end ") app (line_leads {A = Whole} {B = Whole} words p.one
    (step_adds words step.End app (record { some = refl; printable = p.printable; is = reads_end app p.count_is }) is))

pub cut_leads : (app : ℕ) → 1 ≤ app → app ≤ 64 → Leads Whole Whole (codes "cut " ++ (decimal app ++ line_end))
cut_leads app least most =
    let words = app_words (codes "cut ") app in
    let (p, is) = app_fits (codes "cut ") app cuts_fit least most in
    app_line (codes "cut ") app (line_leads {A = Whole} {B = Whole} words p.one
    (step_adds words step.Cut app (record { some = refl; printable = p.printable; is = reads_cut app p.count_is }) is))

commit_read : (app number : ℕ) (rdb : List ℕ)
    → (c : Command) × (command_read command.Commit number rdb (app_words (codes "commit ") app) ≡ Some c)
unfolding command_read
commit_read app number rdb = (unit_end_command rdbcmm number, refl)

pub commit_leads : (app : ℕ) → 1 ≤ app → app ≤ 64 → Leads Whole Whole (commit_line app)
unfolding commit_line
commit_leads app least most =
    let words = app_words (codes "commit ") app in
    let (p, is) = app_fits (codes "commit ") app commits_fit least most in
    app_line (codes "commit ") app (line_leads {A = Whole} {B = Whole} words p.one
    (command_adds words command.Commit app (record { some = refl; printable = p.printable; is = reads_commit app p.count_is }) is (commit_read app)))

start_line_is : (app : ℕ) → start_words app ++ line_end ≡ codes "start " ++ (decimal app ++ (codes " U" ++ (decimal app ++ (codes " P" ++ line_end))))
start_line_is app =
    append_assoc (codes "start ") (decimal app ++ (codes " U" ++ (decimal app ++ codes " P"))) line_end
    ∙ ap (λ t. codes "start " ++ t) (append_assoc (decimal app) (codes " U" ++ (decimal app ++ codes " P")) line_end
    ∙ ap (λ t. decimal app ++ (codes " U" ++ t)) (append_assoc (decimal app) (codes " P") line_end))

pub start_leads : (app : ℕ) → 1 ≤ app → app ≤ 64 → Leads Whole Whole (start_line app)
unfolding start_line
start_leads app least most =
    let words = start_words app in
    let rest = is_name (word 2 words) && is_name (word 3 words) in
    let (e, others) = and_parts (is_plain 4 words) (is_number app (app_of words) && rest) (one_in fits_start 1 64 app starts_fit least (omega arith)) in
    let (found, names) = and_parts (is_number app (app_of words)) rest others in
    let (user, password) = and_parts (is_name (word 2 words)) (is_name (word 3 words)) names in
    let p = plain 4 words e in
    subst (Leads Whole Whole) (start_line_is app) (line_leads {A = Whole} {B = Whole} words p.one
    (start_adds words app least most (record { some = refl; printable = p.printable; is = reads_start app p.count_is })
    (number_is app (app_of words) found) user password))
