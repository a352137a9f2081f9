-- What a line of a body adds to a draft whose header is whole, and of which no chain goes on.
use Rattle.std.proofs.Common.{◌≡◌, ℕ, ◌-◌, ◌≤◌, Bool, true, false, List, ◌∷◌, refl, ap, sym, ◌∙◌, arith}
use Rattle.std.proofs.Common.{zero, suc, Option, Some, None, Ok}
use Rattle.std.proofs.lemmas.Bool.{true≢false}
use Rattle.std.specs.Prelude.{not, if◌then◌else◌, replicate, slice_set, ok_or, option_map}
use Rattle.std.specs.List.{list_all, range_with_len}
use Rattle.hex_lines.specs.Lines.{is_skipped}
use Rattle.reply_texts.specs.Name.{is_rdb_name}
use Rattle.script_words.specs.declared.keyword.Keyword.{Keyword}
use Rattle.script_words.specs.declared.keyword.Keyword.TheVariants as keyword
use Rattle.script_words.specs.declared.keyword.CommandWord.{CommandWord}
use Rattle.script_words.specs.declared.keyword.StepWord.{StepWord}
use Rattle.script_words.specs.declared.stage.Stage.{Stage}
use Rattle.script_words.specs.declared.stage.Stage.TheVariants.{Body}
use Rattle.script_words.specs.Field.{is_printable, is_name}
use Rattle.script_words.specs.Words.{word}
use Rattle.script_words.specs.Number.{number_within}
use Rattle.script_words.specs.Stage.{is_whole, stage_after, after_line_of_body}
use Rattle.unit_segments.specs.declared.command.Command.{Command}
use Rattle.script_reader.specs.declared.script.ScriptWhy.TheVariants.{Field}
use Rattle.script_reader.specs.declared.script.Line.{Line}
use Rattle.script_reader.specs.declared.script.Line.TheVariants as line
use Rattle.script_commands.specs.Commands.{command_bytes}
use Rattle.script_commands.specs.Start.{start_bytes}
use Rattle.script_reader.specs.Draft.{DraftText, with_line, goes_on, next_number, chains_after}
use Rattle.script_reader.specs.Command.{command_read}
use Rattle.script_reader.specs.Body.{app_of, idle_app, start_read, command_added, step_read, stepped, settle_read, with_event}
use Rattle.script_reader.specs.Script.{line_added, words_added, words_read, fields_read}
use Rattle.script_laws.proofs.Leading.{Adds}
use Rattle.script_laws.proofs.Digits.{one_in}

-- ---- a line that is no comment, of characters that can be printed, with a first word and as many words as that wants

pub record Says (words : List ℕ) (first : Keyword) : Type 0 where
  pub some : is_skipped words ≡ false
  pub printable : list_all is_printable words ≡ true
  pub is : words_read words ≡ Ok first

pub says_adds : (draft : DraftText) (words : List ℕ) (first : Keyword) (stage : Stage) → Says words first → stage_after draft.stage first ≡ Some stage →
    line_added draft words ≡ fields_read first (record draft { stage = stage }) words
unfolding line_added words_added
says_adds draft words first stage says after = rw (says.some, says.printable, says.is, after) refl

-- ---- a draft whose header is whole

pub record Whole (draft : DraftText) : Type 0 where
  pub stage : is_whole draft.stage ≡ true
  pub rdb : is_rdb_name draft.text.rdb ≡ true
  pub chains : draft.chains ≡ replicate 64 None

abbrev pub in_body : DraftText → DraftText
in_body draft = record draft { stage = Body }

body_follows : (stage : Stage) → is_whole stage ≡ true → after_line_of_body stage ≡ Some Body
unfolding after_line_of_body
body_follows stage whole = ap (λ b. if b then Some Body else None) whole

-- ---- applications

no_chain : list_all (λ app. not (goes_on (replicate 64 None) app)) (range_with_len 1 64) ≡ true
no_chain = refl

not_true : (b : Bool) → not b ≡ true → b ≡ false
not_true true e = absurd (true≢false (sym e))
not_true false e = refl

pub nothing_goes_on : (chains : List (Option ℕ)) (app : ℕ) → chains ≡ replicate 64 None → 1 ≤ app → app ≤ 64 → goes_on chains app ≡ false
nothing_goes_on chains app is least most =
    ap (λ c. goes_on c app) is
    ∙ not_true (goes_on (replicate 64 None) app) (one_in (λ a. not (goes_on (replicate 64 None) a)) 1 64 app no_chain least (omega arith))

set_same : {A : Type 0} (x : A) (n k : ℕ) → slice_set (replicate n x) k x ≡ replicate n x
set_same x zero k = refl
set_same x (suc n) zero = refl
set_same x (suc n) (suc k) = ap (λ xs. x ∷ xs) (set_same x n k)

pub chains_stay : (chains : List (Option ℕ)) (app number : ℕ) → chains ≡ replicate 64 None → chains_after chains app number false ≡ replicate 64 None
chains_stay chains app number is = ap (λ c. slice_set c (app - 1) None) is ∙ set_same None 64 (app - 1)

-- ---- lines of a body

with_line_whole : (draft : DraftText) (l : Line) → Whole draft → Whole (with_line (in_body draft) l)
with_line_whole draft l whole = record { stage = refl; rdb = whole.rdb; chains = whole.chains }

pub settle_adds : (words : List ℕ) (budget : ℕ) → Says words keyword.Settle → number_within 1 1000000 (word 1 words) ≡ Some budget → Adds Whole Whole words
unfolding fields_read settle_read stage_after after_line_of_body
settle_adds words budget says is draft whole = (
  with_line (in_body draft) (line.Settle budget),
  (
    says_adds draft words keyword.Settle Body says (body_follows draft.stage whole.stage)
        ∙ ap (λ n. ok_or (option_map (λ b. with_line (in_body draft) (line.Settle b)) n) Field) is,
    with_line_whole draft (line.Settle budget) whole,
  ),
)

pub step_adds : (words : List ℕ) (kind : StepWord) (app : ℕ) → Says words (keyword.Step kind) → app_of words ≡ Some app → Adds Whole Whole words
unfolding fields_read step_read stage_after after_line_of_body
step_adds words kind app says is draft whole = (
  with_line (in_body draft) (line.Event (stepped kind app)),
  (
    says_adds draft words (keyword.Step kind) Body says (body_follows draft.stage whole.stage)
        ∙ ap (λ n. with_event (in_body draft) (option_map (stepped kind) n)) is,
    with_line_whole draft (line.Event (stepped kind app)) whole,
  ),
)

-- the draft with a command whose chain ends with it
abbrev commanded : DraftText → ℕ → Command → DraftText
commanded draft app command = record (with_line draft (line.Bytes app (command_bytes false command))) {
  chains = chains_after draft.chains app (next_number draft.chains app) false;
}

pub command_adds : (words : List ℕ) (kind : CommandWord) (app : ℕ) → Says words (keyword.Command kind false) → app_of words ≡ Some app
    → ((number : ℕ) (rdb : List ℕ) → (command : Command) × (command_read kind number rdb words ≡ Some command)) → Adds Whole Whole words
unfolding fields_read command_added stage_after after_line_of_body
command_adds words kind app says is reads draft whole =
    let (command, read) = reads (next_number draft.chains app) draft.text.rdb in (
      commanded (in_body draft) app command,
      (
        says_adds draft words (keyword.Command kind false) Body says (body_follows draft.stage whole.stage)
            ∙ rw (is, read) refl,
        record { stage = refl; rdb = whole.rdb; chains = chains_stay draft.chains app (next_number draft.chains app) whole.chains },
      ),
    )

pub start_adds : (words : List ℕ) (app : ℕ) → 1 ≤ app → app ≤ 64 → Says words keyword.Start → app_of words ≡ Some app
    → is_name (word 2 words) ≡ true → is_name (word 3 words) ≡ true → Adds Whole Whole words
unfolding fields_read start_read idle_app stage_after after_line_of_body
start_adds words app least most says is user password draft whole = (
  with_line (in_body draft) (line.Bytes app (start_bytes draft.text.rdb (word 2 words) (word 3 words))),
  (
    says_adds draft words keyword.Start Body says (body_follows draft.stage whole.stage)
        ∙ rw (is, nothing_goes_on draft.chains app whole.chains least most, user, password) refl,
    with_line_whole draft (line.Bytes app (start_bytes draft.text.rdb (word 2 words) (word 3 words))) whole,
  ),
)
