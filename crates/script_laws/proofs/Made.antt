-- A made script is read: its header, its users, and each line of its body lead to a whole draft.
use Rattle.std.proofs.Common.{◌≡◌, ℕ, ◌+◌, ◌*◌, ◌/◌, ◌%◌, ◌<◌, ◌≤◌, ◌^◌, ◌==◌, Bool, true, false, cond, List, [], ◌∷◌, ◌++◌, length, refl, ap, sym, ◌∙◌, subst, arith}
use Rattle.std.proofs.Common.{Some, None, Ok, Err}
use Rattle.std.proofs.lemmas.Bool.{true≢false, leb-true, ltb-true, false_from_ne_true}
use Rattle.std.proofs.lemmas.List.{append_assoc, append-nil}
use Rattle.std.proofs.lemmas.List.Folds.{list_any-append}
use Rattle.std.specs.Prelude.{not, ◌&&◌, ◌||◌, nat_le, nat_lt, codes, replicate, if◌then◌else◌}
use Rattle.std.specs.Str.{bytes_eq}
use Rattle.std.specs.Result.{is_ok}
use Rattle.std.specs.Fmt.{decimal, digits}
use Rattle.std.specs.List.{list_all, range_with_len, before_first}
use Rattle.hex_lines.specs.Lines.{line_end, lines_of, most_bytes}
use Rattle.server_list.specs.Lists.{no_rows, with_row}
use Rattle.gateway_setup.specs.Sent.{nothing_sent}
use Rattle.script_words.specs.declared.stage.Stage.{Stage}
use Rattle.script_words.specs.declared.stage.Stage.TheVariants.{AfterRdb, AfterCap, Members, Users}
use Rattle.script_words.specs.declared.keyword.Keyword.{Keyword}
use Rattle.script_words.specs.declared.keyword.Keyword.TheVariants as keyword
use Rattle.script_words.specs.declared.keyword.HeaderWord.TheVariants as header
use Rattle.script_words.specs.Words.{word, is_space}
use Rattle.script_words.specs.Keyword.{keyword_of, keyword_by_name, header_keyword, header_word, chain_word, command_word, event_word, move_word, step_word, lone_word}
use Rattle.script_words.specs.Keyword.{fits_count, fits_header}
use Rattle.script_words.specs.Stage.{stage_after, after_header, after_rdb, after_cap, after_member, after_user}
use Rattle.script_maker.specs.Draw.{after_draws, shown}
use Rattle.script_maker.specs.Asked.{IsWithin}
use Rattle.script_maker.specs.declared.words.Asked.{Asked}
use Rattle.script_maker.specs.Lines.{header_lines, user_line, start_line, settle_line, insert_line, cut_line, commit_line, end_line, turn_lines}
use Rattle.script_maker.specs.Made.{each_app, turn_of, all_turns, made}
use Rattle.script_reader.specs.declared.script.ScriptWhy.TheVariants.{Long}
use Rattle.script_reader.specs.declared.script.User.{User}
use Rattle.script_reader.specs.Names.{is_user}
use Rattle.script_reader.specs.Draft.{DraftText, start}
use Rattle.script_reader.specs.Header.{header_read, rdb_read, cap_read, member_read, user_read}
use Rattle.script_reader.specs.Script.{line_added, words_read, fields_read, lines_added, after_line, is_finished, script_of}
use Rattle.script_laws.proofs.Cutting.{spaceless, before, after}
use Rattle.script_laws.proofs.Digits.{one_in, decimal_passes}
use Rattle.script_laws.proofs.Leading.{IsRead, Leads, line_leads, both_lead, nothing_leads, each_leads}
use Rattle.script_laws.proofs.Lines.{Whole, Says, says_adds, settle_adds}
use Rattle.script_laws.proofs.Apps.{user_name, user_words, user_fits, start_leads, cut_leads, commit_leads, end_leads}
use Rattle.script_laws.proofs.Rows.{insert_leads}
use Rattle.script_laws.proofs.Sizes.{app_within, key_small, turn_is_small, turns_within, made_size}

-- ---- users

-- users with these numbers or greater ones can come
pub record InHeader (app : ℕ) (draft : DraftText) : Type 0 where
  pub whole : Whole draft
  pub stage : after_user draft.stage ≡ Some Users
  pub new : (other : ℕ) → app ≤ other → other ≤ 64 → is_user (user_name other) draft.text.users ≡ false

-- no name is another one's
abbrev differs : ℕ → Bool
differs app = list_all (λ other. nat_le other app || not (bytes_eq (user_name other) (user_name app))) (range_with_len 1 64)

all_differ : list_all differs (range_with_len 1 64) ≡ true
unfolding digits
all_differ = refl

or_right_is : (a b : Bool) → a ≡ false → (a || not b) ≡ true → b ≡ false
or_right_is true b e h = absurd (true≢false e)
or_right_is false true e h = absurd (true≢false (sym h))
or_right_is false false e h = refl

le_false : (other app : ℕ) → app < other → nat_le other app ≡ false
le_false other app l = false_from_ne_true (nat_le other app) (λ e. let no : other ≤ app = leb-true other app e in omega arith)

is_other : (app other : ℕ) → 1 ≤ app → app < other → other ≤ 64 → bytes_eq (user_name other) (user_name app) ≡ false
is_other app other least greater most =
    or_right_is (nat_le other app) (bytes_eq (user_name other) (user_name app)) (le_false other app greater)
    (one_in (λ o. nat_le o app || not (bytes_eq (user_name o) (user_name app))) 1 64 other
    (one_in differs 1 64 app all_differ least (omega arith)) (omega arith) (omega arith))

abbrev user_of : ℕ → User
user_of app = record { name = user_name app; password = codes "P" }

still_new : (users : List User) (app other : ℕ) → is_user (user_name other) users ≡ false → bytes_eq (user_name other) (user_name app) ≡ false
    → is_user (user_name other) (users ++ user_of app ∷ []) ≡ false
still_new users app other old new =
    list_any-append (λ user. bytes_eq (user_name other) user.name) users (user_of app ∷ [])
    ∙ rw (old, new) refl

abbrev with_user : DraftText → ℕ → DraftText
with_user draft app = record draft { stage = Users; text = record draft.text { users = draft.text.users ++ user_of app ∷ [] } }

name_spaceless : (app : ℕ) → app ≤ 64 → spaceless (user_name app) ≡ true
name_spaceless app most = ap (λ b. true && b) (decimal_passes (λ byte. not (is_space byte)) refl app (omega arith))

password_is : (app : ℕ) → app ≤ 64 → word 2 (user_words app) ≡ codes "P"
password_is app most = ap (before_first is_space) (after (codes "P") (user_name app) (name_spaceless app most))

name_is : (app : ℕ) → app ≤ 64 → word 1 (user_words app) ≡ user_name app
name_is app most = before (codes "P") (user_name app) (name_spaceless app most)

user_added : (draft : DraftText) (app : ℕ) → 1 ≤ app → app ≤ 64 → InHeader app draft → line_added draft (user_words app) ≡ Ok (with_user draft app)
unfolding fields_read header_read user_read stage_after after_header
user_added draft app least most inside =
    let fits = user_fits app least most in
    says_adds draft (user_words app) (keyword.Header header.User) Users fits.says inside.stage
    ∙ rw (fits.name, fits.password, name_is app most, password_is app most, inside.new app (omega arith) most) refl

users_next : (draft : DraftText) (app : ℕ) → 1 ≤ app → InHeader app draft → InHeader (app + 1) (with_user draft app)
unfolding after_user
users_next draft app least inside = record {
  whole = record { stage = refl; rdb = inside.whole.rdb; chains = inside.whole.chains };
  stage = refl;
  new = λ other greater most. still_new draft.text.users app other (inside.new other (omega arith) most) (is_other app other least (omega arith) most);
}

user_line_is : (app : ℕ) → user_words app ++ line_end ≡ codes "user U" ++ (decimal app ++ (codes " P" ++ line_end))
user_line_is app =
    append_assoc (codes "user U") (decimal app ++ codes " P") line_end
    ∙ ap (λ t. codes "user U" ++ t) (append_assoc (decimal app) (codes " P") line_end)

user_leads : (app : ℕ) → 1 ≤ app → app ≤ 64 → Leads (InHeader app) (InHeader (app + 1)) (user_line app)
unfolding user_line
user_leads app least most =
    subst (Leads (InHeader app) (InHeader (app + 1))) (user_line_is app)
    (line_leads {A = InHeader app} {B = InHeader (app + 1)} (user_words app) (user_fits app least most).one
    (λ draft inside. (with_user draft app, (user_added draft app least most inside, users_next draft app least inside))))

-- ---- the header

abbrev opened : DraftText
opened = record {
  stage = Members;
  text = record {
    rdb = codes "SAMPLE";
    cap = 2;
    list = with_row (with_row no_rows (record { member = 1; weight = 1 })) (record { member = 2; weight = 1 });
    sent = nothing_sent;
    users = [];
    rows = [];
    lines = [];
  };
  chains = replicate 64 None;
}

header_is_cut : (rest : List ℕ) → lines_of (header_lines ++ rest) ≡ codes "rdb SAMPLE" ∷ codes "cap 2" ∷ codes "member 1 1" ∷ codes "member 2 1" ∷ lines_of rest
unfolding header_lines
header_is_cut rest = refl

rdb_says : Says (codes "rdb SAMPLE") (keyword.Header header.Rdb)
unfolding words_read keyword_of keyword_by_name header_keyword header_word fits_count fits_header
rdb_says = record { some = refl; printable = refl; is = refl }

cap_says : Says (codes "cap 2") (keyword.Header header.Cap)
unfolding words_read keyword_of keyword_by_name header_keyword header_word fits_count fits_header
cap_says = record { some = refl; printable = refl; is = refl }

first_says : Says (codes "member 1 1") (keyword.Header header.Member)
unfolding words_read keyword_of keyword_by_name header_keyword header_word fits_count fits_header
first_says = record { some = refl; printable = refl; is = refl }

second_says : Says (codes "member 2 1") (keyword.Header header.Member)
unfolding words_read keyword_of keyword_by_name header_keyword header_word fits_count fits_header
second_says = record { some = refl; printable = refl; is = refl }

abbrev named : DraftText
named = record start { stage = AfterRdb; text = record start.text { rdb = codes "SAMPLE" } }

abbrev capped : DraftText
capped = record named { stage = AfterCap; text = record named.text { cap = 2 } }

abbrev first_listed : DraftText
first_listed = record capped { stage = Members; text = record capped.text { list = with_row no_rows (record { member = 1; weight = 1 }) } }

one_added : (number : ℕ) (draft : DraftText) (line : List ℕ) (lines : List (List ℕ)) (first : Keyword) (stage : Stage) (next : DraftText) →
    Says line first → stage_after draft.stage first ≡ Some stage → fields_read first (record draft { stage = stage }) line ≡ Ok next →
    lines_added number draft (line ∷ lines) ≡ lines_added (number + 1) next lines
unfolding lines_added
one_added number draft line lines first stage next says after fields =
    ap (λ read. after_line number read (λ d. lines_added (number + 1) d lines)) (says_adds draft line first stage says after ∙ fields)

header_adds : (number : ℕ) (lines : List (List ℕ)) →
    lines_added number start (codes "rdb SAMPLE" ∷ codes "cap 2" ∷ codes "member 1 1" ∷ codes "member 2 1" ∷ lines)
    ≡ lines_added (number + 1 + 1 + 1 + 1) opened lines
unfolding stage_after after_header after_rdb after_cap after_member fields_read header_read rdb_read cap_read member_read
header_adds number lines =
    let third : List (List ℕ) = codes "member 2 1" ∷ lines in
    let second : List (List ℕ) = codes "member 1 1" ∷ third in
    one_added number start (codes "rdb SAMPLE") (codes "cap 2" ∷ second) (keyword.Header header.Rdb) AfterRdb named rdb_says refl refl
    ∙ one_added (number + 1) named (codes "cap 2") second (keyword.Header header.Cap) AfterCap capped cap_says refl refl
    ∙ one_added (number + 1 + 1) capped (codes "member 1 1") third (keyword.Header header.Member) Members first_listed first_says refl refl
    ∙ one_added (number + 1 + 1 + 1) first_listed (codes "member 2 1") lines (keyword.Header header.Member) Members opened second_says refl refl

opened_is : InHeader 1 opened
unfolding after_user
opened_is = record { whole = record { stage = refl; rdb = refl; chains = refl }; stage = refl; new = λ other greater most. refl }

header_leads : (rest : List ℕ) → ((draft : DraftText) → InHeader 1 draft → IsRead rest draft) → IsRead (header_lines ++ rest) start
header_leads rest read number =
    ap (λ lines. is_ok (lines_added number start lines)) (header_is_cut rest)
    ∙ ap is_ok (header_adds number (lines_of rest))
    ∙ read opened opened_is (number + 1 + 1 + 1 + 1)

-- ---- a body

settle_says : Says (codes "settle 100000") keyword.Settle
unfolding words_read keyword_of keyword_by_name header_keyword header_word chain_word command_word event_word move_word step_word lone_word fits_count
settle_says = record { some = refl; printable = refl; is = refl }

settle_leads : Leads Whole Whole settle_line
unfolding settle_line
settle_leads = line_leads {A = Whole} {B = Whole} (codes "settle 100000") refl (settle_adds (codes "settle 100000") 100000 settle_says refl)

cut_by : (app : ℕ) (b : Bool) → 1 ≤ app → app ≤ 64 → Leads Whole Whole (cond b (codes "cut " ++ (decimal app ++ line_end)) [])
cut_by app true least most = cut_leads app least most
cut_by app false least most = nothing_leads {A = Whole}

maybe_cut : (app number : ℕ) → 1 ≤ app → app ≤ 64 → Leads Whole Whole (cut_line app number)
unfolding cut_line
maybe_cut app number least most = cut_by app (number % 8 == 0) least most

abbrev joined : (first second : List ℕ) → Leads Whole Whole first → Leads Whole Whole second → Leads Whole Whole (first ++ second)
joined = both_lead {A = Whole} {B = Whole} {C = Whole}

turn_leads : (app key number : ℕ) → 1 ≤ app → app ≤ 64 → key < 2 ^ 64 → shown number < 2 ^ 64 → Leads Whole Whole (turn_lines app key number)
turn_leads app key number least most k n =
    let last : List ℕ = commit_line app ++ settle_line in
    let more : List ℕ = cut_line app (shown number) ++ last in
    joined (insert_line app key (shown number)) (settle_line ++ more) (insert_leads app key (shown number) least most k n)
    (joined settle_line more settle_leads
    (joined (cut_line app (shown number)) last (maybe_cut app (shown number) least most)
    (joined (commit_line app) settle_line (commit_leads app least most) settle_leads)))

abbrev whole_at : ℕ → DraftText → Type 0
whole_at number = Whole

-- ---- the whole

finished : (draft : DraftText) → Whole draft → is_finished draft ≡ true
finished draft whole = rw (whole.stage, whole.rdb, whole.chains) refl

end_is_read : (draft : DraftText) → Whole draft → IsRead [] draft
unfolding lines_added
end_is_read draft whole number = rw (finished draft whole) refl

module _ (asked : Asked) (within : IsWithin asked) where
  turns_lead : Leads Whole Whole (all_turns asked.seed asked.apps asked.units)
  turns_lead = each_leads whole_at (turn_of asked.seed asked.apps) 0 (asked.apps * asked.units) (λ turn least most.
      let less : turn ≤ 6400 = omega (arith, turns_within asked.apps asked.units within.most_apps within.most_units) in
      turn_leads (turn % asked.apps + 1) (turn / asked.apps * 64 + (turn % asked.apps + 1)) (after_draws (turn + 1) asked.seed)
      (omega arith) (omega (arith, app_within turn asked.apps within.some_apps, within.most_apps))
      (omega (arith, key_small turn asked.apps within.some_apps within.most_apps less))
      (omega (arith, turn_is_small asked.seed asked.apps turn within.some_apps within.most_apps less)))

  starts_lead : Leads Whole Whole (each_app start_line asked.apps)
  starts_lead = each_leads whole_at start_line 1 asked.apps (λ app least most. start_leads app least (omega (arith, within.most_apps)))

  ends_lead : Leads Whole Whole (each_app end_line asked.apps)
  ends_lead = each_leads whole_at end_line 1 asked.apps (λ app least most. end_leads app least (omega (arith, within.most_apps)))

  users_lead : Leads (InHeader 1) (InHeader (1 + asked.apps)) (each_app user_line asked.apps)
  users_lead = each_leads InHeader user_line 1 asked.apps (λ app least most. user_leads app least (omega (arith, within.most_apps)))

  abbrev body : List ℕ
  body = each_app start_line asked.apps ++ (settle_line ++ (all_turns asked.seed asked.apps asked.units ++ each_app end_line asked.apps))

  body_leads : Leads Whole Whole body
  body_leads =
      joined (each_app start_line asked.apps) (settle_line ++ (all_turns asked.seed asked.apps asked.units ++ each_app end_line asked.apps)) starts_lead
      (joined settle_line (all_turns asked.seed asked.apps asked.units ++ each_app end_line asked.apps) settle_leads
      (joined (all_turns asked.seed asked.apps asked.units) (each_app end_line asked.apps) turns_lead ends_lead))

  body_is_read : (draft : DraftText) → Whole draft → IsRead body draft
  body_is_read draft whole = subst (λ text. IsRead text draft) (append-nil body) (body_leads [] end_is_read draft whole)

  lines_are_read : IsRead (made asked.seed asked.apps asked.units) start
  unfolding made
  lines_are_read =
      header_leads (each_app user_line asked.apps ++ body) (users_lead body (λ draft inside. body_is_read draft inside.whole))

  pub made_is_read : is_ok (script_of (made asked.seed asked.apps asked.units)) ≡ true
  unfolding script_of
  made_is_read =
      ap (λ b. is_ok (if b then Err (record { line = 0; why = Long }) else lines_added 1 start (lines_of (made asked.seed asked.apps asked.units))))
      (false_from_ne_true (nat_lt most_bytes (length (made asked.seed asked.apps asked.units)))
      (λ e. let long = ltb-true most_bytes (length (made asked.seed asked.apps asked.units)) e in omega (arith, made_size asked within)))
      ∙ lines_are_read 1
