-- Where no step of a parse has a fault, the command takes the words.
use Rattle.std.proofs.Common.{◌≡◌, ◌∙◌, ◌+◌, ◌&&◌, ◌||◌, ◌⊎◌, ◌==◌, inl, inr, ℕ, Bool, cond, codes, true, false, not, zero, suc, refl, sym, ap, arith, List, [], ◌∷◌, length, drop, min, Option, Some, None, is_some, nat_lt, nat_le}
use Rattle.std.specs.Prelude.{encode_utf8, slice_get}
use Rattle.std.specs.List.{list_all, list_any}
use Rattle.std.specs.Option.{option_map_or}
use Rattle.std.specs.Str.{bytes_eq, chars}
use Rattle.std.proofs.lemmas.Bool.{and_parts}
use Rattle.std.proofs.lemmas.Bool.Decides.{nat_tests}
use Rattle.clap.specs.Values.{refused_kind}
use Rattle.clap.specs.ValueTests.{accepts}
use Rattle.clap.specs.Matches.{count_text}
use Rattle.clap.specs.Facts.{explicit_source, parser_of_value, unwrap_or_range}
use Rattle.clap.specs.Lexer.{long_of, short_of}
use Rattle.clap.specs.Walk.{Held, Names, Row, Rule, Step, Text, Waiting, Walk, action_of, arg_by_id, arg_by_index, arg_by_long, arg_by_short, attached_value, count_of, finished, has_row, is_empty, is_pending, most_values, next, nothing_held, reacted, settled, subcommand, subcommand_met, takes_several, takes_values, trailing, value, values_or_missing, walk, walk_from, walked, word_met}
use Rattle.clap.specs.Simple.{App, Shape, argument_words, built, entered, is_simple, names_of}
use Rattle.clap.specs.Takes.{action_passes, bundle_step_passes, built_takes, count_passes, default_passes, flag_word_passes, flags_pass, is_given, is_valid, level_passes, long_passes, option_passes, other_passes, positional_passes, react_passes, set_passes, settle_passes, short_passes, step_passes, takes, turn_passes, use_passes, values_pass, walk_passes, word_passes}
use Rattle.clap.specs.Kinds.{Kinds, check_kinds, or_else, range_kinds, value_kinds, values_kinds}
use Rattle.clap.specs.Faults.{action_fault, bundle_step_fault, built_fault, check_fault, count_fault, defaults_fault, entered_fault, fault_of, flag_word_fault, flags_fault, has_free_rules, is_free_app, is_simple_and_free, level_fault, long_fault, option_fault, other_fault, positional_fault, react_fault, set_fault, settle_fault, short_fault, step_fault, stray_fault, turn_fault, use_fault, values_fault, walk_fault, word_fault}
use Rattle.clap.specs.declared.builder.action.ArgAction.{ArgAction}
use Rattle.clap.specs.declared.builder.action.ArgAction.TheVariants as action
use Rattle.clap.specs.declared.builder.value_parser.ValueParser.{ValueParser}
use Rattle.clap.specs.declared.error.kind.ErrorKind.{ErrorKind}
use Rattle.clap.specs.declared.error.kind.ErrorKind.TheVariants as kind
use Rattle.clap.proofs.TakesLemmas.{leaf_takes}

-- ---- tests and lists of faults

and_true : (a b : Bool) → a ≡ true → b ≡ true → (a && b) ≡ true
and_true true b p q = q
and_true false b p q = cc

neither : (a b : Kinds) → or_else a b ≡ [] → (a ≡ []) × (b ≡ [])
neither [] b e = (refl, e)
neither (k ∷ ks) b e = cc

-- a fault that there is under a test
no_fault : (b : Bool) (k : ErrorKind) (ks : Kinds) → cond b (k ∷ ks) [] ≡ [] → b ≡ false
no_fault true k ks e = cc
no_fault false k ks e = refl

passed : (b : Bool) (k : ErrorKind) (ks : Kinds) → cond b [] (k ∷ ks) ≡ [] → b ≡ true
passed true k ks e = refl
passed false k ks e = cc

-- ---- one use of an argument

values_taken : (ignore_case : Bool) (parser : ValueParser) (vs : List Text) → values_kinds ignore_case parser vs ≡ []
    → list_all (accepts ignore_case parser) vs ≡ true
values_taken ignore_case parser [] e = refl
values_taken ignore_case parser (v ∷ vs) e =
    let both = neither (value_kinds ignore_case parser v) (values_kinds ignore_case parser vs) e in
    and_true (accepts ignore_case parser v) _ (passed (accepts ignore_case parser v) _ _ both.0) (values_taken ignore_case parser vs both.1)

past_test : (b : Bool) (k : ErrorKind) (ks rest : Kinds) → cond b (k ∷ ks) rest ≡ [] → (b ≡ false) × (rest ≡ [])
past_test true k ks rest e = cc
past_test false k ks rest e = (refl, e)

in_range : (none exact same under over : Bool) (i j k l : ErrorKind)
    → cond none (i ∷ []) (cond exact (cond same [] (j ∷ [])) (cond under (k ∷ []) (cond over (l ∷ []) []))) ≡ []
    → ((exact ≡ true) × (same ≡ true)) ⊎ ((under ≡ false) × (over ≡ false))
in_range none true same under over i j k l e = inl (refl, passed same j [] (past_test none i [] _ e).1)
in_range none false same under over i j k l e =
    let first = past_test under k [] _ (past_test none i [] _ e).1 in
    inr (first.0, no_fault over l [] first.1)

range_taken : (least most n : ℕ) → range_kinds least most n ≡ [] → (nat_le least n ≡ true) × (nat_le n most ≡ true)
range_taken least most n e = elim (in_range (nat_lt 0 least && n == 0) (least == most) (least == n) (nat_lt n least) (nat_lt most n) _ _ _ _ e) [
  | inl h ↦
      let one : (least == most) ≡ true = h.0 in
      let same : (least == n) ≡ true = h.1 in
      (grind (arith, nat_tests), grind (arith, nat_tests))
  | inr h ↦
      let under : nat_lt n least ≡ false = h.0 in
      let over : nat_lt most n ≡ false = h.1 in
      (grind (arith, nat_tests), grind (arith, nat_tests))
]

count_taken : (a : Rule) (values : List Text) (rows : List Row) → count_fault a values rows ≡ [] → count_passes a values rows ≡ true
count_taken a [] rows e = passed (accepts a.ignore_case (parser_of_value a.parser) (count_text (min (count_of a.id rows + 1) 255))) _ _ e
count_taken a (v ∷ vs) rows e = values_taken a.ignore_case (parser_of_value a.parser) (v ∷ vs) e

first_use : (has again : Bool) → (has && not again) ≡ false → (not has || again) ≡ true
first_use true true e = refl
first_use true false e = cc
first_use false again e = refl

set_taken : (again : Bool) (a : Rule) (values : List Text) (rows : List Row) → set_fault again a values rows ≡ [] → set_passes again a values rows ≡ true
set_taken again a values rows e =
    let both = neither _ (values_fault a values) e in
    and_true _ _ (first_use (has_row a.id rows) again (no_fault (has_row a.id rows && not again) _ _ both.0))
    (values_taken a.ignore_case (parser_of_value a.parser) values both.1)

action_taken : (x : ArgAction) (again : Bool) (a : Rule) (values : List Text) (rows : List Row) → action_fault x again a values rows ≡ []
    → action_passes x again a values rows ≡ true
action_taken action.Set again a values rows e = set_taken again a values rows e
action_taken action.SetTrue again a values rows e = set_taken again a values rows e
action_taken action.SetFalse again a values rows e = set_taken again a values rows e
action_taken action.Append again a values rows e = values_taken a.ignore_case (parser_of_value a.parser) values e
action_taken action.Count again a values rows e = count_taken a values rows e
action_taken action.Help again a values rows e = cc
action_taken action.HelpShort again a values rows e = cc
action_taken action.HelpLong again a values rows e = cc
action_taken action.Version again a values rows e = cc

use_taken : (again : Bool) (a : Rule) (values : List Text) (rows : List Row) → use_fault again a values rows ≡ [] → use_passes again a values rows ≡ true
use_taken again a values rows e =
    let both = neither _ (action_fault (action_of a) again a (values_or_missing a values) rows) e in
    let range = range_taken (unwrap_or_range a.range).start_inclusive (most_values a) (length values) both.0 in
    and_true _ _ range.0 (and_true _ _ range.1 (action_taken (action_of a) again a (values_or_missing a values) rows both.1))

-- ---- the walk

settle_taken : (c : List Rule) (again : Bool) (h : Held) → settle_fault c again h ≡ [] → settle_passes c again h ≡ true
settle_taken c again h e = pending h.pending e
  where
    one : (found : Option Rule) (values : List Text) → option_map_or (λ a. use_fault again a values h.rows) found [] ≡ []
        → option_map_or (λ a. use_passes again a values h.rows) found true ≡ true
    one None values e = refl
    one (Some a) values e = use_taken again a values h.rows e

    pending : (p : Option (Text × List Text)) → option_map_or (λ p. option_map_or (λ a. use_fault again a p.1 h.rows) (arg_by_id c p.0) []) p [] ≡ []
        → option_map_or (λ p. option_map_or (λ a. use_passes again a p.1 h.rows) (arg_by_id c p.0) true) p true ≡ true
    pending None e = refl
    pending (Some p) e = one (arg_by_id c p.0) p.1 e

react_taken : (c : List Rule) (again : Bool) (a : Rule) (values : List Text) (h : Held) → react_fault c again a values h ≡ []
    → react_passes c again a values h ≡ true
react_taken c again a values h e =
    let both = neither (settle_fault c again h) (use_fault again a values (settled c h).rows) e in
    and_true _ _ (settle_taken c again h both.0) (use_taken again a values (settled c h).rows both.1)

option_taken : (c : List Rule) (again : Bool) (a : Rule) (v : Option Text) (h : Held) → option_fault c again a v h ≡ [] → option_passes c again a v h ≡ true
option_taken c again a (Some v) h e = react_taken c again a (v ∷ []) h e
option_taken c again a None h e = settle_taken c again h e

flag_taken : (c : List Rule) (again : Bool) (a : Rule) (v : Option Text) (h : Held) (k : ErrorKind)
    → cond (is_some v) (k ∷ []) (react_fault c again a [] h) ≡ []
    → (not (is_some v) && react_passes c again a [] h) ≡ true
flag_taken c again a (Some v) h k e = cc
flag_taken c again a None h k e = react_taken c again a [] h e

long_taken : (c : List Rule) (again : Bool) (found : Option Rule) (v : Option Text) (h : Held) → long_fault c again found v h ≡ []
    → long_passes c again found v h ≡ true
long_taken c again None v h e = cc
long_taken c again (Some a) v h e = go (takes_values a) e
  where
    go : (b : Bool) → cond b (option_fault c again a v h) (cond (is_some v) (kind.TooManyValues ∷ []) (react_fault c again a [] h)) ≡ []
        → cond b (option_passes c again a v h) (not (is_some v) && react_passes c again a [] h) ≡ true
    go true e = option_taken c again a v h e
    go false e = flag_taken c again a v h _ e

short_taken : (c : List Rule) (again : Bool) (found : Option Rule) (word : Text) (h : Held) (faults : Held → Kinds) (passes : Held → Bool)
    → ((g : Held) → faults g ≡ [] → passes g ≡ true) → short_fault c again found word h faults ≡ [] → short_passes c again found word h passes ≡ true
short_taken c again None word h faults passes further e = cc
short_taken c again (Some a) word h faults passes further e = go (takes_values a) e
  where
    go : (b : Bool) → cond b (option_fault c again a (attached_value word) h) (or_else (react_fault c again a [] h) (faults (reacted c a [] h))) ≡ []
        → cond b (option_passes c again a (attached_value word) h) (react_passes c again a [] h && passes (reacted c a [] h)) ≡ true
    go true e = option_taken c again a (attached_value word) h e
    go false e =
        let both = neither (react_fault c again a [] h) (faults (reacted c a [] h)) e in
        and_true _ _ (react_taken c again a [] h both.0) (further (reacted c a [] h) both.1)

bundle_step_taken : (c : List Rule) (again : Bool) (first : Option ℕ) (flags : Text) (skip : ℕ) (h : Held)
    (faults : Text → ℕ → Held → Kinds) (passes : Text → ℕ → Held → Bool)
    → ((text : Text) (n : ℕ) (g : Held) → faults text n g ≡ [] → passes text n g ≡ true)
    → bundle_step_fault c again first flags skip h faults ≡ [] → bundle_step_passes c again first flags skip h passes ≡ true
bundle_step_taken c again None flags skip h faults passes further e = refl
bundle_step_taken c again (Some x) flags zero h faults passes further e =
    let left = drop (length (encode_utf8 x)) flags in
    short_taken c again (arg_by_short c x) left h (faults left 0) (passes left 0) (further left 0) e
bundle_step_taken c again (Some x) flags (suc skip) h faults passes further e = further (drop (length (encode_utf8 x)) flags) skip h e

flags_taken : (c : List Rule) (again : Bool) (k : ℕ) (flags : Text) (skip : ℕ) (h : Held) → flags_fault c again k flags skip h ≡ []
    → flags_pass c again k flags skip h ≡ true
unfolding flags_fault flags_pass
flags_taken c again zero flags skip h e = refl
flags_taken c again (suc k) flags skip h e =
    bundle_step_taken c again (slice_get (chars flags) 0) flags skip h (flags_fault c again k) (flags_pass c again k) (flags_taken c again k) e

flag_word_taken : (c : List Rule) (again : Bool) (long : Option (Text × Option Text)) (word : Text) (h : Held) → flag_word_fault c again long word h ≡ []
    → flag_word_passes c again long word h ≡ true
flag_word_taken c again (Some p) word h e = long_taken c again (arg_by_long c p.0) p.1 h e
flag_word_taken c again None word h e = go (short_of word) e
  where
    go : (o : Option Text) → option_map_or (λ flags. flags_fault c again (length flags) flags h.skip (record h { skip = 0 })) o [] ≡ []
        → option_map_or (λ flags. flags_pass c again (length flags) flags h.skip (record h { skip = 0 })) o true ≡ true
    go None e = refl
    go (Some flags) e = flags_taken c again (length flags) flags h.skip (record h { skip = 0 }) e

named_taken : (is_help disabled : Bool) → (is_help && not disabled) ≡ false → (not is_help || disabled) ≡ true
named_taken true true e = refl
named_taken true false e = cc
named_taken false disabled e = refl

other_taken : (s : Shape) (met : Option Text) (word : Text) (h : Held) → other_fault s met word h ≡ [] → other_passes s met word h ≡ true
other_taken s (Some name) word h e = named_taken (bytes_eq name (codes "help")) s.disable_help_subcommand (no_fault _ _ _ e)
other_taken s None word h e = go (bytes_eq word (45 ∷ 45 ∷ [])) e
  where
    go : (b : Bool) → cond b [] (flag_word_fault s.rules s.args_override_self (long_of word) word h) ≡ []
        → (b || flag_word_passes s.rules s.args_override_self (long_of word) word h) ≡ true
    go true e = refl
    go false e = flag_word_taken s.rules s.args_override_self (long_of word) word h e

word_taken : (s : Shape) (names : Names) (is_trailing : Bool) (waiting : Waiting) (word : Text) (h : Held) → word_fault s names is_trailing waiting word h ≡ []
    → word_passes s names is_trailing waiting word h ≡ true
word_taken s names true waiting word h e = refl
word_taken s names false waiting word h e = other_taken s (subcommand_met names waiting word) word h e

positional_taken : (c : List Rule) (again : Bool) (a : Rule) (h : Held) → positional_fault c again a h ≡ [] → positional_passes c again a h ≡ true
positional_taken c again a h e = go (is_pending a h.pending && takes_several a) e
  where
    go : (b : Bool) → cond b [] (settle_fault c again h) ≡ [] → (b || settle_passes c again h) ≡ true
    go true e = refl
    go false e = settle_taken c again h e

stray : (is_leaf : Bool) (j k l : ErrorKind) → cond is_leaf (j ∷ []) (k ∷ l ∷ []) ≡ [] → ⊥
stray true j k l e = cc
stray false j k l e = cc

step_taken : (s : Shape) (position : ℕ) (h : Held) (step : Step) → step_fault s position h step ≡ [] → step_passes s position h step ≡ true
step_taken s position h value e = go (arg_by_index s.rules position) e
  where
    go : (o : Option Rule) → option_map_or (λ a. positional_fault s.rules s.args_override_self a h) o (stray_fault s) ≡ []
        → option_map_or (λ a. positional_passes s.rules s.args_override_self a h) o false ≡ true
    go None e = absurd (stray s.is_leaf _ _ _ e)
    go (Some a) e = positional_taken s.rules s.args_override_self a h e
step_taken s position h (next waiting) e = refl
step_taken s position h (trailing p) e = refl
step_taken s position h (subcommand name) e = refl

turn_taken : (s : Shape) (names : Names) (w : Walk) (word : Text) → turn_fault s names w word ≡ [] → turn_passes s names w word ≡ true
turn_taken s names w word e = go (is_some w.stopped) e
  where
    go : (b : Bool) → cond b [] (or_else (word_fault s names w.is_trailing w.waiting word w.held)
        (step_fault s w.position (word_met s.rules names w.is_trailing w.waiting w.position word w.held).0
        (word_met s.rules names w.is_trailing w.waiting w.position word w.held).1)) ≡ []
        → (b || (word_passes s names w.is_trailing w.waiting word w.held
        && step_passes s w.position (word_met s.rules names w.is_trailing w.waiting w.position word w.held).0
        (word_met s.rules names w.is_trailing w.waiting w.position word w.held).1)) ≡ true
    go true e = refl
    go false e =
        let met = word_met s.rules names w.is_trailing w.waiting w.position word w.held in
        let both = neither (word_fault s names w.is_trailing w.waiting word w.held) (step_fault s w.position met.0 met.1) e in
        and_true _ _ (word_taken s names w.is_trailing w.waiting word w.held both.0) (step_taken s w.position met.0 met.1 both.1)

walk_taken : (s : Shape) (names : Names) (w : Walk) (words : List Text) → walk_fault s names w words ≡ [] → walk_passes s names w words ≡ true
unfolding walk_fault walk_passes
walk_taken s names w [] e = refl
walk_taken s names w (word ∷ rest) e =
    let both = neither (turn_fault s names w word) (walk_fault s names (walked s.rules names w word) rest) e in
    and_true _ _ (turn_taken s names w word both.0) (walk_taken s names (walked s.rules names w word) rest both.1)

-- ---- after the walk

each_given : (rows : List Row) (rules : List Rule) → list_any (λ a. a.required && not (is_given a.id rows)) rules ≡ false
    → list_all (λ a. not a.required || is_given a.id rows) rules ≡ true
each_given rows [] e = refl
each_given rows (a ∷ rules) e = go (each_given rows rules) a.required (is_given a.id rows) e
  where
    go : (list_any (λ b. b.required && not (is_given b.id rows)) rules ≡ false → list_all (λ b. not b.required || is_given b.id rows) rules ≡ true)
        → (r g : Bool) → ((r && not g) || list_any (λ a. a.required && not (is_given a.id rows)) rules) ≡ false
        → ((not r || g) && list_all (λ a. not a.required || is_given a.id rows) rules) ≡ true
    go further true true e = further e
    go further true false e = cc
    go further false g e = further e

only_missing : (negates missing : Bool) → (not (negates && false) && missing) ≡ false → missing ≡ false
only_missing true missing e = e
only_missing false missing e = e

not_lifted : (negates given : Bool) → given ≡ true → ((negates && false) || given) ≡ true
not_lifted true given e = e
not_lifted false given e = e

not_wanted : (wants : Bool) → wants ≡ false → (not wants || false) ≡ true
not_wanted true e = cc
not_wanted false e = refl

check_taken : (s : Shape) (rows : List Row) → has_free_rules s ≡ true → check_fault s rows false ≡ [] → is_valid s rows false ≡ true
check_taken s rows free e =
    let any = list_any (λ r. explicit_source r.source) rows in
    let missing = list_any (λ a. a.required && not (is_given a.id rows)) s.rules in
    let help = past_test (s.arg_required_else_help && not any) _ _ _ e in
    let wanted = past_test s.subcommand_required _ _ _ help.1 in
    let lacks = past_test (not (s.subcommand_negates_reqs && false) && missing) _ _ _ wanted.1 in
    and_true _ _ (first_use s.arg_required_else_help any help.0)
    (and_true _ _ (not_wanted s.subcommand_required wanted.0)
    (and_true _ _ free
    (not_lifted s.subcommand_negates_reqs _ (each_given rows s.rules (only_missing s.subcommand_negates_reqs missing lacks.0)))))

level_taken : (s : Shape) (h : Held) (words : List Text) (below : Kinds) → has_free_rules s ≡ true → list_all default_passes s.rules ≡ true
    → level_fault s [] h words false below ≡ [] → level_passes s [] h words false ≡ true
level_taken s h words below free defaults e =
    let end = (walk s.rules [] h words).held in
    let first = neither (walk_fault s [] (walk_from h) words) _ e in
    let second = neither below _ first.1 in
    let third = neither (settle_fault s.rules s.args_override_self end) _ second.1 in
    let last = neither (defaults_fault (settled s.rules end).rows s.rules) (check_fault s (finished s.rules end) false) third.1 in
    and_true _ _ (walk_taken s [] (walk_from h) words first.0)
    (and_true _ _ (settle_taken s.rules s.args_override_self end third.0)
    (and_true _ _ defaults (check_taken s (finished s.rules end) free last.1)))

-- a command with no subcommand
leaf_taken : (top : Shape) (h : Held) (words : List Text) → has_free_rules top ≡ true → list_all default_passes top.rules ≡ true
    → built_fault (record { top = top; subs = [] }) h words ≡ [] → level_passes top [] h words false ≡ true
leaf_taken top h words free defaults e = go (walk top.rules [] h words).stopped e
  where
    go : (stop : Option (Text × List Text))
        → level_fault top [] h words (is_some (entered (record { top = top; subs = [] }) stop)) (entered_fault (record { top = top; subs = [] }) stop) ≡ []
        → level_passes top [] h words false ≡ true
    go None e = level_taken top h words [] free defaults e
    go (Some p) e = level_taken top h words [] free defaults e

-- what has no fault is taken, where no argument has a default that its parser refuses, and there are no subcommands
pub no_fault_taken : (a : App) (words : List Text) → is_simple_and_free a ≡ true → list_all default_passes (built a).top.rules ≡ true → (built a).subs ≡ []
    → fault_of a words ≡ [] → takes a words ≡ true
no_fault_taken a words plain defaults leaf e =
    let both = and_parts (is_simple a) (is_free_app (built a)) plain in
    let free = (and_parts (has_free_rules (built a).top) _ both.1).0 in
    let alone : built_fault (record { top = (built a).top; subs = [] }) nothing_held (argument_words a words) ≡ [] =
    ap (λ subs. built_fault (record { top = (built a).top; subs = subs }) nothing_held (argument_words a words)) (sym leaf) ∙ e in
    and_true _ _ both.0 (leaf_takes (built a) nothing_held (argument_words a words) leaf
    (leaf_taken (built a).top nothing_held (argument_words a words) free defaults alone))
