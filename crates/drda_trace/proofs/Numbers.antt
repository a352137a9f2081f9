-- Correlation numbers: of commands, as an ordered set, and of replies, one after another.
use Rattle.std.proofs.Common.{◌≡◌, ℕ, ◌+◌, ◌<◌, ◌≤◌, ◌⊎◌, Bool, true, false, cond, leb, List, [], ◌∷◌, ◌++◌, length, take, drop, get_or, refl, ap, sym, ◌∙◌}
use Rattle.std.proofs.Common.{arith, inl, inr, ⊎_elim}
use Rattle.std.specs.Prelude.{◌||◌, ◌&&◌, ◌==◌}
use Rattle.std.specs.Ordering.{nat_cmp, is_eq}
use Rattle.std.specs.List.{list_any}
use Rattle.std.specs.BTreeMap.{is_at}
use Rattle.std.specs.BTreeSet.{BTreeSet, contains}
use Rattle.std.specs.declared.cmp.Ordering.TheVariants.{Less, Equal, Greater}
use Rattle.std.proofs.lemmas.Bool.{cases_lt, lt-ltb, le-ltb, ne_eqb, le-leb, lt-leb}
use Rattle.std.proofs.lemmas.Grind.{take_at_read}
use Rattle.std.proofs.lemmas.List.{drop_more}
use Rattle.std.proofs.lemmas.List.{length-drop}
use Rattle.std.proofs.lemmas.List.Folds.{list_any-append}
use Rattle.dss_frame.specs.declared.dss.Placed.{Placed}
use Rattle.unit_segments.specs.declared.command.Command.{Command}
use Rattle.drda_trace.specs.Lines.{has_number, numbers_fit}

equal_by : (b : Bool) → is_eq (cond b Equal Greater) ≡ b
equal_by true = refl
equal_by false = refl

-- two numbers compare as equal where they are
is_eq-nat_cmp : (a b : ℕ) → is_eq (nat_cmp a b) ≡ (a == b)
is_eq-nat_cmp a b =
    ⊎_elim (λ (less : a < b). ap (λ c. is_eq (cond c Less (cond (a == b) Equal Greater))) (lt-ltb a b less)
    ∙ sym (ne_eqb a b (λ e. absurd (omega (arith, less, e)))))
    (λ (no : b ≤ a). ap (λ c. is_eq (cond c Less (cond (a == b) Equal Greater))) (le-ltb a b no) ∙ equal_by (a == b)) (cases_lt a b)

or_one : (a b h : Bool) → a ≡ b → cond a true h ≡ (h || (b || false))
or_one true true true e = refl
or_one true true false e = refl
or_one true false h e = absurd (cc)
or_one false true h e = absurd (cc)
or_one false false true e = refl
or_one false false false e = refl

no_key : (keys : List ℕ) (corr : ℕ) → length keys ≡ 0 → list_any (is_at (nat_cmp corr)) keys ≡ false
no_key [] corr none = refl
no_key (key ∷ keys) corr none = absurd (omega (arith, none))

-- a set without keys has no number
pub none_in : (numbers : BTreeSet ℕ) (corr : ℕ) → length numbers.keys ≡ 0 → contains nat_cmp numbers corr ≡ false
none_in numbers corr none = no_key numbers.keys corr none

-- the numbers of the commands with one more
pub number_more : (commands : List Command) (i : ℕ) (command : Command) (corr : ℕ) → i < length commands → command ≡ get_or commands i command →
    cond (is_eq (nat_cmp command.corr corr)) true (has_number (take i commands) corr) ≡ has_number (take (i + 1) commands) corr
number_more commands i command corr within is =
    let whole : take (i + 1) commands ≡ take i commands ++ command ∷ [] =
    (take_at_read commands i command within).1 ∙ ap (λ (c : Command). take i commands ++ c ∷ []) (sym is) in
    or_one (is_eq (nat_cmp command.corr corr)) (command.corr == corr) (has_number (take i commands) corr) (is_eq-nat_cmp command.corr corr)
    ∙ sym (ap (λ (cs : List Command). has_number cs corr) whole ∙ list_any-append (λ c. c.corr == corr) (take i commands) (command ∷ []))

-- ---- replies

first_left : (replies : List Placed) (i : ℕ) (reply : Placed) → i < length replies → reply ≡ get_or replies i reply →
    drop i replies ≡ reply ∷ drop (i + 1) replies
first_left replies i reply within is =
    drop_more replies i reply within ∙ ap (λ (r : Placed). r ∷ drop (i + 1) replies) (sym is)

both_true : (a b c : Bool) → a ≡ true → b ≡ true → (a && (b && c)) ≡ c
both_true true true c p q = refl
both_true true false c p q = absurd (cc)
both_true false b c p q = absurd (cc)

first_false : (a b c : Bool) → a ≡ false → (a && (b && c)) ≡ false
first_false false b c e = refl
first_false true b c e = absurd (cc)

second_false : (a b c : Bool) → b ≡ false → (a && (b && c)) ≡ false
second_false true false c e = refl
second_false false b c e = refl
second_false true true c e = absurd (cc)

-- a reply that fits leaves the others
pub fits_on : (commands : List Command) (before i : ℕ) (replies : List Placed) (reply : Placed) → i < length replies → reply ≡ get_or replies i reply →
    has_number commands reply.dss.corr ≡ true → before ≤ reply.dss.corr →
    numbers_fit commands before (drop i replies) ≡ numbers_fit commands reply.dss.corr (drop (i + 1) replies)
fits_on commands before i replies reply within is has rises =
    ap (numbers_fit commands before) (first_left replies i reply within is)
    ∙ both_true (has_number commands reply.dss.corr) (leb before reply.dss.corr) (numbers_fit commands reply.dss.corr (drop (i + 1) replies)) has
    (le-leb before reply.dss.corr rises)

-- one that doesn't decides
pub fits_not : (commands : List Command) (before i : ℕ) (replies : List Placed) (reply : Placed) → i < length replies → reply ≡ get_or replies i reply →
    (has_number commands reply.dss.corr ≡ false) ⊎ (reply.dss.corr < before) → numbers_fit commands before (drop i replies) ≡ false
fits_not commands before i replies reply within is (inl none) =
    ap (numbers_fit commands before) (first_left replies i reply within is)
    ∙ first_false (has_number commands reply.dss.corr) (leb before reply.dss.corr) (numbers_fit commands reply.dss.corr (drop (i + 1) replies)) none
fits_not commands before i replies reply within is (inr falls) =
    ap (numbers_fit commands before) (first_left replies i reply within is)
    ∙ second_false (has_number commands reply.dss.corr) (leb before reply.dss.corr) (numbers_fit commands reply.dss.corr (drop (i + 1) replies))
    (lt-leb before reply.dss.corr falls)

none_fit : (commands : List Command) (before : ℕ) (replies : List Placed) → length replies ≡ 0 → numbers_fit commands before replies ≡ true
none_fit commands before [] none = refl
none_fit commands before (reply ∷ replies) none = absurd (omega (arith, none))

-- at the end all fit
pub fits_all : (commands : List Command) (before i : ℕ) (replies : List Placed) → length replies ≤ i → numbers_fit commands before (drop i replies) ≡ true
fits_all commands before i replies past = none_fit commands before (drop i replies) (omega (arith, length-drop i replies, past))
