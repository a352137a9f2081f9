-- Commands that run again lead to the unit, and are answered well again.
use Rattle.std.proofs.Common.{◌≡◌, ◌≢◌, ℕ, zero, suc, ◌+◌, ◌-◌, ◌≤◌, ◌==◌, ◌&&◌, ◌||◌, Bool, true, false, not, List, [], ◌∷◌, ◌++◌}
use Rattle.std.proofs.Common.{length, take, drop, map, find, slice_get, option_and_then, Option, Some, None, ap, sym, refl, subst, ◌∙◌, arith, true≢false}
use Rattle.std.proofs.Common.{eqb-true, eq-eqb}
use Rattle.std.proofs.lemmas.Bool.{cond-false}
use Rattle.std.proofs.lemmas.List.{append_assoc, length-append, take-append-drop}
use Rattle.std.specs.List.{AllByRecursion, flat_map, list_any}
use Rattle.dss_frame.specs.declared.dss.Dss.{Dss}
use Rattle.ddm_codepoints.specs.declared.typdef.TypDef.{TypDef}
use Rattle.ddm_codepoints.specs.CodeClass.{class_of}
use Rattle.ddm_codepoints.specs.CodePoint.{excsqlset, sqlcard, accrdbrm}
use Rattle.reply_texts.specs.Sqlcard.{card_of}
use Rattle.access_handshake.specs.declared.stage.Stage.TheVariants.{Accessed}
use Rattle.access_handshake.specs.Accepted.{accepted_of}
use Rattle.unit_segments.specs.declared.command.Command.{Command}
use Rattle.unit_segments.specs.Command.{data_of, ends_unit}
use Rattle.unit_segments.specs.Spelling.{numbered}
use Rattle.unit_segments.specs.Strip.{is_object_of, end_number, end_number_from, tells_error, stops, stops_at, without_lists, given_back, replies_of}
use Rattle.unit_segments.specs.Accepts.{is_good_card, is_success, sets_only}
use Rattle.plain_model.specs.Standing.{Standing}
use Rattle.plain_model.specs.UnitEnd.{unasked}
use Rattle.plain_model.specs.Group.{Meaning, Values, Laws, IsCommand, Set, renumbered, led, answers, told_typdef, typdef_in}
use Rattle.plain_model.specs.Answered.{without_error}
use Rattle.plain_model.specs.Plain.{left_to_run}
use Rattle.plain_model.specs.Repeats.{AreSame, renumbered_as, data_led}
use Rattle.plain_model.proofs.Segments.{is_end, numbered_commands}
use Rattle.plain_model.proofs.Replies.{AreUpTo, all_append}
use Rattle.plain_model.proofs.Runs.{and_true}
use Rattle.plain_model.proofs.Keeps.{led_kept}
use Rattle.plain_model.proofs.Leading.{led_same, answered_same, sets_stay}
use Rattle.plain_model.proofs.Sounding.{sets_are}
use Rattle.plain_model.proofs.Codes.{sqlcard_kept}
use Rattle.plain_model.proofs.Says.{AreOthers, append_nil, all_given_back}

-- ---- one list of commands after another

led_both : {S U : Type 0} (m : Meaning S U) (s : S) (u : U) (cs ds : List Command)
    → led m s u (cs ++ ds) ≡ led m (data_led m s u cs) (led m s u cs) ds
led_both m s u [] ds = refl
led_both m s u (c ∷ cs) ds = led_both m (m.data_after s u (unasked c)) (m.unit_after s u (unasked c)) cs ds

answers_both : {S U : Type 0} (m : Meaning S U) (s : S) (u : U) (cs ds : List Command)
    → answers m s u (cs ++ ds) ≡ answers m s u cs ++ answers m (data_led m s u cs) (led m s u cs) ds
answers_both m s u [] ds = refl
answers_both m s u (c ∷ cs) ds =
    ap (λ rs. m.replies s u (unasked c) ∷ rs) (answers_both m (m.data_after s u (unasked c)) (m.unit_after s u (unasked c)) cs ds)

flat_both : (rs ts : List (List Dss)) → flat_map (λ (r : List Dss). r) (rs ++ ts) ≡ flat_map (λ (r : List Dss). r) rs ++ flat_map (λ (r : List Dss). r) ts
flat_both [] ts = refl
flat_both (r ∷ rs) ts =
    ap (λ xs. r ++ xs) (flat_both rs ts) ∙ sym (append_assoc r (flat_map (λ (r : List Dss). r) rs) (flat_map (λ (r : List Dss). r) ts))

pub answers_length : {S U : Type 0} (m : Meaning S U) (s : S) (u : U) (cs : List Command) → length (answers m s u cs) ≡ length cs
answers_length m s u [] = refl
answers_length m s u (c ∷ cs) = ap suc (answers_length m (m.data_after s u (unasked c)) (m.unit_after s u (unasked c)) cs)

answers_some : {S U : Type 0} {m : Meaning S U} {v : Values S U} → Laws m v → (cs : List Command) (s : S) (u : U) → v.shared s → v.unit u
    → AllByRecursion IsCommand cs → AllByRecursion (λ (r : List Dss). r ≢ []) (answers m s u cs)
answers_some laws [] s u sh un all = tt
answers_some {m = m} laws (c ∷ cs) s u sh un all = (
  (laws.answered s u c sh un all.0).0.some,
  answers_some laws cs (m.data_after s u (unasked c)) (m.unit_after s u (unasked c)) (laws.data_kept s u c sh un all.0).0
      (laws.unit_kept s u c sh un all.0).0 all.1,
)

abbrev last_or : List Dss → List (List Dss) → List Dss
last_or r [] = r
last_or r (t ∷ rs) = last_or t rs

last_is : (r : List Dss) (rs : List (List Dss)) (t : List Dss) → last_or r (rs ++ t ∷ []) ≡ t
last_is r [] t = refl
last_is r (x ∷ rs) t = last_is x rs t

same_last : (rs ts : List (List Dss)) (r t : List Dss) → rs ++ r ∷ [] ≡ ts ++ t ∷ [] → r ≡ t
same_last rs ts r t e = sym (last_is [] rs r) ∙ ap (last_or []) e ∙ last_is [] ts t

take_next : {X : Type 0} (n : ℕ) (xs : List X) (x : X) (rest : List X) → drop n xs ≡ x ∷ rest → take (suc n) xs ≡ take n xs ++ x ∷ []
take_next zero [] x rest e = cc
take_next zero (y ∷ xs) x rest e = cc
take_next (suc n) [] x rest e = cc
take_next (suc n) (y ∷ xs) x rest e = ap (λ zs. y ∷ zs) (take_next n xs x rest e)

-- ---- from the base

-- these lead to the unit, whatever the data
abbrev pub Leads : {S U : Type 0} → Meaning S U → (S → Type 0) → Standing → List Command → U → Type 0
Leads {S} m is_shared st cs u = (t : S) → is_shared t → u ≡ led m t (m.base st) cs

-- and so does one more of them, which is answered alike
record Further {S U : Type 0} (m : Meaning S U) (is_shared : S → Type 0) (st : Standing) (cs : List Command) (c : Command) (s : S) (u : U) : Type 0 where
  pub leads : Leads m is_shared st (cs ++ c ∷ []) (m.unit_after s u (unasked c))
  pub replies : (t : S) → is_shared t → m.replies s u (unasked c) ≡ m.replies t (led m t (m.base st) cs) (unasked c)

further : {S U : Type 0} {m : Meaning S U} {v : Values S U} → Laws m v → (st : Standing) (cs : List Command) (c : Command) (s : S) (u : U)
    → st.stage ≡ Accessed → v.shared s → AllByRecursion Set (cs ++ c ∷ []) → AllByRecursion IsCommand (cs ++ c ∷ [])
    → AllByRecursion Set cs → AllByRecursion IsCommand cs → Leads m v.shared st cs u → Further m v.shared st cs c s u
further {S} {U} {m = m} {v = v} laws st cs c s u at sh sets all some are leads = record {
  leads = λ t ts.
      ap (λ w. m.unit_after s w (unasked c)) (leads s sh)
      ∙ sym (led_both m s (m.base st) cs (c ∷ []) ∙ ap (λ d. m.unit_after d (led m s (m.base st) cs) (unasked c)) (stays s sh))
      ∙ (laws.sets_alone st (cs ++ c ∷ []) s t at sets all sh ts).0;
  replies = λ t ts.
      ap (λ w. m.replies s w (unasked c)) (leads s sh)
      ∙ same_last (answers m s (m.base st) cs) (answers m t (m.base st) cs) (m.replies s (led m s (m.base st) cs) (unasked c))
      (m.replies t (led m t (m.base st) cs) (unasked c))
      (sym (one_more s sh) ∙ (laws.sets_alone st (cs ++ c ∷ []) s t at sets all sh ts).1 ∙ one_more t ts);
}
  where
    stays : (t : S) → v.shared t → data_led m t (m.base st) cs ≡ t
    stays t ts = sets_stay laws cs t (m.base st) ts (laws.base_unit st) are some

    one_more : (t : S) → v.shared t
        → answers m t (m.base st) (cs ++ c ∷ []) ≡ answers m t (m.base st) cs ++ m.replies t (led m t (m.base st) cs) (unasked c) ∷ []
    one_more t ts = answers_both m t (m.base st) cs (c ∷ [])
        ∙ ap (λ d. answers m t (m.base st) cs ++ m.replies d (led m t (m.base st) cs) (unasked c) ∷ []) (stays t ts)

-- ---- replies that are good

pub record IsGood (typ : TypDef) (r : List Dss) : Type 0 where
  pub reply : Dss
  pub one : r ≡ reply ∷ []
  pub card : is_good_card typ reply ≡ true
  pub no_error : tells_error reply ≡ false

abbrev pub AreGood : TypDef → List (List Dss) → Type 0
AreGood typ rs = AllByRecursion (IsGood typ) rs

abbrev pub flat : List (List Dss) → List Dss
flat rs = flat_map (λ (r : List Dss). r) rs

-- a reply that the application gets as such a card came as one
card_back : (typ : TypDef) (g : List Command) (d : Dss) → is_good_card typ (given_back g d) ≡ true → without_lists d ≡ d
card_back typ g d e =
    (sqlcard_kept d).same (and_true (is_object_of sqlcard (without_lists d)) (is_success (card_of typ (data_of (without_lists d).body))) e).0

or_false : (a b : Bool) → (a || b) ≡ false → (a ≡ false) × (b ≡ false)
or_false true b e = absurd (true≢false e)
or_false false b e = (refl, e)

not_true : (a : Bool) → not a ≡ true → a ≡ false
not_true true e = absurd (true≢false (sym e))
not_true false e = refl

-- what is asked of the first reply, and of the others
record FirstWell (typ : TypDef) (g : List Command) (c : Command) (d : Dss) (others : Bool) : Type 0 where
  pub kept : without_lists d ≡ d
  pub card : is_good_card typ d ≡ true
  pub others_well : others ≡ true

first_well : (typ : TypDef) (g : List Command) (c : Command) (d : Dss) (others : Bool)
    → (c.code == excsqlset && ((given_back g d).corr == c.corr && (is_good_card typ (given_back g d) && others))) ≡ true → FirstWell typ g c d others
first_well typ g c d others e =
    let head = and_true (c.code == excsqlset) ((given_back g d).corr == c.corr && (is_good_card typ (given_back g d) && others)) e in
    let number = and_true ((given_back g d).corr == c.corr) (is_good_card typ (given_back g d) && others) head.1 in
    let card = and_true (is_good_card typ (given_back g d)) others number.1 in
    let same = card_back typ g d card.0 in
    record { kept = same; card = sym (ap (is_good_card typ) same) ∙ card.0; others_well = card.1 }

-- as many replies as commands
well_length : (typ : TypDef) (cs : List Command) (rs : List Dss) → sets_only typ cs rs ≡ true → length cs ≡ length rs
unfolding sets_only
well_length typ [] [] e = refl
well_length typ [] (d ∷ rs) e = absurd (true≢false (sym e))
well_length typ (c ∷ cs) [] e = absurd (true≢false (sym e))
well_length typ (c ∷ cs) (d ∷ rs) e =
    let head = and_true (c.code == excsqlset) (d.corr == c.corr && (is_good_card typ d && sets_only typ cs rs)) e in
    let number = and_true (d.corr == c.corr) (is_good_card typ d && sets_only typ cs rs) head.1 in
    ap suc (well_length typ cs rs (and_true (is_good_card typ d) (sets_only typ cs rs) number.1).1)

map_length : (g : List Command) (rs : List Dss) → length (map (given_back g) rs) ≡ length rs
map_length g [] = refl
map_length g (d ∷ rs) = ap suc (map_length g rs)

some_length : (rs : List (List Dss)) → AllByRecursion (λ (r : List Dss). r ≢ []) rs → length rs ≤ length (flat rs)
some_length [] all = omega arith
some_length ([] ∷ rs) all = absurd (all.0 refl)
some_length ((d ∷ r) ∷ rs) all = omega (arith, length-append r (flat rs), some_length rs all.1)

no_errors : (g : List Command) (typ : TypDef) (cs : List Command) (part : List Dss) → sets_only typ cs (map (given_back g) part) ≡ true
    → list_any tells_error (map (given_back g) part) ≡ false → list_any tells_error part ≡ false
unfolding sets_only
no_errors g typ cs [] e f = refl
no_errors g typ [] (d ∷ part) e f = absurd (true≢false (sym e))
no_errors g typ (c ∷ cs) (d ∷ part) e f =
    let w = first_well typ g c d (sets_only typ cs (map (given_back g) part)) e in
    let both = or_false (tells_error (given_back g d)) (list_any tells_error (map (given_back g) part)) f in
    ap (λ b. b || list_any tells_error part) (sym (ap tells_error w.kept) ∙ both.0) ∙ no_errors g typ cs part w.others_well both.1

-- where each command has a reply, each has one, and a good one
are_good : (typ : TypDef) (g cs : List Command) (rs : List (List Dss)) → AllByRecursion (λ (r : List Dss). r ≢ []) rs → length cs ≡ length rs
    → sets_only typ cs (map (given_back g) (flat rs)) ≡ true → list_any tells_error (flat rs) ≡ false → AreGood typ rs
unfolding sets_only
are_good typ g cs [] some size e f = tt
are_good typ g cs ([] ∷ rs) some size e f = absurd (some.0 refl)
are_good typ g [] ((d ∷ r) ∷ rs) some size e f = absurd (omega (arith, size))
are_good typ g (c ∷ cs) ((d ∷ []) ∷ rs) some size e f =
    let w = first_well typ g c d (sets_only typ cs (map (given_back g) (flat rs))) e in
    let both = or_false (tells_error d) (list_any tells_error (flat rs)) f in (
      record { reply = d; one = refl; card = w.card; no_error = both.0 },
      are_good typ g cs rs some.1 (omega (arith, size)) w.others_well both.1,
    )
are_good typ g (c ∷ cs) ((d ∷ x ∷ r) ∷ rs) some size e f =
    absurd (omega (
      arith,
      size,
      well_length typ (c ∷ cs) (map (given_back g) (d ∷ x ∷ r ++ flat rs)) e,
      map_length g (d ∷ x ∷ r ++ flat rs),
      length-append r (flat rs),
      some_length rs some.1,
    ))

-- also with other numbers
pub good_renumbered : (typ : TypDef) (ds : List Command) (rs : List (List Dss)) → AreGood typ rs → AreGood typ (renumbered_as ds rs)
good_renumbered typ [] rs all = tt
good_renumbered typ (d ∷ ds) [] all = tt
good_renumbered typ (d ∷ ds) (r ∷ rs) all = (
  record {
    reply = record all.0.reply { corr = d.corr };
    one = ap (renumbered d.corr) all.0.one;
    card = all.0.card;
    no_error = all.0.no_error;
  },
  good_renumbered typ ds rs all.1,
)

-- such replies, with the numbers of the commands, are those of SETs alone
pub good_sets : (typ : TypDef) (cs ds : List Command) (rs : List (List Dss)) → AllByRecursion Set cs → AreSame cs ds → length rs ≡ length cs → AreGood typ rs
    → sets_only typ ds (flat (renumbered_as ds rs)) ≡ true
unfolding sets_only
good_sets typ [] [] rs sets are size all = refl
good_sets typ [] (d ∷ ds) rs sets are size all = absurd are
good_sets typ (c ∷ cs) [] rs sets are size all = absurd are
good_sets typ (c ∷ cs) (d ∷ ds) [] sets are size all = absurd (omega (arith, size))
good_sets typ (c ∷ cs) (d ∷ ds) (r ∷ rs) sets are size all =
    ap (λ x. sets_only typ (d ∷ ds) (renumbered d.corr x ++ flat (renumbered_as ds rs))) all.0.one
    ∙ all_true (d.code == excsqlset) (d.corr == d.corr) (is_good_card typ all.0.reply) (sets_only typ ds (flat (renumbered_as ds rs)))
    (eq-eqb d.code excsqlset (sym are.0.code ∙ sets.0)) (eq-eqb d.corr d.corr refl) all.0.card
    (good_sets typ cs ds rs sets.1 are.1 (omega (arith, size)) all.1)
  where
    all_true : (a b x y : Bool) → a ≡ true → b ≡ true → x ≡ true → y ≡ true → (a && (b && (x && y))) ≡ true
    all_true true true true true ea eb ex ey = refl
    all_true true true true false ea eb ex ey = absurd (true≢false (sym ey))
    all_true true true false y ea eb ex ey = absurd (true≢false (sym ex))
    all_true true false x y ea eb ex ey = absurd (true≢false (sym eb))
    all_true false b x y ea eb ex ey = absurd (true≢false (sym ea))

pub good_calm : (typ : TypDef) (rs : List (List Dss)) → AreGood typ rs → list_any tells_error (flat rs) ≡ false
good_calm typ [] all = refl
good_calm typ (r ∷ rs) all =
    ap (λ x. list_any tells_error (x ++ flat rs)) all.0.one
    ∙ ap (λ b. b || list_any tells_error (flat rs)) all.0.no_error ∙ good_calm typ rs all.1

-- ---- SETs of a segment that was answered

sets_end : (n : ℕ) (g : List Command) → AllByRecursion Set g → end_number_from n g ≡ 0
unfolding class_of
sets_end n [] sets = refl
sets_end n (c ∷ g) sets =
    cond-false (is_end c) n (end_number_from (n + 1) g) (ap (λ code. ends_unit (class_of code)) sets.0) ∙ sets_end (n + 1) g sets.1

-- none is 0
up_others : (ran number : ℕ) (part : List Dss) → number ≡ 0 → AreUpTo ran part → AreOthers number part
up_others ran number [] z all = tt
up_others ran number (d ∷ part) z all = ((λ e. absurd (omega (arith, e, z, all.0.positive))), up_others ran number part z all.1)

pub sets_back : (ran : ℕ) (g : List Command) (part : List Dss) → AllByRecursion Set g → AreUpTo ran part → replies_of g part ≡ map (given_back g) part
sets_back ran g part sets up = all_given_back g part (up_others ran (end_number g) part (sets_end 1 g sets) up)

-- nothing stops where no error is told
no_stop : (g : List Command) (part : List Dss) → list_any tells_error part ≡ false → stops g part ≡ false
no_stop g [] e = refl
no_stop g (d ∷ part) e = let both = or_false (tells_error d) (list_any tells_error part) e in
    ap (λ b. (b && stops_at (slice_get g (d.corr - 1))) || stops g part) both.0 ∙ no_stop g part both.1

none_found : (typ : TypDef) (cs : List Command) (rs : List Dss) → sets_only typ cs rs ≡ true → find (is_object_of accrdbrm) rs ≡ None
unfolding sets_only
none_found typ [] [] e = refl
none_found typ [] (d ∷ rs) e = absurd (true≢false (sym e))
none_found typ (c ∷ cs) [] e = absurd (true≢false (sym e))
none_found typ (c ∷ cs) (d ∷ rs) e =
    let head = and_true (c.code == excsqlset) (d.corr == c.corr && (is_good_card typ d && sets_only typ cs rs)) e in
    let number = and_true (d.corr == c.corr) (is_good_card typ d && sets_only typ cs rs) head.1 in
    let card = and_true (is_good_card typ d) (sets_only typ cs rs) number.1 in
    let is = and_true (is_object_of sqlcard d) (is_success (card_of typ (data_of d.body))) card.0 in
    cond-false (is_object_of accrdbrm d) (Some d) (find (is_object_of accrdbrm) rs) (ap (λ n. n == accrdbrm) (eqb-true _ sqlcard is.0))
    ∙ none_found typ cs rs card.1

-- the type definition stays where all replies are such cards
pub typdef_stays : (typ : TypDef) (cs : List Command) (rs : List Dss) → sets_only typ cs rs ≡ true → told_typdef typ rs ≡ typ
typdef_stays typ cs rs e =
    ap (λ (d : Option Dss). typdef_in (option_and_then (λ (d : Dss). accepted_of (data_of d.body)) d) typ) (none_found typ cs rs e)

-- all of the segment ran, and the unit is where it leads, with what was answered before
pub record IsAhead {S U : Type 0} (m : Meaning S U) (v : Values S U) (typ : TypDef) (st : Standing) (again g : List Command) (ran : ℕ) (part : List Dss) (u : U)
    : Type 0 where
  -- as long as SETs alone ran
  pub leads : AllByRecursion Set (take ran (numbered 1 g)) → Leads m v.shared st (again ++ take ran (numbered 1 g)) u
  pub replies : AllByRecursion Set (take ran (numbered 1 g)) → (t : S) → v.shared t
      → part ≡ flat (answers m t (led m t (m.base st) again) (take ran (numbered 1 g)))
  pub good : (t : S) → v.shared t → AreGood typ (answers m t (m.base st) again)

-- what holds of a session at rest
pub record IsLed {S U : Type 0} (m : Meaning S U) (v : Values S U) (typ : TypDef) (st : Standing) (again : List Command) (u : U) : Type 0 where
  pub leads : Leads m v.shared st again u
  pub good : (t : S) → v.shared t → AreGood typ (answers m t (m.base st) again)

pub ahead_start : {S U : Type 0} (m : Meaning S U) (v : Values S U) (typ : TypDef) (st : Standing) (again g : List Command) (u : U)
    → IsLed m v typ st again u → IsAhead m v typ st again g 0 [] u
ahead_start m v typ st again g u l = record {
  leads = λ sets. subst (λ cs. Leads m v.shared st cs u) (sym (append_nil again)) l.leads;
  replies = λ sets t ts. refl;
  good = l.good;
}

pub ahead_rest : {S U : Type 0} (m : Meaning S U) (v : Values S U) (typ : TypDef) (st : Standing) (again g : List Command) (ran : ℕ) (part : List Dss) (u : U)
    → ran ≡ 0 → IsAhead m v typ st again g ran part u → IsLed m v typ st again u
ahead_rest m v typ st again g ran part u z a = record {
  leads = subst (λ cs. Leads m v.shared st cs u) (ap (λ n. again ++ take n (numbered 1 g)) z ∙ append_nil again)
      (a.leads (subst (λ n. AllByRecursion Set (take n (numbered 1 g))) (sym z) tt));
  good = a.good;
}

all_front : {X : Type 0} (P : X → Type 0) (xs ys : List X) → AllByRecursion P (xs ++ ys) → AllByRecursion P xs
all_front P [] ys all = tt
all_front P (x ∷ xs) ys all = (all.0, all_front P xs ys all.1)

all_take : {X : Type 0} (P : X → Type 0) (n : ℕ) (xs : List X) → AllByRecursion P xs → AllByRecursion P (take n xs)
all_take P zero xs all = tt
all_take P (suc n) [] all = tt
all_take P (suc n) (x ∷ xs) all = (all.0, all_take P n xs all.1)

-- the next command runs
pub ahead_run : {S U : Type 0} {m : Meaning S U} {v : Values S U} → Laws m v → (typ : TypDef) (st : Standing) (again g : List Command) (ran : ℕ)
    (part : List Dss) (s : S) (u : U) (c : Command) (cs : List Command) → st.stage ≡ Accessed → v.shared s → AllByRecursion Set again
    → AllByRecursion IsCommand again → AllByRecursion IsCommand g → drop ran (numbered 1 g) ≡ c ∷ cs → IsAhead m v typ st again g ran part u
    → IsAhead m v typ st again g (suc ran) (part ++ m.replies s u (unasked c)) (m.unit_after s u (unasked c))
ahead_run {S} {U} {m = m} {v = v} laws typ st again g ran part s u c cs at sh sets are all e a = record {
  leads = λ more. let f = next (subst (AllByRecursion Set) next_is more) in
      subst (λ xs. Leads m v.shared st xs (m.unit_after s u (unasked c))) (append_assoc again ahead (c ∷ [])
      ∙ ap (λ xs. again ++ xs) (sym next_is)) f.leads;
  replies = λ more t ts.
      let here = subst (AllByRecursion Set) next_is more in
      ap (λ xs. xs ++ m.replies s u (unasked c)) (a.replies (all_front Set ahead (c ∷ []) here) t ts)
      ∙ ap (λ xs. flat (answers m t (led m t (m.base st) again) ahead) ++ xs) ((next here).replies t ts)
      ∙ ap (λ w. flat (answers m t (led m t (m.base st) again) ahead) ++ m.replies t w (unasked c)) (led_both m t (m.base st) again ahead
      ∙ ap (λ d. led m d (led m t (m.base st) again) ahead) (stays again t (m.base st) ts (laws.base_unit st) are sets))
      ∙ sym (ap (λ xs. flat (answers m t (led m t (m.base st) again) xs)) next_is
      ∙ ap flat (answers_both m t (led m t (m.base st) again) ahead (c ∷ []))
      ∙ flat_both (answers m t (led m t (m.base st) again) ahead) (answers m (data_led m t (led m t (m.base st) again) ahead)
      (led m t (led m t (m.base st) again) ahead) (c ∷ []))
      ∙ ap (λ xs. flat (answers m t (led m t (m.base st) again) ahead) ++ xs) (append_nil (m.replies (data_led m t (led m t (m.base st) again) ahead)
      (led m t (led m t (m.base st) again) ahead) (unasked c)))
      ∙ ap (λ d. flat (answers m t (led m t (m.base st) again) ahead) ++ m.replies d (led m t (led m t (m.base st) again) ahead) (unasked c))
      (stays ahead t (led m t (m.base st) again) ts (led_kept laws again t (m.base st) ts (laws.base_unit st) are) some
      (all_front Set ahead (c ∷ []) here)));
  good = a.good;
}
  where
    ahead : List Command
    ahead = take ran (numbered 1 g)

    next_is : take (suc ran) (numbered 1 g) ≡ ahead ++ c ∷ []
    next_is = take_next ran (numbered 1 g) c cs e

    numbers : AllByRecursion IsCommand (numbered 1 g)
    numbers = numbered_commands 1 g all

    some : AllByRecursion IsCommand ahead
    some = all_take IsCommand ran (numbered 1 g) numbers

    stays : (xs : List Command) (t : S) (w : U) → v.shared t → v.unit w → AllByRecursion IsCommand xs → AllByRecursion Set xs → data_led m t w xs ≡ t
    stays xs t w ts un ok set = sets_stay laws xs t w ts un ok set

    next : AllByRecursion Set (ahead ++ c ∷ []) → Further m v.shared st (again ++ ahead) c s u
    next here =
        let front = all_front Set ahead (c ∷ []) here in
        let whole = subst (AllByRecursion IsCommand) next_is (all_take IsCommand (suc ran) (numbered 1 g) numbers) in
        further laws st (again ++ ahead) c s u at sh
        (subst (AllByRecursion Set) (sym (append_assoc again ahead (c ∷ []))) (all_append Set again (ahead ++ c ∷ []) sets here))
        (subst (AllByRecursion IsCommand) (sym (append_assoc again ahead (c ∷ []))) (all_append IsCommand again (ahead ++ c ∷ []) are whole))
        (all_append Set again ahead sets front) (all_append IsCommand again ahead are some) (a.leads front)

-- ---- the segment joins what runs again

numbered_length : (k : ℕ) (g : List Command) → length (numbered k g) ≡ length g
numbered_length k [] = refl
numbered_length k (c ∷ g) = ap suc (numbered_length (k + 1) g)

numbered_sets : (k : ℕ) (g : List Command) → AllByRecursion Set g → AllByRecursion Set (numbered k g)
numbered_sets k [] sets = tt
numbered_sets k (c ∷ g) sets = (sets.0, numbered_sets (k + 1) g sets.1)

to_numbered : (k : ℕ) (g : List Command) → AreSame g (numbered k g)
to_numbered k [] = tt
to_numbered k (c ∷ g) = (record { code = refl; body = refl; objects = refl }, to_numbered (k + 1) g)

from_numbered : (k : ℕ) (g : List Command) → AreSame (numbered k g) g
from_numbered k [] = tt
from_numbered k (c ∷ g) = (record { code = refl; body = refl; objects = refl }, from_numbered (k + 1) g)

-- all of it ran, where it was answered so
all_ran : (ran : ℕ) (g : List Command) (part : List Dss) → stops g part ≡ false → left_to_run g ran part ≡ [] → take ran (numbered 1 g) ≡ numbered 1 g
all_ran ran g part goes none =
    sym (append_nil (take ran (numbered 1 g)))
    ∙ ap (λ xs. take ran (numbered 1 g) ++ xs) (sym (sym (cond-false (stops g part) [] (drop ran (numbered 1 g)) goes) ∙ none))
    ∙ take-append-drop ran (numbered 1 g)

pub joined : {S U : Type 0} {m : Meaning S U} {v : Values S U} → Laws m v → (typ : TypDef) (st : Standing) (again g : List Command) (ran : ℕ)
    (part : List Dss) (u : U) → AllByRecursion Set again → AllByRecursion IsCommand again → AllByRecursion IsCommand g → AreUpTo ran part
    → left_to_run g ran part ≡ [] → sets_only typ g (replies_of g part) ≡ true → without_error (replies_of g part) ≡ true
    → IsAhead m v typ st again g ran part u → IsLed m v typ st (again ++ g) u
joined {S} {U} {m = m} {v = v} laws typ st again g ran part u sets are all up none well calm a = record {
  leads = λ t ts.
      subst (λ xs. Leads m v.shared st (again ++ xs) u) ran_is (a.leads ran_sets) t ts
      ∙ led_both m t (m.base st) again xs
      ∙ ap (λ d. led m d (there t) xs) (stays t ts)
      ∙ led_same laws g xs t (there t) ts (unit t ts) all (to_numbered 1 g)
      ∙ sym (led_both m t (m.base st) again g ∙ ap (λ d. led m d (there t) g) (stays t ts));
  good = λ t ts.
      subst (AreGood typ) (sym (answers_both m t (m.base st) again g
      ∙ ap (λ d. answers m t (m.base st) again ++ answers m d (there t) g) (stays t ts)))
      (all_append (IsGood typ) (answers m t (m.base st) again) (answers m t (there t) g) (a.good t ts)
      (subst (AreGood typ) (sym (answered_same laws xs g t (there t) ts (unit t ts) numbers (from_numbered 1 g)))
      (good_renumbered typ g (answers m t (there t) xs) (goods t ts))));
}
  where
    xs : List Command
    xs = numbered 1 g

    g_sets : AllByRecursion Set g
    g_sets = sets_are typ g (replies_of g part) well

    back : replies_of g part ≡ map (given_back g) part
    back = sets_back ran g part g_sets up

    no_error : list_any tells_error part ≡ false
    no_error = no_errors g typ g part (ap (sets_only typ g) (sym back) ∙ well)
        (ap (list_any tells_error) (sym back) ∙ not_true (list_any tells_error (replies_of g part)) calm)

    ran_is : take ran xs ≡ xs
    ran_is = all_ran ran g part (no_stop g part no_error) none

    ran_sets : AllByRecursion Set (take ran xs)
    ran_sets = subst (AllByRecursion Set) (sym ran_is) (numbered_sets 1 g g_sets)

    numbers : AllByRecursion IsCommand xs
    numbers = numbered_commands 1 g all

    there : S → U
    there t = led m t (m.base st) again

    unit : (t : S) → v.shared t → v.unit (there t)
    unit t ts = led_kept laws again t (m.base st) ts (laws.base_unit st) are

    stays : (t : S) → v.shared t → data_led m t (m.base st) again ≡ t
    stays t ts = sets_stay laws again t (m.base st) ts (laws.base_unit st) are sets

    whole : (t : S) → v.shared t → part ≡ flat (answers m t (there t) xs)
    whole t ts = a.replies ran_sets t ts ∙ ap (λ cs. flat (answers m t (there t) cs)) ran_is

    goods : (t : S) → v.shared t → AreGood typ (answers m t (there t) xs)
    goods t ts = are_good typ g g (answers m t (there t) xs) (answers_some laws xs t (there t) ts (unit t ts) numbers)
        (sym (answers_length m t (there t) xs ∙ numbered_length 1 g))
        (ap (λ ds. sets_only typ g (map (given_back g) ds)) (sym (whole t ts)) ∙ ap (sets_only typ g) (sym back) ∙ well)
        (ap (list_any tells_error) (sym (whole t ts)) ∙ no_error)
