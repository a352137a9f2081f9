-- What right words say is enough for a pool.
use Rattle.std.proofs.Common.{◌≡◌, ◌∙◌, ap, sym, refl, subst, ℕ, suc, ◌≤◌, ◌&&◌, Bool, true, false, List, [], ◌∷◌, Option, Some, None, length, arith}
use Rattle.std.specs.Prelude.{option_and_then, option_map, nat_le, codes, if◌then◌else◌}
use Rattle.std.proofs.lemmas.Option.{option_and_then_some}
use Rattle.clap.specs.Walk.{Text, Row, first_of, all_of}
use Rattle.script_words.specs.Number.{number_of, number_within}
use Rattle.server_words.specs.Command.{serve, is_named, found_by}
use Rattle.server_words.specs.Field.{given, each_of, address_of, sessions_of, workers_of, cap_of, member_address, member_weight, is_number_of_members}
use Rattle.server_words.specs.Serve.{Options, Serving, rdb_of, serve_said, serving_of, options_of, with_members, said_in}
use Rattle.server_words.specs.declared.serve.ServeWords.{ServeWords}
use Rattle.serve_command.specs.Serve.{HasPool}

-- a choice that gave something
chosen : {A P : Type 0} (b : Bool) (o : Option A) (y : A) → (if b then o else None) ≡ Some y → (b ≡ true → o ≡ Some y → P) → P
chosen true o y e next = next refl e
chosen false o y e next = absurd (cc)

mapped : {A B P : Type 0} (f : A → B) (o : Option A) (y : B) → option_map f o ≡ Some y → ((x : A) → o ≡ Some x → f x ≡ y → P) → P
mapped f None y e next = absurd (cc)
mapped f (Some x) y e next = next x refl (cc)

same : {A : Type 0} (x y : A) → Some x ≡ Some y → x ≡ y
same x y e = cc

within : (least most : ℕ) (word : List ℕ) (number : ℕ) → number_within least most word ≡ Some number → (least ≤ number) × (number ≤ most)
within least most word number e =
    option_and_then_some (λ n. if nat_le least n && nat_le n most then Some n else None) (number_of word) number e (λ n read f.
    chosen (nat_le least n && nat_le n most) (Some n) number f (λ (is : nat_le least n && nat_le n most ≡ true) (e : Some n ≡ Some number).
    let it = same n number e in
    grind (arith, is, it)))

-- as many values are read as there are words
same_length : {A : Type 0} (read : List ℕ → Option A) (words : List (List ℕ)) (values : List A) → each_of read words ≡ Some values →
    length values ≡ length words
same_length read [] values e = sym (ap (λ vs. length vs) (same [] values e))
same_length {A} read (word ∷ words) values e =
    option_and_then_some (λ value. option_map (λ values. value ∷ values) (each_of read words)) (read word) values e (λ value first f.
    mapped (λ values. value ∷ values) (each_of read words) values f (λ (rest : List A) g h.
    sym (ap (λ vs. length vs) h) ∙ ap (λ n. suc n) (same_length read words rest g)))

-- the options that these values give
abbrev options_by : Text → Text → ℕ → ℕ → ℕ → Options
options_by listen rdb sessions workers cap = record { listen = listen; rdb = rdb; sessions = sessions; workers = workers; cap = cap }

cap_by : (listen rdb : Option Text) (sessions workers cap : Option ℕ) (options : Options) →
    given listen (λ a. given rdb (λ b. given sessions (λ c. given workers (λ d. given cap (λ e. Some (options_by a b c d e)))))) ≡ Some options →
    cap ≡ Some options.cap
cap_by None rdb sessions workers cap options e = absurd (cc)
cap_by (Some a) None sessions workers cap options e = absurd (cc)
cap_by (Some a) (Some b) None workers cap options e = absurd (cc)
cap_by (Some a) (Some b) (Some c) None cap options e = absurd (cc)
cap_by (Some a) (Some b) (Some c) (Some d) None options e = absurd (cc)
cap_by (Some a) (Some b) (Some c) (Some d) (Some n) options e = ap (λ (o : Options). Some o.cap) (same (options_by a b c d n) options e)

-- how many transports may be lent
cap_within : (found : List Row) (options : Options) → options_of found ≡ Some options → (1 ≤ options.cap) × (options.cap ≤ 32)
unfolding options_of
cap_within found options e =
    let cap : given (first_of (codes "cap") found) cap_of ≡ Some options.cap =
    cap_by (given (first_of (codes "listen") found) address_of) (given (first_of (codes "rdb") found) rdb_of)
    (given (first_of (codes "sessions") found) sessions_of) (given (first_of (codes "workers") found) workers_of)
    (given (first_of (codes "cap") found) cap_of) options e in
    option_and_then_some cap_of (first_of (codes "cap") found) options.cap cap (λ word is_word is_cap. within 1 32 word options.cap is_cap)

-- what is said with these options of members that have these addresses and weights
abbrev said_by : Options → List Text → List ℕ → Serving
said_by options addresses weights = record { options = options; addresses = addresses; weights = weights }

record IsOf (options : Options) (said : Serving) : Type 0 where
  same : said.options ≡ options
  least : 1 ≤ length said.weights
  most : length said.weights ≤ 32

members_by : (options : Options) (count : ℕ) (addresses : Option (List Text)) (weights : Option (List ℕ)) (said : Serving) →
    is_number_of_members count ≡ true → ((read : List ℕ) → weights ≡ Some read → length read ≡ count) →
    given addresses (λ a. option_map (said_by options a) weights) ≡ Some said → IsOf options said
members_by options count None weights said number counted e = absurd (cc)
members_by options count (Some a) None said number counted e = absurd (cc)
members_by options count (Some a) (Some w) said number counted e =
    let is : said_by options a w ≡ said = same (said_by options a w) said e in
    let length_is : length w ≡ count = counted w refl in
    let kept : length said.weights ≡ count = sym (ap (λ (s : Serving). length s.weights) is) ∙ length_is in
    record { same = sym (ap (λ (s : Serving). s.options) is); least = grind (arith, number, kept); most = grind (arith, number, kept) }

members_within : (options : Options) (words : List Text) (said : Serving) → with_members options words ≡ Some said → IsOf options said
unfolding with_members
members_within options words said e =
    chosen (is_number_of_members (length words)) (given (each_of member_address words) (λ a. option_map (said_by options a) (each_of member_weight words)))
    said e (λ number f.
    members_by options (length words) (each_of member_address words) (each_of member_weight words) said number
    (λ read is. same_length member_weight words read is) f)

-- a pool can be made of what is said
record CanPool (said : Serving) : Type 0 where
  least : 1 ≤ said.options.cap
  most : said.options.cap ≤ 32
  some : 1 ≤ length said.weights
  members : length said.weights ≤ 32

serving_within : (found : List Row) (said : Serving) → serving_of found ≡ Some said → CanPool said
unfolding serving_of
serving_within found said e =
    option_and_then_some (λ options. given (all_of (codes "member") found) (with_members options)) (options_of found) said e (λ options are_options f.
    option_and_then_some (with_members options) (all_of (codes "member") found) said f (λ words are_words g.
    let of = members_within options words said g in
    let cap = cap_within found options are_options in
    record {
      least = subst (λ (o : Options). 1 ≤ o.cap) (sym of.same) cap.0;
      most = subst (λ (o : Options). o.cap ≤ 32) (sym of.same) cap.1;
      some = of.least;
      members = of.most;
    }))

said_within : (words : List Text) (said : Serving) → serve_said words ≡ Some said → CanPool said
unfolding serve_said
said_within words said e =
    chosen (is_named (codes "serve") words) (given (found_by serve words) serving_of) said e (λ named f.
    option_and_then_some serving_of (found_by serve words) said f (λ found is_found g. serving_within found said g))

-- a pool can be made of what right words say
pub has_pool : (words : List Text) (said : ServeWords) → Some (said_in said) ≡ serve_said words → HasPool said
has_pool words said e =
    let can = said_within words (said_in said) (sym e) in
    record { least = can.least; most = can.most; some = can.some; members = can.members }
