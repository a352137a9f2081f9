-- What a parse answers is what is found in the words.
use Rattle.std.proofs.Common.{◌≡◌, ◌∙◌, ◌&&◌, Bool, true, false, cond, refl, sym, ap, List, [], Option, Some, None}
use Rattle.std.specs.List.{list_all}
use Rattle.std.proofs.lemmas.Bool.{and_parts}
use Rattle.clap.specs.Walk.{Text, Row, is_empty}
use Rattle.clap.specs.Simple.{App, built, is_simple, matches_of}
use Rattle.clap.specs.Takes.{default_passes, takes}
use Rattle.clap.specs.Faults.{fault_of, is_free_app, is_simple_and_free}
use Rattle.clap.specs.declared.error.kind.ErrorKind.{ErrorKind}
use Rattle.clap.specs.declared.error.kind.ErrorKind.TheVariants.{OutOfMemory}
use Rattle.clap.proofs.SimpleLemmas.{is_nil}
use Rattle.server_words.specs.Command.{is_plain, found_by}
use Rattle.server_words.proofs.Taken.{no_fault_taken}

pub found_ok : {X : Type 0} (command : App) (words : List Text) (rows : List Row) → is_plain command ≡ true
    → (is_simple_and_free command ≡ true → fault_of command words ≡ [])
    → (is_simple command ≡ true → (rows ≡ matches_of command words) × X) → Some rows ≡ found_by command words
found_ok {X} command words rows plain faultless matches =
    let outer = and_parts (is_simple_and_free command && list_all default_passes (built command).top.rules) (is_empty (built command).subs) plain in
    let inner = and_parts (is_simple_and_free command) (list_all default_passes (built command).top.rules) outer.0 in
    let simple = (and_parts (is_simple command) (is_free_app (built command)) inner.0).0 in
    let taken : takes command words ≡ true =
    no_fault_taken command words inner.0 inner.1 (is_nil (built command).subs outer.1) (faultless inner.0) in
    ap (λ r. Some r) (matches simple).0 ∙ ap (λ b. cond b (Some (matches_of command words)) None) (sym taken)

pub not_found : (command : App) (words : List Text) (kind : ErrorKind) → (takes command words ≡ true → kind ≡ OutOfMemory) → (kind ≡ OutOfMemory → ⊥)
    → None ≡ found_by command words
not_found command words kind passes other = go (takes command words) passes
  where
    go : (b : Bool) → (b ≡ true → kind ≡ OutOfMemory) → None ≡ cond b (Some (matches_of command words)) None
    go true only = absurd (other (only refl))
    go false only = refl
