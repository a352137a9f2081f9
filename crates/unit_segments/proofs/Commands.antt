-- Commands are written as a chain.
use Rattle.std.proofs.Common.{◌≡◌, ℕ, Bool, not, ◌==◌, List, [], ◌∷◌, ◌++◌, length, refl, sym, ap, ◌∙◌}
use Rattle.std.specs.List.{flat_map}
use Rattle.std.proofs.lemmas.List.{append_assoc, append-nil}
use Rattle.std.proofs.lemmas.Grind.{flat_map-append}
use Rattle.std.proofs.Math.Dec.{eqb-suc-zero}
use Rattle.dss_frame.specs.declared.dss.Dss.{Dss}
use Rattle.dss_frame.specs.Dss.{canonical}
use Rattle.unit_segments.specs.declared.command.Command.{Command}
use Rattle.unit_segments.specs.Spelling.{is_last, command_dsss, chain_dsss, chain_bytes}

is_last_is : {X : Type 0} (xs : List X) → (length xs == 0) ≡ is_last xs
is_last_is [] = refl
is_last_is (x ∷ xs) = eqb-suc-zero (length xs)

abbrev written : List Dss → List ℕ
written dsss = flat_map canonical dsss

chain_none : chain_bytes [] ≡ []
unfolding chain_bytes
chain_none = refl

chain_first : (command : Command) (commands : List Command) →
    chain_bytes (command ∷ commands) ≡ written (command_dsss (not (is_last commands)) command) ++ chain_bytes commands
unfolding chain_bytes
chain_first command commands = flat_map-append canonical (command_dsss (not (is_last commands)) command) (chain_dsss commands)

pub chain_on : (out out_now : List ℕ) (command : Command) (commands left all : List Command) (empty : Bool) →
    out ++ chain_bytes left ≡ chain_bytes all → left ≡ command ∷ commands →
    empty ≡ (length commands == 0) → out_now ≡ out ++ written (command_dsss (not empty) command) → out_now ++ chain_bytes commands ≡ chain_bytes all
chain_on out out_now command commands left all empty so_far first is put =
    let W : Bool → List ℕ = λ last. written (command_dsss (not last) command) in
    ap (λ (xs : List ℕ). xs ++ chain_bytes commands) (put ∙ ap (λ (last : Bool). out ++ W last) (is ∙ is_last_is commands))
    ∙ append_assoc out (W (is_last commands)) (chain_bytes commands)
    ∙ ap (λ (xs : List ℕ). out ++ xs) (sym (chain_first command commands))
    ∙ ap (λ (cs : List Command). out ++ chain_bytes cs) (sym first) ∙ so_far

pub chain_all : (out : List ℕ) (left all : List Command) → out ++ chain_bytes left ≡ chain_bytes all → left ≡ [] → out ≡ chain_bytes all
chain_all out left all so_far none =
    sym (append-nil out) ∙ ap (λ (xs : List ℕ). out ++ xs) (sym chain_none) ∙ ap (λ (cs : List Command). out ++ chain_bytes cs) (sym none) ∙ so_far
