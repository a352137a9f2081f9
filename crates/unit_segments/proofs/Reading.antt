-- DSSs are read as chains, one after another.
use Rattle.std.proofs.Common.{◌≡◌, ℕ, true, false, cond, List, [], ◌∷◌, ◌++◌, Option, Some, None, Result, Ok, refl, sym, ap, subst, ◌∙◌}
use Rattle.std.specs.Prelude.{IfOk}
use Rattle.std.specs.Option.{option_or}
use Rattle.std.proofs.lemmas.Result.{IfOk-weaker}
use Rattle.link_ends.specs.declared.octets.NoMemory.{NoMemory}
use Rattle.dss_frame.specs.declared.dss.Kind.{Kind}
use Rattle.dss_frame.specs.declared.dss.Kind.TheVariants.{Request, Reply, Object}
use Rattle.dss_frame.specs.declared.dss.Dss.{Dss}
use Rattle.dss_frame.specs.declared.dss.Placed.{Placed}
use Rattle.unit_segments.specs.declared.chain_reader.Awaited.TheVariants as awaits
use Rattle.unit_segments.specs.declared.command.Command.{Command}
use Rattle.unit_segments.specs.declared.fault.ChainFault.{ChainFault}
use Rattle.unit_segments.specs.Chain.{OpenChain, is_request, is_object, order_fault, count_fault, command_fault, dss_fault, with_object, with_dss, command_of}
use Rattle.unit_segments.specs.ChainReader.{with_last, with_begun, chain_in}

-- an object joins the last command
object_joins : (commands : List Command) (command : Command) (d : Dss) →
    with_object (commands ++ command ∷ []) d ≡ commands ++ with_last command d ∷ []
object_joins [] command d = refl
object_joins (first ∷ []) command d = refl
object_joins (first ∷ next ∷ commands) command d = ap (λ (cs : List Command). first ∷ cs) (object_joins (next ∷ commands) command d)

object_kind : (kind : Kind) (number : Option ChainFault) (fault : ChainFault) → cond (is_object kind) number (Some fault) ≡ None → is_request kind ≡ false
object_kind Request number fault e = absurd cc
object_kind Reply number fault e = refl
object_kind Object number fault e = refl

request_kind : (kind : Kind) (fault : ChainFault) → cond (is_request kind) None (Some fault) ≡ None → is_request kind ≡ true
request_kind Request fault e = refl
request_kind Reply fault e = absurd cc
request_kind Object fault e = absurd cc

pub grown_by_object : (commands : List Command) (command grown : Command) (before : ℕ) (placed : Placed) →
    order_fault (awaits.Object command.corr) before placed ≡ None → grown ≡ with_last command placed.dss →
    commands ++ grown ∷ [] ≡ with_dss (commands ++ command ∷ []) placed
grown_by_object commands command grown before placed fits is =
    let kind : is_request placed.dss.kind ≡ false = object_kind placed.dss.kind _ _ fits in
    let joins : with_dss (commands ++ command ∷ []) placed ≡ with_object (commands ++ command ∷ []) placed.dss = rw kind refl in
    ap (λ (c : Command). commands ++ c ∷ []) is ∙ sym (object_joins commands command placed.dss) ∙ sym joins

pub grown_by_request : (commands : List Command) (grown : Command) (before : ℕ) (placed : Placed) →
    order_fault awaits.Command before placed ≡ None → grown ≡ command_of placed →
    commands ++ grown ∷ [] ≡ with_dss commands placed
grown_by_request commands grown before placed fits is =
    let kind : is_request placed.dss.kind ≡ true = request_kind placed.dss.kind _ fits in
    let joins : with_dss commands placed ≡ commands ++ command_of placed ∷ [] = rw kind refl in
    ap (λ (c : Command). commands ++ c ∷ []) is ∙ sym joins

-- what a call answers that takes out the command that has begun
pub object_answer : (r shown : Result Command NoMemory) (commands : List Command) (begun dest : Option Command) (before : ℕ) (old : OpenChain) (placed : Placed)
    (command : Command) → shown ≡ r → dest ≡ None → begun ≡ Some command → chain_in commands begun before ≡ old →
    order_fault old.awaited old.before placed ≡ None → IfOk r (λ grown. grown ≡ with_last command placed.dss) →
    IfOk shown (λ grown. with_begun commands dest ++ grown ∷ [] ≡ with_dss old.commands placed)
object_answer r shown commands begun dest before old placed command same gone begun_is view fits all =
    let old_is : chain_in commands (Some command) before ≡ old = ap (λ (b : Option Command). chain_in commands b before) (sym begun_is) ∙ view in
    let now : order_fault (awaits.Object command.corr) before placed ≡ None =
    subst (λ (o : OpenChain). order_fault o.awaited o.before placed ≡ None) (sym old_is) fits in
    rw same (IfOk-weaker r _ _ (λ grown is.
    ap (λ (d : Option Command). with_begun commands d ++ grown ∷ []) gone
    ∙ grown_by_object commands command grown before placed now is
    ∙ ap (λ (o : OpenChain). with_dss o.commands placed) old_is) all)

pub request_answer : (shown : Result Command NoMemory) (commands : List Command) (begun dest : Option Command) (before : ℕ) (old : OpenChain) (placed : Placed)
    (grown : Command) → shown ≡ Ok grown → dest ≡ None → begun ≡ None → chain_in commands begun before ≡ old →
    order_fault old.awaited old.before placed ≡ None → grown ≡ command_of placed →
    IfOk shown (λ grown. with_begun commands dest ++ grown ∷ [] ≡ with_dss old.commands placed)
request_answer shown commands begun dest before old placed grown same gone begun_is view fits is =
    let old_is : chain_in commands None before ≡ old = ap (λ (b : Option Command). chain_in commands b before) (sym begun_is) ∙ view in
    let now : order_fault awaits.Command before placed ≡ None =
    subst (λ (o : OpenChain). order_fault o.awaited o.before placed ≡ None) (sym old_is) fits in
    let answer : with_begun commands dest ++ grown ∷ [] ≡ with_dss old.commands placed =
    ap (λ (d : Option Command). with_begun commands d ++ grown ∷ []) gone
    ∙ grown_by_request commands grown before placed now is
    ∙ ap (λ (o : OpenChain). with_dss o.commands placed) old_is in
    rw same answer

-- neither of them is there
neither : (a b : Option ChainFault) → option_or a b ≡ None → (a ≡ None) × (b ≡ None)
neither None b e = (refl, e)
neither (Some fault) b e = absurd cc

-- where a DSS has no fault, it is what is awaited, and there is room for its command
pub record HasNoFault (chain : OpenChain) (placed : Placed) : Type 0 where
  pub order : order_fault chain.awaited chain.before placed ≡ None
  pub count : count_fault chain.commands placed ≡ None

pub no_fault : (chain : OpenChain) (placed : Placed) → dss_fault chain placed ≡ None → HasNoFault chain placed
unfolding dss_fault
no_fault chain placed e =
    let first = neither (order_fault chain.awaited chain.before placed) (option_or (count_fault chain.commands placed) (command_fault placed)) e in
    let second = neither (count_fault chain.commands placed) (command_fault placed) first.1 in
    record { order = first.0; count = second.0 }
