-- The commands of a chain that is read, and of its segments, are such as a chain can have.
use Rattle.std.proofs.Common.{◌≡◌, ◌+◌, ◌≤◌, Bool, true, false, if◌then◌else◌, List, [], ◌∷◌, ◌++◌, length, Option, Some, None, Result, Ok}
use Rattle.std.proofs.Common.{refl, sym, ap, subst, ◌∙◌, arith}
use Rattle.std.specs.Option.{option_or}
use Rattle.std.specs.List.{AllByRecursion}
use Rattle.std.proofs.lemmas.Bool.{cond_both}
use Rattle.dss_frame.specs.declared.dss.Dss.{Dss}
use Rattle.dss_frame.specs.declared.dss.Placed.{Placed}
use Rattle.unit_segments.specs.declared.command.Command.{Command}
use Rattle.unit_segments.specs.declared.fault.ChainFault.{ChainFault}
use Rattle.unit_segments.specs.Limit.{most_chain_bytes}
use Rattle.unit_segments.specs.Command.{BodyFault, body_fault}
use Rattle.unit_segments.specs.Chain.{OpenChain, no_chain, is_request, order_fault, count_fault, at_body, command_fault, dss_fault, command_of}
use Rattle.unit_segments.specs.Chain.{with_object, with_dss, awaited_after, chain_after, chain_by, chain_step}
use Rattle.unit_segments.specs.Segment.{segments_of}
use Rattle.plain_model.specs.Group.{IsCommand}
use Rattle.plain_model.proofs.Segments.{AreSegments, segments_cut}

-- ---- a DSS that ends or goes on a chain

neither : (a b : Option ChainFault) → option_or a b ≡ None → (a ≡ None) × (b ≡ None)
neither None b e = (refl, e)
neither (Some fault) b e = absurd cc

body_none : (placed : Placed) (fault : Option BodyFault) → at_body placed fault ≡ None → fault ≡ None
body_none placed None e = refl
body_none placed (Some fault) e = absurd cc

no_command_fault : (chain : OpenChain) (placed : Placed) → dss_fault chain placed ≡ None → command_fault placed ≡ None
unfolding dss_fault
no_command_fault chain placed e =
    let first = neither (order_fault chain.awaited chain.before placed) (option_or (count_fault chain.commands placed) (command_fault placed)) e in
    let second = neither (count_fault chain.commands placed) (command_fault placed) first.1 in
    second.1

sound_body : (placed : Placed) (b : Bool) → is_request placed.dss.kind ≡ b → (if b then at_body placed (body_fault placed.dss.body) else None) ≡ None
    → b ≡ true → body_fault placed.dss.body ≡ None
sound_body placed true is e t = body_none placed (body_fault placed.dss.body) e
sound_body placed false is e t = absurd cc

-- a DSS that is no fault
pub no_fault : (chain : OpenChain) (placed : Placed) (read : Option (List Command)) → chain_step chain placed ≡ Ok read → dss_fault chain placed ≡ None
unfolding chain_step
no_fault chain placed read e = go (dss_fault chain placed) refl e
  where
    go : (fault : Option ChainFault) → dss_fault chain placed ≡ fault → chain_by chain placed fault ≡ Ok read → dss_fault chain placed ≡ None
    go None is f = is
    go (Some fault) is f = absurd cc

-- ---- its commands

all_and_one : (commands : List Command) (command : Command) → AllByRecursion IsCommand commands → IsCommand command
    → AllByRecursion IsCommand (commands ++ command ∷ [])
all_and_one [] command all is = (is, tt)
all_and_one (c ∷ commands) command all is = (all.0, all_and_one commands command all.1 is)

all_with_object : (commands : List Command) (d : Dss) → AllByRecursion IsCommand commands → AllByRecursion IsCommand (with_object commands d)
all_with_object [] d all = tt
all_with_object (c ∷ []) d all = (record { code = all.0.code; sound = all.0.sound; size = all.0.size }, tt)
all_with_object (c ∷ next ∷ commands) d all = (all.0, all_with_object (next ∷ commands) d all.1)

all_with_dss : (chain : OpenChain) (placed : Placed) → AllByRecursion IsCommand chain.commands → dss_fault chain placed ≡ None
    → length placed.dss.body + 6 ≤ most_chain_bytes → AllByRecursion IsCommand (with_dss chain.commands placed)
all_with_dss chain placed all none size = cond_both (is_request placed.dss.kind)
    (chain.commands ++ command_of placed ∷ []) (with_object chain.commands placed.dss)
    (AllByRecursion IsCommand)
    (λ e. all_and_one chain.commands (command_of placed) all (record {
      code = refl;
      sound = sound_body placed (is_request placed.dss.kind) refl (no_command_fault chain placed none) e;
      size = omega (arith, size);
    }))
    (λ e. all_with_object chain.commands placed.dss all)

pub goes_on_read : (chain : OpenChain) (placed : Placed) (read : Option (List Command)) → chain_step chain placed ≡ Ok read
    → AllByRecursion IsCommand chain.commands → length placed.dss.body + 6 ≤ most_chain_bytes → AllByRecursion IsCommand (chain_after chain placed).commands
goes_on_read chain placed read e all size = cond_both placed.dss.chained
    (record { commands = with_dss chain.commands placed; awaited = awaited_after placed.dss; before = placed.dss.corr }) no_chain
    (λ (o : OpenChain). AllByRecursion IsCommand o.commands)
    (λ c. all_with_dss chain placed all (no_fault chain placed read e) size)
    (λ c. tt)

pub some_is : {A : Type 0} {x y : A} → Some x ≡ Some y → x ≡ y
some_is e = cc

pub read_is : (step : Result (Option (List Command)) ChainFault) (x y : Option (List Command)) → step ≡ Ok x → step ≡ Ok y → x ≡ y
read_is step x y e f = cc

pub ends_read : (chain : OpenChain) (placed : Placed) (commands : List Command) → chain_step chain placed ≡ Ok (Some commands)
    → AllByRecursion IsCommand chain.commands → length placed.dss.body + 6 ≤ most_chain_bytes → AllByRecursion IsCommand commands
unfolding chain_step
ends_read chain placed commands e all size =
    let none = no_fault chain placed (Some commands) e in
    let is : chain_by chain placed None ≡ Ok (Some commands) = ap (chain_by chain placed) (sym none) ∙ e in
    go placed.dss.chained
    (read_is (chain_by chain placed None) (if placed.dss.chained then None else Some (with_dss chain.commands placed)) (Some commands) refl is) none
  where
    go : (b : Bool) → if◌then◌else◌ {A = Option (List Command)} b None (Some (with_dss chain.commands placed)) ≡ Some commands
        → dss_fault chain placed ≡ None → AllByRecursion IsCommand commands
    go true f none = absurd cc
    go false f none = subst (AllByRecursion IsCommand) (some_is f) (all_with_dss chain placed all none size)

-- ---- segments

segments_have : (gs : List (List Command)) → AreSegments gs → AllByRecursion (AllByRecursion IsCommand) gs
segments_have [] all = tt
segments_have (g ∷ gs) all = (all.0.commands, segments_have gs all.1)

pub each_segment : (commands : List Command) → AllByRecursion IsCommand commands → AllByRecursion (AllByRecursion IsCommand) (segments_of commands)
each_segment commands all = segments_have (segments_of commands) (segments_cut commands all)
