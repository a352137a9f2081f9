-- What an application's bytes go on with, by what their first DSS comes to.
use Rattle.std.proofs.Common.{◌≡◌, Bool, true, false, if◌then◌else◌, List, [], ◌∷◌, drop, Option, Some, None, Result, Ok, Err, refl}
use Rattle.std.proofs.Common.{sym, ap, ◌∙◌, slice_get}
use Rattle.dss_frame.specs.declared.dss.Placed.{Placed}
use Rattle.dss_frame.specs.declared.fault.StreamFault.{StreamFault}
use Rattle.unit_segments.specs.declared.command.Command.{Command}
use Rattle.unit_segments.specs.declared.fault.ChainFault.{ChainFault}
use Rattle.dss_frame.specs.Reading.{View}
use Rattle.unit_segments.specs.Chain.{OpenChain, no_chain, awaited_after, with_dss, chain_by, chain_step, chain_after}
use Rattle.plain_model.specs.Begun.{Chain}
use Rattle.session_core.proofs.Commands.{some_is, no_fault, read_is}
use Rattle.session_core.specs.Incoming.{Incoming, of_chain, Next, next_by, next_in, next_of, without_next}

-- by its first DSS
first_comes : (chain : OpenChain) (whole : List Placed) (fault : Option StreamFault) (placed : Placed) (step : Result (Option (List Command)) ChainFault)
    → slice_get whole 0 ≡ Some placed → chain_step chain placed ≡ step
    → next_in chain whole fault ≡ next_by step (drop 1 whole) (next_in (chain_after chain placed) (drop 1 whole) fault)
unfolding next_in
first_comes chain [] fault placed step first is = absurd cc
first_comes chain (p ∷ whole) fault placed step first is =
    let same : p ≡ placed = some_is first in
    ap (λ (q : Placed). next_by (chain_step chain q) whole (next_in (chain_after chain q) whole fault)) same
    ∙ ap (λ s. next_by s whole (next_in (chain_after chain placed) whole fault)) is

pub goes_on_so : (chain : OpenChain) (whole : List Placed) (fault : Option StreamFault) (placed : Placed) → slice_get whole 0 ≡ Some placed
    → chain_step chain placed ≡ Ok None → next_in chain whole fault ≡ next_in (chain_after chain placed) (drop 1 whole) fault
goes_on_so chain whole fault placed first is = first_comes chain whole fault placed (Ok None) first is

pub ends_so : (chain : OpenChain) (whole : List Placed) (fault : Option StreamFault) (placed : Placed) (commands : List Command)
    → slice_get whole 0 ≡ Some placed → chain_step chain placed ≡ Ok (Some commands)
    → next_in chain whole fault ≡ record { reading = Some (Chain commands); chain = no_chain; whole = drop 1 whole }
ends_so chain whole fault placed commands first is = first_comes chain whole fault placed (Ok (Some commands)) first is

pub fails_so : (chain : OpenChain) (whole : List Placed) (fault : Option StreamFault) (placed : Placed) (bad : ChainFault)
    → slice_get whole 0 ≡ Some placed → chain_step chain placed ≡ Err bad
    → next_in chain whole fault ≡ record { reading = Some (of_chain bad); chain = no_chain; whole = drop 1 whole }
fails_so chain whole fault placed bad first is = first_comes chain whole fault placed (Err bad) first is

-- a DSS that ends a chain leaves none begun
pub ends_after : (chain : OpenChain) (placed : Placed) (commands : List Command) → chain_step chain placed ≡ Ok (Some commands)
    → chain_after chain placed ≡ no_chain
unfolding chain_step
ends_after chain placed commands e =
    let none = no_fault chain placed (Some commands) e in
    let is : chain_by chain placed None ≡ Ok (Some commands) = ap (chain_by chain placed) (sym none) ∙ e in
    go placed.dss.chained refl
    (read_is (chain_by chain placed None) (if placed.dss.chained then None else Some (with_dss chain.commands placed)) (Some commands) refl is)
  where
    go : (b : Bool) → placed.dss.chained ≡ b → if◌then◌else◌ {A = Option (List Command)} b None (Some (with_dss chain.commands placed)) ≡ Some commands
        → chain_after chain placed ≡ no_chain
    go true is f = absurd cc
    go false is f =
        ap (λ b. if b then record { commands = with_dss chain.commands placed; awaited = awaited_after placed.dss; before = placed.dss.corr } else no_chain) is

abbrev the_rest : View → OpenChain → Incoming
the_rest frames chain = record { frames = frames; chain = chain }

-- what is left behind it
pub left_so : (came : Incoming) (frames taken : View) (added : OpenChain) (next : Next) → next_of came ≡ next
    → taken ≡ record frames { whole = next.whole } → record frames { whole = came.frames.whole } ≡ came.frames → added ≡ next.chain
    → record { frames = taken; chain = added } ≡ without_next came
left_so came frames taken added next next_is taken_is frames_are added_is =
    ap (λ (t : View). the_rest t added) (taken_is ∙ ap (λ (f : View). record f { whole = next.whole }) frames_are)
    ∙ ap (λ (o : OpenChain). the_rest (record came.frames { whole = next.whole }) o) added_is
    ∙ ap (λ (m : Next). the_rest (record came.frames { whole = m.whole }) m.chain) (sym next_is)
