-- It doesn't matter in what pieces an application's bytes come.
use Rattle.std.proofs.Common.{◌≡◌, ℕ, List, [], ◌∷◌, ◌++◌, Option, Some, None, option_map, Result, Ok, Err, refl, sym, ap, ◌∙◌, append-nil}
use Rattle.dss_frame.specs.declared.dss.Placed.{Placed}
use Rattle.dss_frame.specs.declared.fault.StreamFault.{StreamFault}
use Rattle.dss_frame.specs.Reading.{View, fed, behind}
use Rattle.dss_frame.proofs.Pieces.Pieces.{fed-append, fed-behind}
use Rattle.unit_segments.specs.declared.command.Command.{Command}
use Rattle.unit_segments.specs.declared.fault.ChainFault.{ChainFault}
use Rattle.unit_segments.specs.Chain.{OpenChain, chain_step, chain_after}
use Rattle.session_core.specs.Incoming.{Incoming, with_piece, of_frame, Next, next_by, next_in, next_of, without_next}
use Rattle.gateway_session.specs.Steps.{begun_by, begin_next, after_app}
use Rattle.gateway_session.specs.Laws.{TakesInPieces}

-- ---- DSSs that end no chain

-- all of them are in the chain that isn't whole, and others go on with that
record Goes (chain : OpenChain) (whole : List Placed) (fault : Option StreamFault) (next : Next) : Type 0 where
  pub none : next.whole ≡ []
  pub on : (more : List Placed) (later : Option StreamFault) → next_in chain (whole ++ more) later ≡ next_in next.chain more later

no_frame : (fault : Option StreamFault) → option_map of_frame fault ≡ None → fault ≡ None
no_frame None e = refl
no_frame (Some f) e = absurd cc

goes : (chain : OpenChain) (whole : List Placed) (fault : Option StreamFault) → (next_in chain whole fault).reading ≡ None
    → Goes chain whole fault (next_in chain whole fault)
unfolding next_in
goes chain [] fault e = record { none = refl; on = λ more later. refl }
goes chain (p ∷ whole) fault e = by_step (chain_step chain p) refl e (goes (chain_after chain p) whole fault)
  where
    by_step : (step : Result (Option (List Command)) ChainFault) → chain_step chain p ≡ step
        → (next_by step whole (next_in (chain_after chain p) whole fault)).reading ≡ None
        → ((next_in (chain_after chain p) whole fault).reading ≡ None → Goes (chain_after chain p) whole fault (next_in (chain_after chain p) whole fault))
        → Goes chain (p ∷ whole) fault (next_by (chain_step chain p) whole (next_in (chain_after chain p) whole fault))
    by_step (Err bad) is f later = absurd cc
    by_step (Ok (Some commands)) is f later = absurd cc
    by_step (Ok None) is f later =
        let same : next_by (chain_step chain p) whole (next_in (chain_after chain p) whole fault) ≡ next_in (chain_after chain p) whole fault =
        ap (λ step. next_by step whole (next_in (chain_after chain p) whole fault)) is in
        let rest = later f in
        record {
          none = ap (λ n. n.whole) same ∙ rest.none;
          on = λ more after.
              ap (λ step. next_by step (whole ++ more) (next_in (chain_after chain p) (whole ++ more) after)) is
              ∙ rest.on more after
              ∙ ap (λ n. next_in n.chain more after) (sym same);
        }

-- ---- pieces

-- what is read of two pieces, behind the DSSs that the first made whole
second : (v : View) (p q : List ℕ) → fed v (p ++ q) ≡ behind (fed v p).whole (fed (record (fed v p) { whole = [] }) q)
second v p q =
    let first = fed v p in
    sym (fed-append v p q)
    ∙ ap (λ (whole : List Placed). fed (record first { whole = whole }) q) (sym (append-nil first.whole))
    ∙ fed-behind first.whole (record first { whole = [] }) q

-- the bytes that came, behind a piece with which no chain ended
left_so : (came : Incoming) (p : List ℕ) → (next_of (with_piece p came)).reading ≡ None
    → without_next (with_piece p came) ≡ record { frames = record (fed came.frames p) { whole = [] }; chain = (next_of (with_piece p came)).chain }
left_so came p e =
    ap (λ whole. record { frames = record (fed came.frames p) { whole = whole }; chain = (next_of (with_piece p came)).chain })
    (goes came.chain (fed came.frames p).whole (fed came.frames p).fault e).none

-- what both go on with
both_next : (came : Incoming) (p q : List ℕ) → (next_of (with_piece p came)).reading ≡ None
    → next_of (with_piece q (without_next (with_piece p came))) ≡ next_of (with_piece (p ++ q) came)
both_next came p q e =
    let first = fed came.frames p in
    let next = next_of (with_piece p came) in
    let w = fed (record first { whole = [] }) q in
    ap (λ (i : Incoming). next_of (with_piece q i)) (left_so came p e)
    ∙ sym ((goes came.chain first.whole first.fault e).on w.whole w.fault)
    ∙ ap (λ (v : View). next_in came.chain v.whole v.fault) (sym (second came.frames p q))

both_left : (came : Incoming) (p q : List ℕ) → (next_of (with_piece p came)).reading ≡ None
    → without_next (with_piece q (without_next (with_piece p came))) ≡ without_next (with_piece (p ++ q) came)
both_left came p q e =
    let first = fed came.frames p in
    let w = fed (record first { whole = [] }) q in
    ap (λ (i : Incoming). record {
      frames = record (fed i.frames q) { whole = (next_of (with_piece q (without_next (with_piece p came)))).whole };
      chain = (next_of (with_piece q (without_next (with_piece p came)))).chain;
    }) (left_so came p e)
    ∙ ap (λ (n : Next). record { frames = record w { whole = n.whole }; chain = n.chain }) (both_next came p q e)
    ∙ ap (λ (v : View). record {
      frames = record v { whole = (next_of (with_piece (p ++ q) came)).whole };
      chain = (next_of (with_piece (p ++ q)
          came)).chain;
    })
    (sym (second came.frames p q))

pub taken_in_pieces : TakesInPieces
unfolding begin_next after_app
taken_in_pieces s p q e =
    let first : after_app p s ≡ record s { incoming = without_next (with_piece p s.incoming) } =
    ap (λ o. begun_by o (record s { incoming = without_next (with_piece p s.incoming) })) e in
    ap (after_app q) first
    ∙ ap (λ (n : Next). begun_by n.reading
    (record s { incoming = without_next (with_piece q (without_next (with_piece p s.incoming))) })) (both_next s.incoming p q e)
    ∙ ap (λ (i : Incoming). begun_by (next_of (with_piece (p ++ q) s.incoming)).reading (record s { incoming = i })) (both_left s.incoming p q e)
