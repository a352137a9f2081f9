-- The lines of triplets and of chains, one after another.
use Rattle.std.proofs.Common.{◌≡◌, ℕ, ◌+◌, ◌-◌, ◌<◌, ◌≤◌, List, [], ◌∷◌, ◌++◌, length, drop, get_or, Some, None, Ok, Err, refl, ap, sym, ◌∙◌, append_assoc}
use Rattle.std.proofs.Common.{append-nil, arith}
use Rattle.std.specs.Prelude.{slice_get}
use Rattle.std.proofs.lemmas.List.{drop_more, length-drop}
use Rattle.dss_frame.specs.declared.dss.Placed.{Placed}
use Rattle.unit_segments.specs.declared.command.Command.{Command}
use Rattle.fdoca_pass.specs.declared.fault.TripletFault.{TripletFault}
use Rattle.fdoca_pass.specs.Triplets.{Described, Triplets, Scan, next_of, after_next}
use Rattle.fdoca_pass.proofs.Walking.{triplets_left, steps, stops, ends}
use Rattle.drda_trace.specs.declared.line.Line.{Line}
use Rattle.drda_trace.specs.declared.line.Line.TheVariants.{TripletFault as BadTriplet}
use Rattle.drda_trace.specs.Lines.{triplet_line, triplets_lines, chain_lines, chains_lines}

-- the line of a triplet, and those of what it leaves, are all
pub triplet_shown : (lines lines_now : List Line) (scan scan_now : Scan) (triplet : Described) → Some (Ok triplet) ≡ next_of scan → scan_now ≡ after_next scan →
    lines_now ≡ lines ++ triplet_line triplet ∷ [] →
    lines_now ++ triplets_lines (triplets_left scan_now) ≡ lines ++ triplets_lines (triplets_left scan)
triplet_shown lines lines_now scan scan_now triplet e after is =
    ap (λ (xs : List Line). xs ++ triplets_lines (triplets_left scan_now)) is
    ∙ ap (λ (s : Scan). (lines ++ triplet_line triplet ∷ []) ++ triplets_lines (triplets_left s)) after
    ∙ append_assoc lines (triplet_line triplet ∷ []) (triplets_lines (triplets_left (after_next scan)))
    ∙ ap (λ (m : Triplets). lines ++ triplets_lines m) (sym (steps scan triplet e).triplets)

-- the line of a fault is the last
pub fault_shown : (lines : List Line) (scan : Scan) (fault : TripletFault) → Some (Err fault) ≡ next_of scan →
    lines ++ BadTriplet ∷ [] ≡ lines ++ triplets_lines (triplets_left scan)
fault_shown lines scan fault e = ap (λ (m : Triplets). lines ++ triplets_lines m) (sym (stops scan fault e))

-- at the end there are none
pub none_shown : (lines : List Line) (scan : Scan) → None ≡ next_of scan → lines ≡ lines ++ triplets_lines (triplets_left scan)
none_shown lines scan e = sym (ap (λ (m : Triplets). lines ++ triplets_lines m) (ends scan e) ∙ append-nil lines)

-- ---- chains

-- the lines of a chain, and those of the chains behind it, are all
pub chain_shown : (lines lines_now : List Line) (number place : ℕ) (chains : List (List Command)) (commands : List Command) (replies : List (List Placed)) →
    place < length chains → commands ≡ get_or chains place commands →
    lines_now ≡ lines ++ chain_lines number commands (slice_get replies (number - 1)) →
    lines_now ++ chains_lines (number + 1) (drop (place + 1) chains) replies ≡ lines ++ chains_lines number (drop place chains) replies
unfolding chains_lines
chain_shown lines lines_now number place chains commands replies within at is =
    let first : drop place chains ≡ commands ∷ drop (place + 1) chains =
    drop_more chains place commands within ∙ ap (λ (c : List Command). c ∷ drop (place + 1) chains) (sym at) in
    ap (λ (xs : List Line). xs ++ chains_lines (number + 1) (drop (place + 1) chains) replies) is
    ∙ append_assoc lines (chain_lines number commands (slice_get replies (number - 1))) (chains_lines (number + 1) (drop (place + 1) chains) replies)
    ∙ sym (ap (λ (cs : List (List Command)). lines ++ chains_lines number cs replies) first)

no_chains : (lines : List Line) (number : ℕ) (chains : List (List Command)) (replies : List (List Placed)) → length chains ≡ 0 →
    lines ≡ lines ++ chains_lines number chains replies
unfolding chains_lines
no_chains lines number [] replies none = sym (append-nil lines)
no_chains lines number (commands ∷ chains) replies none = absurd (omega (arith, none))

-- at the end there are none
pub chains_shown : (lines : List Line) (number place : ℕ) (chains : List (List Command)) (replies : List (List Placed)) → length chains ≤ place →
    lines ≡ lines ++ chains_lines number (drop place chains) replies
chains_shown lines number place chains replies past = no_chains lines number (drop place chains) replies (omega (arith, length-drop place chains, past))
