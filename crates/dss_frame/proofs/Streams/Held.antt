-- Without a fault a reader holds all that follows the spellings of the DSSs that were taken.
use Rattle.std.proofs.Common.{◌≡◌, ℕ, ◌+◌, ◌-◌, ◌^◌, ◌<◌, min, List, [], ◌∷◌, ◌++◌, map, length, All, None, refl, sym, ap, ◌∙◌, append_assoc, arith}
use Rattle.std.specs.List.{AllByRecursion}
use Rattle.std.proofs.lemmas.List.{length-append}
use Rattle.dss_frame.specs.declared.dss.Side.{Side}
use Rattle.dss_frame.specs.declared.dss.Dss.{Dss}
use Rattle.dss_frame.specs.declared.dss.Placed.{Placed}
use Rattle.dss_frame.specs.declared.step.Position.{Position}
use Rattle.dss_frame.specs.Reading.{View, first_position, start, position_after, fed, behind}
use Rattle.dss_frame.specs.Calls.{Call, after_calls, taken_by, fed_by}
use Rattle.dss_frame.specs.Spelling.{Spelled, IsSpelled}
use Rattle.dss_frame.specs.Held.{first_place, read_behind, held_of, HoldsRest}
use Rattle.dss_frame.proofs.Pieces.Calls.{calls_read}
use Rattle.dss_frame.proofs.Streams.Ended.{position_on, placed_on, place_on, Outcome, Waiting, Long, Wrong, fed_ended}
use Rattle.dss_frame.proofs.Streams.Streams.{all_bytes}

-- the spellings are those of the DSSs that were taken, and then those of the DSSs that are left
record Cut (side : Side) (limit : ℕ) (position : Position) (spelled : List Spelled) (taken left : List Placed) : Type 0 where
  gone : List Spelled
  kept : List Spelled
  bytes : all_bytes spelled ≡ all_bytes gone ++ all_bytes kept
  each : AllByRecursion (IsSpelled side) gone
  are : map (λ (s : Spelled). s.dss) gone ≡ map (λ (p : Placed). p.dss) taken
  placed : left ≡ placed_on limit (position_on limit position gone) kept
  ends : position_on limit position spelled ≡ position_on limit (position_on limit position gone) kept

cut : (side : Side) (limit : ℕ) (position : Position) (spelled : List Spelled) (taken left : List Placed) → AllByRecursion (IsSpelled side) spelled
    → taken ++ left ≡ placed_on limit position spelled → Cut side limit position spelled taken left
cut side limit position spelled [] left each e =
    record { gone = []; kept = spelled; bytes = refl; each = tt; are = refl; placed = e; ends = refl }
cut side limit position [] (p ∷ taken) left each e = absurd (cc)
cut side limit position (s ∷ spelled) (p ∷ taken) left each e =
    let next = position_after limit position s.dss (length s.bytes) in
    let first : Placed = record { at = position.at; dss = s.dss } in
    let head : p ≡ first = cc in
    let tail : taken ++ left ≡ placed_on limit next spelled = cc in
    let r = cut side limit next spelled taken left each.1 tail in
    record {
      gone = s ∷ r.gone;
      kept = r.kept;
      bytes = ap (λ (xs : List ℕ). s.bytes ++ xs) r.bytes ∙ sym (append_assoc s.bytes (all_bytes r.gone) (all_bytes r.kept));
      each = (each.0, r.each);
      are = ap (λ (d : Dss). d ∷ map (λ (x : Spelled). x.dss) r.gone) (sym (ap (λ (x : Placed). x.dss) head)) ∙ ap (λ (ds : List Dss). p.dss ∷ ds) r.are;
      placed = r.placed;
      ends = r.ends;
    }

first_at : (limit : ℕ) (position : Position) (spelled : List Spelled)
    → first_place (placed_on limit position spelled) (position_on limit position spelled).at ≡ position.at
first_at limit position [] = refl
first_at limit position (s ∷ spelled) = refl

-- what waits is all of the rest
waiting : (side : Side) (position : Position) (rest : List ℕ) (r : View) → Outcome side position rest r → r.fault ≡ None → r.open ≡ rest
waiting side position rest r (Waiting none is awaits room) e = is
waiting side position rest r (Long fault x is past within) e = absurd (cc)
waiting side position rest r (Wrong offset why fault is room) e = absurd (cc)

counted : (all gone kept rest at first most : ℕ) → all ≡ gone + kept → all + rest < most → at ≡ min (0 + all) most → first ≡ min (0 + gone) most
    → min (at - first + rest) most ≡ kept + rest
counted all gone kept rest at first most split small a f = omega arith

pub holds_rest : (side : Side) (limit : ℕ) (calls : List Call) → All (λ byte. byte < 256) (fed_by calls) → length (fed_by calls) < 2 ^ 64 - 1
    → (after_calls (start side limit) calls).fault ≡ None
    → HoldsRest side (taken_by (start side limit) calls) (after_calls (start side limit) calls) (fed_by calls)
holds_rest side limit calls fits small none =
    let v : View = after_calls (start side limit) calls in
    let taken : List Placed = taken_by (start side limit) calls in
    let bytes : List ℕ = fed_by calls in
    let first : Position = first_position limit in
    let read : behind taken v ≡ fed (start side limit) bytes = calls_read side limit calls in
    let h = fed_ended side limit bytes fits in
    let position : v.position ≡ position_on limit first h.spelled = ap (λ (w : View). w.position) read ∙ h.position in
    let c = cut side limit first h.spelled taken v.whole h.begins.each (ap (λ (w : View). w.whole) read ∙ h.whole) in
    let there : Position = position_on limit first c.gone in
    let rest_is : v.open ≡ h.rest = ap (λ (w : View). w.open) read ∙ waiting side _ h.rest _ h.last (sym (ap (λ (w : View). w.fault) read) ∙ none) in
    let at : v.position.at ≡ min (0 + length (all_bytes h.spelled)) (2 ^ 64 - 1) = ap (λ (p : Position). p.at) position
    ∙ place_on limit first h.spelled (omega arith) in
    let from : first_place v.whole v.position.at ≡ min (0 + length (all_bytes c.gone)) (2 ^ 64 - 1) =
    ap (λ (ps : List Placed). first_place ps v.position.at) c.placed
    ∙ ap (λ (p : Position). first_place (placed_on limit there c.kept) p.at) (position ∙ c.ends)
    ∙ first_at limit there c.kept ∙ place_on limit first c.gone (omega arith) in
    let split : length (all_bytes h.spelled) ≡ length (all_bytes c.gone) + length (all_bytes c.kept) = ap length c.bytes
    ∙ length-append (all_bytes c.gone) (all_bytes c.kept) in
    let all : length bytes ≡ length (all_bytes h.spelled) + length h.rest = ap length h.begins.all ∙ length-append (all_bytes h.spelled) h.rest in
    let begun : read_behind v.position.at v.open v.fault ≡ length h.rest = ap (read_behind v.position.at v.open) none ∙ ap length rest_is in
    let sum : held_of v ≡ length (all_bytes c.kept) + length h.rest =
    ap (λ (n : ℕ). min (v.position.at - first_place v.whole v.position.at + n) (2 ^ 64 - 1)) begun
    ∙ counted (length (all_bytes h.spelled)) (length (all_bytes c.gone)) (length (all_bytes c.kept)) (length h.rest) v.position.at
    (first_place v.whole v.position.at) (2 ^ 64 - 1) split (omega arith) at from in
    record {
      spelled = c.gone;
      rest = all_bytes c.kept ++ h.rest;
      begins = record {
        each = c.each;
        all = h.begins.all ∙ ap (λ (xs : List ℕ). xs ++ h.rest) c.bytes ∙ append_assoc (all_bytes c.gone) (all_bytes c.kept) h.rest;
      };
      are = c.are;
      held = sum ∙ sym (length-append (all_bytes c.kept) h.rest);
    }
