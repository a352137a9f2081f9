-- What a reader comes to that got bytes from the start of a DSS: the spellings that it read, and why it stopped there.
use Rattle.std.proofs.Common.{◌≡◌, ℕ, zero, suc, ◌+◌, ◌-◌, ◌^◌, ◌<◌, ◌≤◌, min, Bool, true, false, List, [], ◌∷◌, ◌++◌, map, length, take, All, Some}
use Rattle.std.proofs.Common.{None, if◌then◌else◌, refl, sym, ap, subst, ◌∙◌, append_assoc, append-nil, arith}
use Rattle.std.proofs.lemmas.List.{length-append, length-drop, length-take-le, take-append-drop}
use Rattle.std.proofs.lemmas.List.Elements.{All-drop}
use Rattle.dss_frame.specs.declared.dss.Side.{Side}
use Rattle.dss_frame.specs.declared.dss.Dss.{Dss}
use Rattle.dss_frame.specs.declared.dss.Placed.{Placed}
use Rattle.dss_frame.specs.declared.fault.Why.{Why}
use Rattle.dss_frame.specs.declared.fault.StreamFault.TheVariants.{Frame}
use Rattle.dss_frame.specs.declared.segments.Extent.{Extent}
use Rattle.dss_frame.specs.declared.segments.Extent.TheVariants.{Awaits, Ends, Fails}
use Rattle.dss_frame.specs.declared.step.Position.{Position}
use Rattle.dss_frame.specs.Segments.{extent_of, dss_of}
use Rattle.dss_frame.specs.Reading.{further_on, number_for, too_long, View, first_position, start, position_after, with_bytes, read_on, fed}
use Rattle.dss_frame.specs.Spelling.{Spelled, Begins, chain_after}
use Rattle.dss_frame.specs.Told.{told, number_after}
use Rattle.dss_frame.proofs.Pieces.NextStep.{IsPast, IsWaiting, IsReading, IsLong, IsWrong, step_case}
use Rattle.dss_frame.proofs.Pieces.Pieces.{with_fault, read_next, on_waits, on_reads, on_stops, fed_none}
use Rattle.dss_frame.proofs.Spellings.OneSpelling.{read_spelled}
use Rattle.dss_frame.proofs.Streams.Streams.{all_bytes}

-- ---- positions along spellings

-- where the DSS begins that follows these
abbrev pub position_on : ℕ → Position → List Spelled → Position
position_on limit position [] = position
position_on limit position (s ∷ others) = position_on limit (position_after limit position s.dss (length s.bytes)) others

-- those DSSs, each with the place of its first byte
abbrev pub placed_on : ℕ → Position → List Spelled → List Placed
placed_on limit position [] = []
placed_on limit position (s ∷ others) =
    record { at = position.at; dss = s.dss } ∷ placed_on limit (position_after limit position s.dss (length s.bytes)) others

-- none of these makes its chain longer than it may be, where the chain had so many bytes before
abbrev pub Fits : ℕ → ℕ → List Spelled → Type 0
Fits limit before [] = Unit {0}
Fits limit before (s ∷ others) = (before + length s.bytes ≤ limit) × Fits limit (if s.dss.chained then before + length s.bytes else 0) others

room_after : (chained : Bool) (room limit before count : ℕ) → room ≡ limit - before → before + count ≤ limit
    → (if chained then room - count else limit) ≡ limit - (if chained then before + count else 0)
room_after true room limit before count e fits = omega arith
room_after false room limit before count e fits = omega arith

pub chain_fits : (chained : Bool) (limit before count : ℕ) → before + count ≤ limit → (if chained then before + count else 0) ≤ limit
chain_fits true limit before count fits = fits
chain_fits false limit before count fits = omega arith

pub chain_within : (limit before : ℕ) (spelled : List Spelled) → Fits limit before spelled → before ≤ limit → chain_after before spelled ≤ limit
chain_within limit before [] fits within = within
chain_within limit before (s ∷ others) fits within =
    chain_within limit (if s.dss.chained then before + length s.bytes else 0) others fits.1 (chain_fits s.dss.chained limit before (length s.bytes) fits.0)

pub room_on : (limit before : ℕ) (position : Position) (spelled : List Spelled) → Fits limit before spelled → position.room ≡ limit - before
    → (position_on limit position spelled).room ≡ limit - chain_after before spelled
room_on limit before position [] fits room = room
room_on limit before position (s ∷ others) fits room =
    room_on limit (if s.dss.chained then before + length s.bytes else 0) (position_after limit position s.dss (length s.bytes)) others fits.1
    (room_after s.dss.chained position.room limit before (length s.bytes) room fits.0)

twice : (a b c most : ℕ) → min (min (a + b) most + c) most ≡ min (a + (b + c)) most
twice a b c most = omega arith

once : (a most : ℕ) → a ≤ most → a ≡ min (a + 0) most
once a most le = omega arith

pub place_on : (limit : ℕ) (position : Position) (spelled : List Spelled) → position.at ≤ 2 ^ 64 - 1
    → (position_on limit position spelled).at ≡ further_on position.at (length (all_bytes spelled))
place_on limit position [] small = once position.at (2 ^ 64 - 1) small
place_on limit position (s ∷ others) small =
    place_on limit (position_after limit position s.dss (length s.bytes)) others (omega arith)
    ∙ twice position.at (length s.bytes) (length (all_bytes others)) (2 ^ 64 - 1)
    ∙ ap (further_on position.at) (sym (length-append s.bytes (all_bytes others)))

pub same_dsss : (limit : ℕ) (position : Position) (spelled : List Spelled)
    → map (λ (s : Spelled). s.dss) spelled ≡ map (λ (p : Placed). p.dss) (placed_on limit position spelled)
same_dsss limit position [] = refl
same_dsss limit position (s ∷ others) = ap (λ (ds : List Dss). s.dss ∷ ds) (same_dsss limit (position_after limit position s.dss (length s.bytes)) others)

pub number_on : (limit : ℕ) (position : Position) (spelled : List Spelled) → (position_on limit position spelled).before ≡ number_after position.before spelled
number_on limit position [] = refl
number_on limit position (s ∷ others) = number_on limit (position_after limit position s.dss (length s.bytes)) others

-- ---- where reading ends

-- why no more is read of a rest that begins at a position
pub data Outcome (side : Side) (position : Position) (rest : List ℕ) (r : View) : Type 0 where
  Waiting : r.fault ≡ None → r.open ≡ rest → extent_of side rest ≡ Awaits → length rest ≤ position.room → Outcome side position rest r
  Long : r.fault ≡ Some (too_long position rest) → (x : Extent) → extent_of side rest ≡ x → IsPast position.room rest x → position.room < length rest →
      Outcome side position rest r
  Wrong : (offset : ℕ) (why : Why) → r.fault ≡ Some (Frame (further_on position.at offset) why (number_for position rest offset)) → extent_of side rest ≡
      Fails offset why
      → offset < position.room → Outcome side position rest r

-- the view r comes of reading on at v
pub record Ended (v r : View) : Type 0 where
  pub spelled : List Spelled
  pub rest : List ℕ
  pub begins : Begins v.side spelled rest v.open
  pub whole : r.whole ≡ v.whole ++ placed_on v.limit v.position spelled
  pub position : r.position ≡ position_on v.limit v.position spelled
  pub fits : (before : ℕ) → before ≤ v.limit → v.position.room ≡ v.limit - before → Fits v.limit before spelled
  pub last : Outcome v.side r.position rest r

nothing_read : (v r : View) → r.whole ≡ v.whole → r.position ≡ v.position → Outcome v.side r.position v.open r → Ended v r
nothing_read v r whole position last =
    record {
      spelled = [];
      rest = v.open;
      begins = record { each = tt; all = refl };
      whole = whole ∙ sym (append-nil v.whole);
      position = position;
      fits = λ _ _ _. tt;
      last = last;
    }

-- the DSS that comes next is read before the others
one_more : (v r : View) (count : ℕ) → All (λ byte. byte < 256) v.open → extent_of v.side v.open ≡ Ends count → count ≤ v.position.room → count ≤ length v.open
    → Ended (read_next v count) r → Ended v r
one_more v r count bytes e room within h =
    let d = dss_of (take count v.open) in
    let s : Spelled = record { dss = d; bytes = take count v.open } in
    let len : length (take count v.open) ≡ count = length-take-le count v.open within in
    let next = position_after v.limit v.position d in
    record {
      spelled = s ∷ h.spelled;
      rest = h.rest;
      begins = record {
        each = (read_spelled v.side v.open count bytes e, h.begins.each);
        all = sym (take-append-drop count v.open) ∙ ap (λ (xs : List ℕ). take count v.open ++ xs) h.begins.all
            ∙ sym (append_assoc (take count v.open) (all_bytes h.spelled) h.rest);
      };
      whole = h.whole ∙ append_assoc v.whole (record { at = v.position.at; dss = d } ∷ []) (placed_on v.limit (next count) h.spelled)
          ∙ ap (λ (n : ℕ). v.whole ++ record { at = v.position.at; dss = d } ∷ placed_on v.limit (next n) h.spelled) (sym len);
      position = h.position ∙ ap (λ (n : ℕ). position_on v.limit (next n) h.spelled) (sym len);
      fits = λ before least have.
          let there : before + count ≤ v.limit = omega arith in
          let later = h.fits (if d.chained then before + count else 0) (chain_fits d.chained v.limit before count there)
          (room_after d.chained v.position.room v.limit before count have there) in
          subst (λ (n : ℕ). (before + n ≤ v.limit) × Fits v.limit (if d.chained then before + n else 0) h.spelled) (sym len) (there, later);
      last = h.last;
    }

pub ended : (n : ℕ) (v : View) → All (λ byte. byte < 256) v.open → v.fault ≡ None → length v.open ≤ n → Ended v (read_on n v)
ended zero v bytes none enough =
    elim (step_case v.side v.position v.open) [
      | IsWaiting e room step ↦ subst (Ended v) (sym (on_waits zero v step)) (nothing_read v v refl refl (Waiting none refl e room))
      | IsReading count e room six within step ↦ absurd (omega arith)
      | IsLong x e past within step ↦ absurd (omega arith)
      | IsWrong offset why e room within step ↦ absurd (omega arith)
    ]
ended (suc n) v bytes none enough =
    elim (step_case v.side v.position v.open) [
      | IsWaiting e room step ↦ subst (Ended v) (sym (on_waits (suc n) v step)) (nothing_read v v refl refl (Waiting none refl e room))
      | IsReading count e room six within step ↦
          let len = length-drop count v.open in
          let again = ended n (read_next v count) (All-drop (λ byte. byte < 256) count v.open bytes) none (omega arith) in
          subst (Ended v) (sym (on_reads n v count step)) (one_more v (read_on n (read_next v count)) count bytes e room within again)
      | IsLong x e past within step ↦
          let fault = too_long v.position v.open in
          subst (Ended v) (sym (on_stops n v fault step)) (nothing_read v (with_fault v fault) refl refl (Long refl x e past within))
      | IsWrong offset why e room within step ↦
          let fault = Frame (further_on v.position.at offset) why (number_for v.position v.open offset) in
          subst (Ended v) (sym (on_stops n v fault step)) (nothing_read v (with_fault v fault) refl refl (Wrong offset why refl e room))
    ]

-- what a reader has that got these bytes
pub fed_ended : (side : Side) (limit : ℕ) (bytes : List ℕ) → All (λ byte. byte < 256) bytes
    → Ended (with_bytes (start side limit) bytes) (fed (start side limit) bytes)
fed_ended side limit bytes fits =
    subst (Ended (with_bytes (start side limit) bytes)) (sym (fed_none (start side limit) bytes refl))
    (ended (length bytes) (with_bytes (start side limit) bytes) fits refl (omega arith))

-- the same in the words of the laws
pub record Read (side : Side) (limit : ℕ) (bytes : List ℕ) (r : View) : Type 0 where
  pub spelled : List Spelled
  pub rest : List ℕ
  pub begins : Begins side spelled rest bytes
  pub dsss : map (λ (p : Placed). p.dss) r.whole ≡ map (λ (s : Spelled). s.dss) spelled
  pub place : (offset : ℕ) → further_on r.position.at offset ≡ told (length (all_bytes spelled) + offset)
  pub room : r.position.room ≡ limit - chain_after 0 spelled
  pub within : chain_after 0 spelled ≤ limit
  pub before : r.position.before ≡ number_after 0 spelled
  pub fits : Fits limit 0 spelled
  pub last : Outcome side r.position rest r

along : (at all offset most : ℕ) → at ≡ min (0 + all) most → min (at + offset) most ≡ min (all + offset) most
along at all offset most e = omega arith

pub read_of : (side : Side) (limit : ℕ) (bytes : List ℕ) → All (λ byte. byte < 256) bytes → Read side limit bytes (fed (start side limit) bytes)
read_of side limit bytes bytes_fit =
    let r = fed (start side limit) bytes in
    let h = fed_ended side limit bytes bytes_fit in
    let first = first_position limit in
    let fits : Fits limit 0 h.spelled = h.fits 0 (omega arith) (omega arith) in
    let at : r.position.at ≡ further_on 0 (length (all_bytes h.spelled)) = ap (λ (p : Position). p.at) h.position
    ∙ place_on limit first h.spelled (omega arith) in
    record {
      spelled = h.spelled;
      rest = h.rest;
      begins = h.begins;
      dsss = ap (map (λ (p : Placed). p.dss)) h.whole ∙ sym (same_dsss limit first h.spelled);
      place = λ offset. along r.position.at (length (all_bytes h.spelled)) offset (2 ^ 64 - 1) at;
      room = ap (λ (p : Position). p.room) h.position ∙ room_on limit 0 first h.spelled fits (omega arith);
      within = chain_within limit 0 h.spelled fits (omega arith);
      before = ap (λ (p : Position). p.before) h.position ∙ number_on limit first h.spelled;
      fits = fits;
      last = h.last;
    }
