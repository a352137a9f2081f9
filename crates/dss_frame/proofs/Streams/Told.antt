-- What is read without a fault is the stream, and a fault that is told is there.
use Rattle.std.proofs.Common.{◌≡◌, ℕ, ◌+◌, ◌-◌, ◌<◌, ◌≤◌, nat_lt, if◌then◌else◌, List, [], ◌∷◌, map, length, take, drop, All, Some, None, refl, sym}
use Rattle.std.proofs.Common.{ap, subst, ◌∙◌, append-nil, arith}
use Rattle.std.proofs.lemmas.List.{length-append, length-take, take-append-drop}
use Rattle.dss_frame.specs.declared.dss.Side.{Side}
use Rattle.dss_frame.specs.declared.dss.Dss.{Dss}
use Rattle.dss_frame.specs.declared.fault.Why.{Why}
use Rattle.dss_frame.specs.declared.fault.StreamFault.TheVariants.{Frame, TooLong}
use Rattle.dss_frame.specs.declared.segments.Extent.{Extent}
use Rattle.dss_frame.specs.declared.segments.Extent.TheVariants.{Ends, Fails}
use Rattle.dss_frame.specs.Segments.{number_at, extent_of}
use Rattle.dss_frame.specs.Reading.{further_on, number_for, View}
use Rattle.dss_frame.specs.Spelling.{Spells, Spelled, Begins, IsStream, IsBad, IsBeyond, chain_after}
use Rattle.dss_frame.specs.Told.{read, dsss_of, told, number_told}
use Rattle.dss_frame.proofs.Pieces.NextStep.{IsPast}
use Rattle.dss_frame.proofs.Spellings.OneSpelling.{spelled_read, awaited_none, fails_bad}
use Rattle.dss_frame.proofs.Streams.Streams.{all_bytes, rest_fits, some_bytes, one_stream, none_mends}
use Rattle.dss_frame.proofs.Streams.Ended.{chain_fits, Waiting, Long, Wrong, Read, read_of}

-- ---- without a fault

pub is_stream : (side : Side) (limit : ℕ) (bytes : List ℕ) → All (λ byte. byte < 256) bytes → (read side limit bytes).fault ≡ None
    → IsStream side (dsss_of (read side limit bytes)) (read side limit bytes).open bytes
is_stream side limit bytes fits none =
    let r = read side limit bytes in
    let h = read_of side limit bytes fits in
    elim h.last [
      | Waiting no_fault left waits room ↦ record {
        spelled = h.spelled;
        are = sym h.dsss;
        begins = subst (λ (rest : List ℕ). Begins side h.spelled rest bytes) (sym left) h.begins;
        no_more = λ d count spells. awaited_none side r.open d count (ap (extent_of side) left ∙ waits) spells;
      }
      | Long fault x e past within ↦ absurd (cc)
      | Wrong offset why fault e room ↦ absurd (cc)
    ]

-- ---- a field that is none of a DSS

pub wrong_is_bad : (side : Side) (limit : ℕ) (bytes : List ℕ) (r : View) (h : Read side limit bytes r) (offset : ℕ) (why : Why) → All (λ byte. byte < 256) bytes
    → extent_of side h.rest ≡ Fails offset why → IsBad side bytes (length (all_bytes h.spelled) + offset) why
wrong_is_bad side limit bytes r h offset why fits e =
    record {
      spelled = h.spelled;
      rest = h.rest;
      offset = offset;
      begins = h.begins;
      field = fails_bad side h.rest offset why (rest_fits (all_bytes h.spelled) h.rest bytes h.begins.all fits) e;
      there = refl;
    }

-- ---- a byte beyond the limit

past_goes_on : (side : Side) (room : ℕ) (rest : List ℕ) (x : Extent) (d : Dss) (count : ℕ) → extent_of side rest ≡ x → IsPast room rest x → count ≤ room
    → Spells side d (take count rest) → ⊥
past_goes_on side room rest x d count e past le spells =
    let ends : extent_of side rest ≡ Ends (length (take count rest)) = ap (extent_of side) (sym (take-append-drop count rest))
    ∙ spelled_read side d (take count rest) (drop count rest) spells in
    let more : room < length (take count rest) = subst (IsPast room rest) (sym e ∙ ends) past in
    absurd (omega (arith, length-take count rest))

pub long_is_beyond : (side : Side) (limit : ℕ) (bytes : List ℕ) (r : View) (h : Read side limit bytes r) (x : Extent) → extent_of side h.rest ≡ x
    → IsPast r.position.room h.rest x → r.position.room < length h.rest
    → IsBeyond side limit bytes (length (all_bytes h.spelled) + r.position.room)
long_is_beyond side limit bytes r h x e past within =
    let room = h.room in
    let least = h.within in
    record {
      spelled = h.spelled;
      rest = h.rest;
      begins = h.begins;
      within = h.within;
      came = omega arith;
      goes_on = λ d count le spells. past_goes_on side r.position.room h.rest x d count e past (omega arith) spells;
      there = ap (λ (n : ℕ). length (all_bytes h.spelled) + n) h.room;
    }

-- ---- what is told

-- the fault at a field is told as the first
pub frame_told : (side : Side) (limit : ℕ) (bytes : List ℕ) (at corr : ℕ) (why : Why) → All (λ byte. byte < 256) bytes
    → (read side limit bytes).fault ≡ Some (Frame at why corr)
    → (place : ℕ) × (bad : IsBad side bytes place why) × (at ≡ told place) × (corr ≡ number_told bad.spelled bad.rest bad.offset)
unfolding wrong_is_bad
frame_told side limit bytes at corr why fits e =
    let r = read side limit bytes in
    let h = read_of side limit bytes fits in
    elim h.last [
      | Waiting no_fault left waits room ↦ absurd (cc)
      | Long fault x is past within ↦ absurd (cc)
      | Wrong offset reason fault is room ↦
          let same_at : further_on r.position.at offset ≡ at = cc in
          let same_why : reason ≡ why = cc in
          let same_corr : number_for r.position h.rest offset ≡ corr = cc in
          let is_why : extent_of side h.rest ≡ Fails offset why = is ∙ ap (λ (w : Why). Fails offset w) same_why in (
            length (all_bytes h.spelled) + offset,
            wrong_is_bad side limit bytes r h offset why fits is_why,
            sym same_at ∙ h.place offset,
            sym same_corr ∙ ap (λ (n : ℕ). if nat_lt offset 6 then n else number_at 4 h.rest) h.before,
          )
    ]

-- that a chain passes the limit is told at the first byte beyond
pub beyond_told : (side : Side) (limit : ℕ) (bytes : List ℕ) (at corr : ℕ) → All (λ byte. byte < 256) bytes
    → (read side limit bytes).fault ≡ Some (TooLong at corr)
    → (place : ℕ) × (beyond : IsBeyond side limit bytes place) × (at ≡ told place) ×
    (corr ≡ number_told beyond.spelled beyond.rest (limit - chain_after 0 beyond.spelled))
unfolding long_is_beyond
beyond_told side limit bytes at corr fits e =
    let r = read side limit bytes in
    let h = read_of side limit bytes fits in
    elim h.last [
      | Waiting no_fault left waits room ↦ absurd (cc)
      | Wrong offset reason fault is room ↦ absurd (cc)
      | Long fault x is past within ↦
          let same_at : further_on r.position.at r.position.room ≡ at = cc in
          let same_corr : number_for r.position h.rest r.position.room ≡ corr = cc in (
            length (all_bytes h.spelled) + r.position.room,
            long_is_beyond side limit bytes r h x is past within,
            sym same_at ∙ h.place r.position.room,
            sym same_corr ∙ ap (λ (n : ℕ). if nat_lt r.position.room 6 then n else number_at 4 h.rest) h.before
                ∙ ap (number_told h.spelled h.rest) h.room,
          )
    ]

-- ---- no fault where none is

-- how many bytes the chain has is no more than all
pub chain_short : (before : ℕ) (spelled : List Spelled) → chain_after before spelled ≤ before + length (all_bytes spelled)
chain_short before [] = omega arith
chain_short before (s ∷ others) =
    let len = length-append s.bytes (all_bytes others) in
    let h = chain_short (if s.dss.chained then before + length s.bytes else 0) others in
    let least = chain_fits s.dss.chained (before + length s.bytes) before (length s.bytes) (omega arith) in
    omega arith

pub beyond_long : (side : Side) (limit : ℕ) (bytes : List ℕ) (place : ℕ) → IsBeyond side limit bytes place → limit < length bytes
beyond_long side limit bytes place b =
    omega (arith, b.came, chain_short 0 b.spelled, ap length b.begins.all, length-append (all_bytes b.spelled) b.rest)

pub no_fault : (side : Side) (limit : ℕ) (bytes : List ℕ) → All (λ byte. byte < 256) bytes → ((place : ℕ) (why : Why) → IsBad side bytes place why → ⊥)
    → ((place : ℕ) → IsBeyond side limit bytes place → ⊥) → (read side limit bytes).fault ≡ None
no_fault side limit bytes fits no_bad no_beyond =
    let r = read side limit bytes in
    let h = read_of side limit bytes fits in
    elim h.last [
      | Waiting none left waits room ↦ none
      | Long fault x e past within ↦ absurd (no_beyond (length (all_bytes h.spelled) + r.position.room) (long_is_beyond side limit bytes r h x e past within))
      | Wrong offset why fault e room ↦ absurd (no_bad (length (all_bytes h.spelled) + offset) why (wrong_is_bad side limit bytes r h offset why fits e))
    ]

pub stream_read : (side : Side) (limit : ℕ) (bytes : List ℕ) (ds : List Dss) (rest : List ℕ) → All (λ byte. byte < 256) bytes → IsStream side ds rest bytes
    → ((place : ℕ) (why : Why) → IsBad side bytes place why → ⊥) → ((place : ℕ) → IsBeyond side limit bytes place → ⊥)
    → ((read side limit bytes).fault ≡ None) × (dsss_of (read side limit bytes) ≡ ds) × ((read side limit bytes).open ≡ rest)
stream_read side limit bytes ds rest fits s no_bad no_beyond =
    let none = no_fault side limit bytes fits no_bad no_beyond in
    let same = one_stream side (dsss_of (read side limit bytes)) ds (read side limit bytes).open rest bytes (is_stream side limit bytes fits none) s in
    (none, same.0, same.1)

short_read : (side : Side) (limit : ℕ) (bytes : List ℕ) (ds : List Dss) (rest : List ℕ) → All (λ byte. byte < 256) bytes → IsStream side ds rest bytes
    → ((place : ℕ) (why : Why) → IsBad side bytes place why → ⊥) → length bytes ≤ limit
    → ((read side limit bytes).fault ≡ None) × (dsss_of (read side limit bytes) ≡ ds) × ((read side limit bytes).open ≡ rest)
short_read side limit bytes ds rest fits s no_bad short =
    stream_read side limit bytes ds rest fits s no_bad (λ place b. let long = beyond_long side limit bytes place b in omega arith)

-- ---- whole spellings

whole_stream : (side : Side) (bytes : List ℕ) (spelled : List Spelled) → Begins side spelled [] bytes
    → IsStream side (map (λ (s : Spelled). s.dss) spelled) [] bytes
whole_stream side bytes spelled begins =
    record {
      spelled = spelled;
      are = refl;
      begins = begins;
      no_more = λ d count spells.
          let some = some_bytes side (record { dss = d; bytes = take count [] }) spells in
          absurd (omega (arith, length-take {A = ℕ} count []));
    }

whole_not_bad : (side : Side) (bytes : List ℕ) (spelled : List Spelled) → All (λ byte. byte < 256) bytes → Begins side spelled [] bytes
    → (place : ℕ) (why : Why) → IsBad side bytes place why → ⊥
whole_not_bad side bytes spelled fits begins place why bad =
    none_mends side bytes place why fits bad [] spelled (record { each = begins.each; all = append-nil bytes ∙ begins.all })

pub whole_read : (side : Side) (limit : ℕ) (bytes : List ℕ) (spelled : List Spelled) → All (λ byte. byte < 256) bytes → Begins side spelled [] bytes
    → length bytes ≤ limit
    → ((read side limit bytes).fault ≡ None) × (dsss_of (read side limit bytes) ≡ map (λ (s : Spelled). s.dss) spelled) × ((read side limit bytes).open ≡ [])
whole_read side limit bytes spelled fits begins short =
    short_read side limit bytes (map (λ (s : Spelled). s.dss) spelled) [] fits (whole_stream side bytes spelled begins)
    (whole_not_bad side bytes spelled fits begins) short
