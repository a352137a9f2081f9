-- Where a field is bad or a chain passes the limit, a fault is told there or before.
use Rattle.std.proofs.Common.{◌≡◌, ℕ, ◌+◌, ◌-◌, ◌<◌, ◌≤◌, if◌then◌else◌, List, [], ◌∷◌, ◌++◌, length, All, Some, sym, ap, subst, ◌∙◌, append-nil}
use Rattle.std.proofs.Common.{arith, inl, inr, ◌⊎◌}
use Rattle.std.specs.List.{AllByRecursion}
use Rattle.std.proofs.lemmas.List.{length-append}
use Rattle.std.proofs.lemmas.List.Concat.{flat_map-append}
use Rattle.dss_frame.specs.declared.dss.Side.{Side}
use Rattle.dss_frame.specs.declared.fault.Why.{Why}
use Rattle.dss_frame.specs.declared.fault.StreamFault.TheVariants.{Frame, TooLong}
use Rattle.dss_frame.specs.declared.segments.Extent.TheVariants.{Ends, Fails}
use Rattle.dss_frame.specs.Segments.{extent_of}
use Rattle.dss_frame.specs.Reading.{further_on, number_for, too_long}
use Rattle.dss_frame.specs.Spelling.{Spelled, IsSpelled, IsBad, IsBeyond, chain_after}
use Rattle.dss_frame.specs.Told.{read, TellsFrame, TellsTooLong, TellsFault}
use Rattle.dss_frame.proofs.Pieces.NextStep.{IsPast}
use Rattle.dss_frame.proofs.Spellings.OneSpelling.{bad_fails}
use Rattle.dss_frame.proofs.Streams.Streams.{all_bytes, rest_fits, compare, Longer, Shorter, begins_spelled, begins_ends}
use Rattle.dss_frame.proofs.Streams.Ended.{Fits, Waiting, Long, Wrong, Read, read_of}
use Rattle.dss_frame.proofs.Streams.Told.{wrong_is_bad, long_is_beyond}

tells_too_long : (side : Side) (limit : ℕ) (bytes : List ℕ) (h : Read side limit bytes (read side limit bytes))
    (r_fault : (read side limit bytes).fault ≡ Some (too_long (read side limit bytes).position h.rest))
    → TellsTooLong (read side limit bytes) (length (all_bytes h.spelled) + (read side limit bytes).position.room)
tells_too_long side limit bytes h fault =
    let r = read side limit bytes in (
      number_for r.position h.rest r.position.room,
      fault
          ∙ ap (λ (at : ℕ). Some (TooLong at (number_for r.position h.rest r.position.room))) (h.place r.position.room),
    )

tells_frame : (side : Side) (limit : ℕ) (bytes : List ℕ) (h : Read side limit bytes (read side limit bytes)) (offset : ℕ) (why : Why)
    → (read side limit bytes).fault ≡ Some (Frame (further_on (read side limit bytes).position.at offset) why
    (number_for (read side limit bytes).position h.rest offset))
    → TellsFrame (read side limit bytes) (length (all_bytes h.spelled) + offset) why
tells_frame side limit bytes h offset why fault =
    let r = read side limit bytes in
    (number_for r.position h.rest offset, fault ∙ ap (λ (at : ℕ). Some (Frame at why (number_for r.position h.rest offset))) (h.place offset))

-- what is told of a bad field
abbrev pub BadTold : Side → ℕ → List ℕ → ℕ → Why → Type 0
BadTold side limit bytes place why =
    TellsFrame (read side limit bytes) place why
    ⊎ ((beyond : ℕ) × (beyond ≤ place) × IsBeyond side limit bytes beyond × TellsTooLong (read side limit bytes) beyond)

-- the reader stopped in the last DSS before the bad field, or there
bad_here : (side : Side) (limit : ℕ) (bytes : List ℕ) (h : Read side limit bytes (read side limit bytes)) (place offset : ℕ) (why : Why)
    → extent_of side h.rest ≡ Fails offset why
    → place ≡ length (all_bytes h.spelled) + offset → BadTold side limit bytes place why
bad_here side limit bytes h place offset why e there =
    let r = read side limit bytes in
    elim h.last [
      | Waiting none left waits room ↦ absurd (cc)
      | Long fault x is past within ↦
          let low : r.position.room ≤ offset = subst (IsPast r.position.room h.rest) (sym is ∙ e) past in
          inr (
            length (all_bytes h.spelled) + r.position.room,
            omega arith,
            long_is_beyond side limit bytes r h x is past within,
            tells_too_long side limit
                bytes h fault,
          )
      | Wrong other reason fault is room ↦
          let same_offset : other ≡ offset = cc in
          let same_why : reason ≡ why = cc in
          let t = tells_frame side limit bytes h other reason fault in
          let same_place : length (all_bytes h.spelled) + other ≡ place = omega arith in
          inl (subst (λ (p : ℕ). TellsFrame (read side limit bytes) p why) same_place
          (subst (TellsFrame (read side limit bytes) (length (all_bytes h.spelled) + other)) same_why t))
    ]

-- it stopped in a DSS that is whole
stopped_within : (side : Side) (limit : ℕ) (bytes : List ℕ) (h : Read side limit bytes (read side limit bytes)) (count : ℕ) → extent_of side h.rest ≡ Ends count
    → (beyond : ℕ) × (beyond < length (all_bytes h.spelled) + count) × IsBeyond side limit bytes beyond × TellsTooLong (read side limit bytes) beyond
stopped_within side limit bytes h count e =
    let r = read side limit bytes in
    elim h.last [
      | Waiting none left waits room ↦ absurd (cc)
      | Long fault x is past within ↦
          let low : r.position.room < count = subst (IsPast r.position.room h.rest) (sym is ∙ e) past in (
            length (all_bytes h.spelled) + r.position.room,
            omega arith,
            long_is_beyond side limit bytes r h x is past within,
            tells_too_long side limit bytes
                h fault,
          )
      | Wrong other reason fault is room ↦ absurd (cc)
    ]

bad_behind : (side : Side) (limit : ℕ) (bytes : List ℕ) (h : Read side limit bytes (read side limit bytes)) (place offset : ℕ) (why : Why) (zs : List Spelled)
    (rest : List ℕ)
    → AllByRecursion (IsSpelled side) zs → h.rest ≡ all_bytes zs ++ rest → extent_of side rest ≡ Fails offset why
    → place ≡ length (all_bytes h.spelled) + (length (all_bytes zs) + offset)
    → BadTold side limit bytes place why
bad_behind side limit bytes h place offset why [] rest each e fails there =
    bad_here side limit bytes h place offset why (ap (extent_of side) e ∙ fails) (omega arith)
bad_behind side limit bytes h place offset why (z ∷ zs) rest each e fails there =
    let len = length-append z.bytes (all_bytes zs) in
    let s = stopped_within side limit bytes h (length z.bytes) (begins_ends side z zs h.rest rest each.0 e) in
    inr (s.0, omega (arith, s.1), s.2, s.3)

split_length : (xs ys zs : List Spelled) → xs ≡ ys ++ zs → length (all_bytes xs) ≡ length (all_bytes ys) + length (all_bytes zs)
split_length xs ys zs e =
    ap (λ (ss : List Spelled). length (all_bytes ss)) e ∙ ap length (flat_map-append (λ (s : Spelled). s.bytes) ys zs)
    ∙ length-append (all_bytes ys) (all_bytes zs)

pub bad_told : (side : Side) (limit : ℕ) (bytes : List ℕ) (place : ℕ) (why : Why) → All (λ byte. byte < 256) bytes → IsBad side bytes place why
    → BadTold side limit bytes place why
bad_told side limit bytes place why fits bad =
    let h = read_of side limit bytes fits in
    let fails = bad_fails side bad.rest bad.offset why (rest_fits (all_bytes bad.spelled) bad.rest bytes bad.begins.all fits) bad.field in
    elim (compare side bad.spelled h.spelled bad.rest h.rest bad.begins.each h.begins.each (sym bad.begins.all ∙ h.begins.all)) [
      | Longer zs each grown e ↦
          let len = split_length bad.spelled h.spelled zs grown in
          let there = bad.there in
          bad_behind side limit bytes h place bad.offset why zs bad.rest each e fails (omega arith)
      | Shorter z zs each grown e ↦ let ends = begins_ends side z zs bad.rest h.rest each.0 e in absurd (cc)
    ]

-- what is told where a chain passes the limit
abbrev pub BeyondTold : Side → ℕ → List ℕ → ℕ → Type 0
BeyondTold side limit bytes place =
    TellsTooLong (read side limit bytes) place ⊎ ((other : ℕ) × (other < place) × TellsFault side limit bytes other)

beyond_here : (side : Side) (limit : ℕ) (bytes : List ℕ) (h : Read side limit bytes (read side limit bytes)) (place : ℕ) → All (λ byte. byte < 256) bytes
    → (read side limit bytes).position.room < length h.rest → place ≡ length (all_bytes h.spelled) + (read side limit bytes).position.room
    → BeyondTold side limit bytes place
beyond_here side limit bytes h place fits came there =
    let r = read side limit bytes in
    elim h.last [
      | Waiting none left waits room ↦ absurd (omega arith)
      | Long fault x is past within ↦ inl (subst (TellsTooLong (read side limit bytes)) (sym there) (tells_too_long side limit bytes h fault))
      | Wrong offset why fault is room ↦
          inr (
            length (all_bytes h.spelled) + offset,
            omega arith,
            inl
                (why, wrong_is_bad side limit bytes r h offset why fits is, tells_frame side limit bytes h offset why fault),
          )
    ]

beyond_behind : (side : Side) (limit : ℕ) (bytes : List ℕ) (place : ℕ) → All (λ byte. byte < 256) bytes
    → (h : Read side limit bytes (read side limit bytes)) (b : IsBeyond side limit bytes place) (zs : List Spelled)
    → AllByRecursion (IsSpelled side) zs → b.spelled ≡ h.spelled ++ zs → h.rest ≡ all_bytes zs ++ b.rest → BeyondTold side limit bytes place
beyond_behind side limit bytes place fits h b [] each grown e =
    let same : b.spelled ≡ h.spelled = grown ∙ append-nil h.spelled in
    let room : (read side limit bytes).position.room ≡ limit - chain_after 0 b.spelled = h.room
    ∙ ap (λ (ss : List Spelled). limit - chain_after 0 ss) (sym same) in
    let front : length (all_bytes b.spelled) ≡ length (all_bytes h.spelled) = ap (λ (ss : List Spelled). length (all_bytes ss)) same in
    let rest : length h.rest ≡ length b.rest = ap length e in
    let came = b.came in
    let within = b.within in
    let there = b.there in
    beyond_here side limit bytes h place fits (omega arith) (omega arith)
beyond_behind side limit bytes place fits h b (z ∷ zs) each grown e =
    let len = length-append z.bytes (all_bytes zs) in
    let front = split_length b.spelled h.spelled (z ∷ zs) grown in
    let there = b.there in
    let s = stopped_within side limit bytes h (length z.bytes) (begins_ends side z zs h.rest b.rest each.0 e) in
    inr (s.0, omega (arith, s.1), inr (s.2, s.3))

-- the DSS behind these fits too
next_fits : (limit before : ℕ) (xs : List Spelled) (z : Spelled) (zs : List Spelled) → Fits limit before (xs ++ z ∷ zs)
    → chain_after before xs + length z.bytes ≤ limit
next_fits limit before [] z zs fits = fits.0
next_fits limit before (x ∷ xs) z zs fits = next_fits limit (if x.dss.chained then before + length x.bytes else 0) xs z zs fits.1

pub beyond_found : (side : Side) (limit : ℕ) (bytes : List ℕ) (place : ℕ) → All (λ byte. byte < 256) bytes → IsBeyond side limit bytes place
    → BeyondTold side limit bytes place
beyond_found side limit bytes place fits b =
    let h = read_of side limit bytes fits in
    elim (compare side b.spelled h.spelled b.rest h.rest b.begins.each h.begins.each (sym b.begins.all ∙ h.begins.all)) [
      | Longer zs each grown e ↦ beyond_behind side limit bytes place fits h b zs each grown e
      | Shorter z zs each grown e ↦
          let there : chain_after 0 b.spelled + length z.bytes ≤ limit = next_fits limit 0 b.spelled z zs (subst (Fits limit 0) grown h.fits) in
          absurd (b.goes_on z.dss (length z.bytes) (omega arith) (begins_spelled side z zs b.rest h.rest each.0 e))
    ]
