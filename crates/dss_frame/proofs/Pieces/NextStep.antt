-- What comes next where a DSS begins, why, and that more bytes change nothing of it.
use Rattle.std.proofs.Common.{◌≡◌, ℕ, ◌<◌, ◌≤◌, List, ◌++◌, length, refl, sym, ap, subst, ◌∙◌, arith, inl, inr}
use Rattle.std.proofs.lemmas.Bool.{cases_lt, lt-ltb, le-ltb, cond-true, cond-false}
use Rattle.std.proofs.lemmas.List.{length-append}
use Rattle.dss_frame.specs.declared.dss.Side.{Side}
use Rattle.dss_frame.specs.declared.fault.Why.{Why}
use Rattle.dss_frame.specs.declared.fault.StreamFault.TheVariants.{Frame, TooLong}
use Rattle.dss_frame.specs.declared.segments.Extent.{Extent}
use Rattle.dss_frame.specs.declared.segments.Extent.TheVariants.{Awaits, Ends, Fails}
use Rattle.dss_frame.specs.declared.step.Position.{Position}
use Rattle.dss_frame.specs.declared.step.Step.TheVariants.{Waits, Reads, Stops}
use Rattle.dss_frame.specs.Segments.{extent_of}
use Rattle.dss_frame.specs.Reading.{further_on, number_for, too_long, step_by, step_of}
use Rattle.dss_frame.proofs.OneDss.Bytes.{number-append}
use Rattle.dss_frame.proofs.OneDss.Judging.{whole_dss, fails_within}
use Rattle.dss_frame.proofs.Pieces.Stable.{extent_append, fails_append, awaits_ends, awaits_fails}

-- the chain has more bytes than there is room for, in what is known of a DSS with these bytes
abbrev pub IsPast : ℕ → List ℕ → Extent → Type 0
IsPast room bytes Awaits = room < length bytes
IsPast room bytes (Ends count) = room < count
IsPast room bytes (Fails offset why) = room ≤ offset

-- what comes next, and why
pub data StepCase (side : Side) (position : Position) (bytes : List ℕ) : Type 0 where
  IsWaiting : extent_of side bytes ≡ Awaits → length bytes ≤ position.room → step_of side position bytes ≡ Waits → StepCase side position bytes
  IsReading : (count : ℕ) → extent_of side bytes ≡ Ends count → count ≤ position.room → 6 ≤ count → count ≤ length bytes → step_of side position bytes ≡ Reads
      count → StepCase side position bytes
  IsLong : (x : Extent) → extent_of side bytes ≡ x → IsPast position.room bytes x → position.room < length bytes → step_of side position bytes ≡ Stops
      (too_long position bytes) → StepCase side position bytes
  IsWrong : (offset : ℕ) (why : Why) → extent_of side bytes ≡ Fails offset why → offset < position.room → offset < length bytes
      → step_of side position bytes ≡ Stops (Frame (further_on position.at offset) why (number_for position bytes offset)) → StepCase side position bytes

pub step_waits : (side : Side) (position : Position) (bytes : List ℕ) → extent_of side bytes ≡ Awaits → length bytes ≤ position.room
    → step_of side position bytes ≡ Waits
step_waits side position bytes e room = ap (step_by position bytes) e ∙ cond-false _ _ _ (le-ltb _ _ room)

pub step_reads : (side : Side) (position : Position) (bytes : List ℕ) (count : ℕ) → extent_of side bytes ≡ Ends count → count ≤ position.room
    → step_of side position bytes ≡ Reads count
step_reads side position bytes count e room = ap (step_by position bytes) e ∙ cond-false _ _ _ (le-ltb _ _ room)

pub step_wrong : (side : Side) (position : Position) (bytes : List ℕ) (offset : ℕ) (why : Why) → extent_of side bytes ≡ Fails offset why
    → offset < position.room
    → step_of side position bytes ≡ Stops (Frame (further_on position.at offset) why (number_for position bytes offset))
step_wrong side position bytes offset why e room = ap (step_by position bytes) e ∙ cond-true _ _ _ (lt-ltb _ _ room)

past_long : (position : Position) (bytes : List ℕ) (x : Extent) → IsPast position.room bytes x → step_by position bytes x ≡ Stops (too_long position bytes)
past_long position bytes Awaits past = cond-true _ _ _ (lt-ltb _ _ past)
past_long position bytes (Ends count) past = cond-true _ _ _ (lt-ltb _ _ past)
past_long position bytes (Fails offset why) past = cond-false _ _ _ (le-ltb _ _ past)

pub step_long : (side : Side) (position : Position) (bytes : List ℕ) (x : Extent) → extent_of side bytes ≡ x → IsPast position.room bytes x
    → step_of side position bytes ≡ Stops (too_long position bytes)
step_long side position bytes x e past = ap (step_by position bytes) e ∙ past_long position bytes x past

step_case_by : (side : Side) (position : Position) (bytes : List ℕ) (x : Extent) → extent_of side bytes ≡ x → StepCase side position bytes
step_case_by side position bytes Awaits e =
    elim (cases_lt position.room (length bytes)) [
      | inl past ↦ IsLong Awaits e past past (step_long side position bytes Awaits e past)
      | inr room ↦ IsWaiting e room (step_waits side position bytes e room)
    ]
step_case_by side position bytes (Ends count) e =
    let h = whole_dss side bytes count e in
    elim (cases_lt position.room count) [
      | inl past ↦ IsLong (Ends count) e past (omega (arith, h.within)) (step_long side position bytes (Ends count) e past)
      | inr room ↦ IsReading count e room h.least h.within (step_reads side position bytes count e room)
    ]
step_case_by side position bytes (Fails offset why) e =
    let h = fails_within side bytes offset why e in
    elim (cases_lt offset position.room) [
      | inl room ↦ IsWrong offset why e room h (step_wrong side position bytes offset why e room)
      | inr past ↦ IsLong (Fails offset why) e past (omega arith) (step_long side position bytes (Fails offset why) e past)
    ]

pub step_case : (side : Side) (position : Position) (bytes : List ℕ) → StepCase side position bytes
step_case side position bytes = step_case_by side position bytes (extent_of side bytes) refl

-- a DSS is read where it is whole within what its chain may have
pub record IsRead (side : Side) (position : Position) (bytes : List ℕ) (count : ℕ) : Type 0 where
  pub ends : extent_of side bytes ≡ Ends count
  pub room : count ≤ position.room
  pub some : 0 < count
  pub within : count ≤ length bytes

pub is_read : (side : Side) (position : Position) (bytes : List ℕ) (count : ℕ) → step_of side position bytes ≡ Reads count → IsRead side position bytes count
is_read side position bytes count e =
    elim (step_case side position bytes) [
      | IsWaiting is room step ↦ absurd (cc)
      | IsReading n is room six within step ↦
          let same : n ≡ count = cc in
          record { ends = is ∙ ap (λ (k : ℕ). Ends k) same; room = omega arith; some = omega arith; within = omega arith }
      | IsLong x is past within step ↦ absurd (cc)
      | IsWrong offset why is room within step ↦ absurd (cc)
    ]

pub waits_awaits : (side : Side) (position : Position) (bytes : List ℕ) → step_of side position bytes ≡ Waits → extent_of side bytes ≡ Awaits
waits_awaits side position bytes e =
    elim (step_case side position bytes) [
      | IsWaiting is room step ↦ is
      | IsReading n is room six within step ↦ absurd (cc)
      | IsLong x is past within step ↦ absurd (cc)
      | IsWrong offset why is room within step ↦ absurd (cc)
    ]

-- ---- where more bytes follow

number_for-append : (position : Position) (bytes more : List ℕ) (offset : ℕ) → offset < length bytes
    → number_for position (bytes ++ more) offset ≡ number_for position bytes offset
number_for-append position bytes more offset within =
    elim (cases_lt offset 6) [
      | inl low ↦ cond-true _ _ _ (lt-ltb _ _ low) ∙ sym (cond-true _ _ _ (lt-ltb _ _ low))
      | inr high ↦ cond-false _ _ _ (le-ltb _ _ high) ∙ number-append 4 bytes more (omega arith) ∙ sym (cond-false _ _ _ (le-ltb _ _ high))
    ]

past_more : (room : ℕ) (bytes more : List ℕ) (x : Extent) → IsPast room bytes x → IsPast room (bytes ++ more) x
past_more room bytes more Awaits past = omega (arith, length-append bytes more)
past_more room bytes more (Ends count) past = past
past_more room bytes more (Fails offset why) past = past

past_later : (side : Side) (room : ℕ) (bytes more : List ℕ) (x : Extent) → extent_of side bytes ≡ Awaits → room < length bytes
    → extent_of side (bytes ++ more) ≡ x → IsPast room (bytes ++ more) x
past_later side room bytes more Awaits waits past e = omega (arith, length-append bytes more)
past_later side room bytes more (Ends count) waits past e = omega (arith, awaits_ends side bytes more count waits e)
past_later side room bytes more (Fails offset why) waits past e = omega (arith, awaits_fails side bytes more offset why waits e)

past_append : (side : Side) (room : ℕ) (bytes more : List ℕ) (x : Extent) → extent_of side bytes ≡ x → IsPast room bytes x
    → IsPast room (bytes ++ more) (extent_of side (bytes ++ more))
past_append side room bytes more x e past =
    elim (extent_append side bytes more) [
      | inr same ↦ subst (IsPast room (bytes ++ more)) (sym (same ∙ e)) (past_more room bytes more x past)
      | inl waits ↦ past_later side room bytes more (extent_of side (bytes ++ more)) waits (subst (IsPast room bytes) (sym e ∙ waits) past) refl
    ]

pub long_append : (side : Side) (position : Position) (bytes more : List ℕ) (x : Extent) → extent_of side bytes ≡ x → IsPast position.room bytes x
    → position.room < length bytes
    → step_of side position (bytes ++ more) ≡ Stops (too_long position bytes)
long_append side position bytes more x e past within =
    step_long side position (bytes ++ more) (extent_of side (bytes ++ more)) refl (past_append side position.room bytes more x e past)
    ∙ ap (λ (n : ℕ). Stops (TooLong (further_on position.at position.room) n)) (number_for-append position bytes more position.room within)

pub wrong_append : (side : Side) (position : Position) (bytes more : List ℕ) (offset : ℕ) (why : Why) → extent_of side bytes ≡ Fails offset why
    → offset < position.room → offset < length bytes
    → step_of side position (bytes ++ more) ≡ Stops (Frame (further_on position.at offset) why (number_for position bytes offset))
wrong_append side position bytes more offset why e room within =
    step_wrong side position (bytes ++ more) offset why (fails_append side bytes more offset why e) room
    ∙ ap (λ (n : ℕ). Stops (Frame (further_on position.at offset) why n)) (number_for-append position bytes more offset within)
