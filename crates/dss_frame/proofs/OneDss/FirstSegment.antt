-- What the segment that bytes begin with comes to, and so where the last segment ends or a length is too short.
use Rattle.std.proofs.Common.{◌≡◌, ℕ, zero, suc, ◌+◌, ◌<◌, ◌≤◌, Bool, true, false, List, length, drop, cond, refl, sym, ◌∙◌, arith, inl, inr}
use Rattle.std.proofs.lemmas.Bool.{cases_lt, cases_Bool, cond-true, cond-false, lt-ltb, le-ltb}
use Rattle.std.proofs.lemmas.List.{length-drop}
use Rattle.dss_frame.specs.declared.fault.Why.{Why}
use Rattle.dss_frame.specs.declared.fault.Why.TheVariants.{Continue}
use Rattle.dss_frame.specs.declared.segments.Extent.{Extent}
use Rattle.dss_frame.specs.declared.segments.Extent.TheVariants.{Awaits, Ends, Fails}
use Rattle.dss_frame.specs.Segments.{segment_size, continues, segments_extent}

pub extent_none : (offset : ℕ) (bytes : List ℕ) → segments_extent 0 offset bytes ≡ Awaits
unfolding segments_extent
extent_none offset bytes = refl

pub extent_short : (count offset : ℕ) (bytes : List ℕ) → length bytes < 2 → segments_extent count offset bytes ≡ Awaits
unfolding segments_extent
extent_short zero offset bytes short = refl
extent_short (suc count) offset bytes short = cond-true _ _ _ (lt-ltb _ _ short)

pub extent_low : (count offset : ℕ) (bytes : List ℕ) → 2 ≤ length bytes → segment_size bytes < 3
    → segments_extent (suc count) offset bytes ≡ Fails offset Continue
unfolding segments_extent
extent_low count offset bytes long low = cond-false _ _ _ (le-ltb _ _ long) ∙ cond-true _ _ _ (lt-ltb _ _ low)

pub extent_cut : (count offset : ℕ) (bytes : List ℕ) → 2 ≤ length bytes → 3 ≤ segment_size bytes → length bytes < segment_size bytes
    → segments_extent count offset bytes ≡ Awaits
unfolding segments_extent
extent_cut zero offset bytes long least cut = refl
extent_cut (suc count) offset bytes long least cut = cond-false _ _ _ (le-ltb _ _ long) ∙ cond-false _ _ _ (le-ltb _ _ least) ∙ cond-true _ _ _ (lt-ltb _ _ cut)

-- the first segment is whole
pub record IsWhole (bytes : List ℕ) : Type 0 where
  pub long : 2 ≤ length bytes
  pub least : 3 ≤ segment_size bytes
  pub there : segment_size bytes ≤ length bytes

-- what comes after a segment that is whole
abbrev pub after_whole : ℕ → ℕ → ℕ → Bool → List ℕ → Extent
after_whole count offset size more rest = cond more (segments_extent count (offset + size) rest) (Ends (offset + size))

pub extent_whole : (count offset : ℕ) (bytes : List ℕ) → IsWhole bytes
    → segments_extent (suc count) offset bytes ≡ after_whole count offset (segment_size bytes) (continues bytes) (drop (segment_size bytes) bytes)
unfolding segments_extent
extent_whole count offset bytes w =
    cond-false _ _ _ (le-ltb _ _ w.long) ∙ cond-false _ _ _ (le-ltb _ _ w.least) ∙ cond-false _ _ _ (le-ltb _ _ w.there)

pub extent_goes : (count offset : ℕ) (bytes : List ℕ) → IsWhole bytes → continues bytes ≡ true
    → segments_extent (suc count) offset bytes ≡ segments_extent count (offset + segment_size bytes) (drop (segment_size bytes) bytes)
extent_goes count offset bytes w goes = extent_whole count offset bytes w ∙ cond-true _ _ _ goes

pub extent_last : (count offset : ℕ) (bytes : List ℕ) → IsWhole bytes → continues bytes ≡ false
    → segments_extent (suc count) offset bytes ≡ Ends (offset + segment_size bytes)
extent_last count offset bytes w last = extent_whole count offset bytes w ∙ cond-false _ _ _ last

pub data SegmentCase (bytes : List ℕ) : Type 0 where
  NoLength : length bytes < 2 → SegmentCase bytes
  TooShort : 2 ≤ length bytes → segment_size bytes < 3 → SegmentCase bytes
  Partial : 2 ≤ length bytes → 3 ≤ segment_size bytes → length bytes < segment_size bytes → SegmentCase bytes
  Goes : IsWhole bytes → continues bytes ≡ true → SegmentCase bytes
  Last : IsWhole bytes → continues bytes ≡ false → SegmentCase bytes

pub segment_case : (bytes : List ℕ) → SegmentCase bytes
segment_case bytes =
    elim (cases_lt (length bytes) 2) [
      | inl none ↦ NoLength none
      | inr long ↦ elim (cases_lt (segment_size bytes) 3) [
        | inl low ↦ TooShort long low
        | inr least ↦ elim (cases_lt (length bytes) (segment_size bytes)) [
          | inl cut ↦ Partial long least cut
          | inr there ↦ elim (cases_Bool (continues bytes)) [
            | inl goes ↦ Goes (record { long = long; least = least; there = there }) goes
            | inr last ↦ Last (record { long = long; least = least; there = there }) last
          ]
        ]
      ]
    ]

-- where the last segment ends
pub record EndsAt (offset : ℕ) (bytes : List ℕ) (total : ℕ) : Type 0 where
  pub whole : IsWhole bytes
  pub within : total ≤ offset + length bytes
  pub behind : offset + segment_size bytes ≤ total
  pub last : continues bytes ≡ false → total ≡ offset + segment_size bytes

pub segments_end : (count offset : ℕ) (bytes : List ℕ) (total : ℕ) → segments_extent count offset bytes ≡ Ends total → EndsAt offset bytes total
segments_end zero offset bytes total e = absurd (cc (extent_none offset bytes))
segments_end (suc count) offset bytes total e =
    elim (segment_case bytes) [
      | NoLength none ↦ absurd (cc (extent_short (suc count) offset bytes none))
      | TooShort long low ↦ absurd (cc (extent_low count offset bytes long low))
      | Partial long least cut ↦ absurd (cc (extent_cut (suc count) offset bytes long least cut))
      | Goes w goes ↦
          let h = segments_end count (offset + segment_size bytes) (drop (segment_size bytes) bytes) total (sym (extent_goes count offset bytes w goes) ∙ e) in
          let len = length-drop (segment_size bytes) bytes in
          record { whole = w; within = omega arith; behind = omega arith; last = λ none. absurd (cc) }
      | Last w last ↦
          let same : offset + segment_size bytes ≡ total = cc (extent_last count offset bytes w last) in
          record { whole = w; within = omega arith; behind = omega arith; last = λ _. sym same }
    ]

-- where a length stands that is too short
pub segments_fail : (count offset : ℕ) (bytes : List ℕ) (at : ℕ) (why : Why) → segments_extent count offset bytes ≡ Fails at why
    → (offset ≤ at) × (at + 2 ≤ offset + length bytes) × (3 ≤ segment_size bytes → offset + segment_size bytes ≤ at)
segments_fail zero offset bytes at why e = absurd (cc (extent_none offset bytes))
segments_fail (suc count) offset bytes at why e =
    elim (segment_case bytes) [
      | NoLength none ↦ absurd (cc (extent_short (suc count) offset bytes none))
      | TooShort long low ↦
          let same : offset ≡ at = cc (extent_low count offset bytes long low) in
          (omega arith, omega arith, λ h. absurd (omega arith))
      | Partial long least cut ↦ absurd (cc (extent_cut (suc count) offset bytes long least cut))
      | Goes w goes ↦
          let h = segments_fail count (offset + segment_size bytes) (drop (segment_size bytes) bytes) at why (sym (extent_goes count offset bytes w goes)
          ∙ e) in
          let len = length-drop (segment_size bytes) bytes in
          (omega arith, omega arith, λ _. omega arith)
      | Last w last ↦ absurd (cc (extent_last count offset bytes w last))
    ]
