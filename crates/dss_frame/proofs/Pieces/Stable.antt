-- What is known of one DSS stays known when more bytes follow, and what isn't known yet lies behind the bytes there are.
use Rattle.std.proofs.Common.{◌≡◌, ℕ, zero, suc, ◌+◌, ◌<◌, ◌≤◌, true, List, ◌++◌, length, drop, sym, ap, ◌∙◌, arith, inl, inr, ◌⊎◌}
use Rattle.std.proofs.lemmas.Bool.{cases_lt}
use Rattle.std.proofs.lemmas.List.{length-append, length-drop, get_or_append_left, drop-append-le}
use Rattle.dss_frame.specs.declared.dss.Side.{Side}
use Rattle.dss_frame.specs.declared.fault.Why.{Why}
use Rattle.dss_frame.specs.declared.fault.Why.TheVariants.{Short, NoD0, Format, Continue}
use Rattle.dss_frame.specs.declared.segments.Extent.TheVariants.{Awaits, Ends, Fails}
use Rattle.dss_frame.specs.Segments.{segment_size, continues, is_format_of, field_offset, segments_extent, extent_of}
use Rattle.dss_frame.proofs.OneDss.Bytes.{size-append, continues-append}
use Rattle.dss_frame.proofs.OneDss.FirstSegment.{extent_none, extent_short, extent_low, extent_cut, IsWhole, extent_goes, extent_last, NoLength}
use Rattle.dss_frame.proofs.OneDss.FirstSegment.{TooShort, Partial, Goes, Last, segment_case, segments_end, segments_fail}
use Rattle.dss_frame.proofs.OneDss.Header.{IsHeader, IsFault, InHeader, InSegments, extent_case, extent_bad, extent_good, only_one}

-- ---- the segments

-- the segment that these bytes begin with is the same where more follow
record IsThere (bytes more : List ℕ) : Type 0 where
  whole : IsWhole (bytes ++ more)
  size : segment_size (bytes ++ more) ≡ segment_size bytes
  continues : continues (bytes ++ more) ≡ continues bytes

there : (bytes more : List ℕ) → IsWhole bytes → IsThere bytes more
there bytes more w =
    let size = size-append bytes more w.long in
    let len = length-append bytes more in
    record { whole = record { long = omega arith; least = omega arith; there = omega arith }; size = size; continues = continues-append bytes more w.long }

-- the same of the segments behind the first, where it is whole and goes on
pub goes_append : (count offset : ℕ) (bytes more : List ℕ) → IsWhole bytes → continues bytes ≡ true
    → segments_extent (suc count) offset (bytes ++ more) ≡ segments_extent count (offset + segment_size bytes) (drop (segment_size bytes) bytes ++ more)
goes_append count offset bytes more w goes =
    let t = there bytes more w in
    extent_goes count offset (bytes ++ more) t.whole (t.continues ∙ goes)
    ∙ ap (λ (k : ℕ). segments_extent count (offset + k) (drop k (bytes ++ more))) t.size
    ∙ ap (segments_extent count (offset + segment_size bytes)) (drop-append-le (segment_size bytes) bytes more w.there)

-- what is known stays
known_append : (n m offset : ℕ) (bytes more : List ℕ) → n ≤ m
    → (segments_extent n offset bytes ≡ Awaits) ⊎ (segments_extent m offset (bytes ++ more) ≡ segments_extent n offset bytes)
known_append zero m offset bytes more le = inl (extent_none offset bytes)
known_append (suc n) zero offset bytes more le = absurd (omega arith)
known_append (suc n) (suc m) offset bytes more le =
    elim (segment_case bytes) [
      | NoLength none ↦ inl (extent_short (suc n) offset bytes none)
      | TooShort long low ↦
          let len = length-append bytes more in
          let size = size-append bytes more long in
          inr (extent_low m offset (bytes ++ more) (omega arith) (omega arith) ∙ sym (extent_low n offset bytes long low))
      | Partial long least cut ↦ inl (extent_cut (suc n) offset bytes long least cut)
      | Goes w goes ↦
          let was = extent_goes n offset bytes w goes in
          elim (known_append n m (offset + segment_size bytes) (drop (segment_size bytes) bytes) more (omega arith)) [
            | inl waits ↦ inl (was ∙ waits)
            | inr same ↦ inr (goes_append m offset bytes more w goes ∙ same ∙ sym was)
          ]
      | Last w last ↦
          let t = there bytes more w in
          inr (extent_last m offset (bytes ++ more) t.whole (t.continues ∙ last)
          ∙ ap (λ (k : ℕ). Ends (offset + k)) t.size ∙ sym (extent_last n offset bytes w last))
    ]

-- an end that comes later lies behind the bytes there are
later_end : (n m offset : ℕ) (bytes more : List ℕ) (total : ℕ) → length bytes ≤ n → segments_extent n offset bytes ≡ Awaits
    → segments_extent m offset (bytes ++ more) ≡ Ends total → offset + length bytes < total
later_end zero m offset bytes more total enough waits e = let h = segments_end m offset (bytes ++ more) total e in omega (arith, h.whole.least)
later_end (suc n) zero offset bytes more total enough waits e = absurd (cc (extent_none offset (bytes ++ more)))
later_end (suc n) (suc m) offset bytes more total enough waits e =
    let h = segments_end (suc m) offset (bytes ++ more) total e in
    elim (segment_case bytes) [
      | NoLength none ↦ omega (arith, h.whole.least)
      | TooShort long low ↦ absurd (cc (extent_low n offset bytes long low))
      | Partial long least cut ↦ omega (arith, h.behind, size-append bytes more long)
      | Goes w goes ↦
          let len = length-drop (segment_size bytes) bytes in
          let again = later_end n m (offset + segment_size bytes) (drop (segment_size bytes) bytes) more total (omega arith)
          (sym (extent_goes n offset bytes w goes) ∙ waits) (sym (goes_append m offset bytes more w goes) ∙ e) in
          omega arith
      | Last w last ↦ absurd (cc (extent_last n offset bytes w last))
    ]

-- so does a length that is too short, or its second byte does
later_fail : (n m offset : ℕ) (bytes more : List ℕ) (at : ℕ) (why : Why) → length bytes ≤ n → segments_extent n offset bytes ≡ Awaits
    → segments_extent m offset (bytes ++ more) ≡ Fails at why → offset + length bytes ≤ at + 1
later_fail zero m offset bytes more at why enough waits e = let h = segments_fail m offset (bytes ++ more) at why e in omega (arith, h.0)
later_fail (suc n) zero offset bytes more at why enough waits e = absurd (cc (extent_none offset (bytes ++ more)))
later_fail (suc n) (suc m) offset bytes more at why enough waits e =
    let h = segments_fail (suc m) offset (bytes ++ more) at why e in
    elim (segment_case bytes) [
      | NoLength none ↦ omega (arith, h.0)
      | TooShort long low ↦ absurd (cc (extent_low n offset bytes long low))
      | Partial long least cut ↦
          let same = size-append bytes more long in
          let behind = h.2 (omega arith) in
          omega arith
      | Goes w goes ↦
          let len = length-drop (segment_size bytes) bytes in
          let again = later_fail n m (offset + segment_size bytes) (drop (segment_size bytes) bytes) more at why (omega arith)
          (sym (extent_goes n offset bytes w goes) ∙ waits) (sym (goes_append m offset bytes more w goes) ∙ e) in
          omega arith
      | Last w last ↦ absurd (cc (extent_last n offset bytes w last))
    ]

-- ---- the header

-- a fault of the header stays
fault_append : (side : Side) (bytes more : List ℕ) (why : Why) → IsFault side bytes why → IsFault side (bytes ++ more) why
fault_append side bytes more Short f =
    let same = size-append bytes more f.0 in
    let len = length-append bytes more in
    (omega arith, omega arith)
fault_append side bytes more NoD0 f =
    let third = get_or_append_left bytes more 0 2 (omega (arith, f.0)) in
    let same = size-append bytes more (omega (arith, f.0)) in
    let len = length-append bytes more in
    (omega arith, omega arith, λ h. f.2 (sym third ∙ h))
fault_append side bytes more Format f =
    let third = get_or_append_left bytes more 0 2 (omega (arith, f.0)) in
    let fourth = get_or_append_left bytes more 0 3 (omega (arith, f.0)) in
    let same = size-append bytes more (omega (arith, f.0)) in
    let len = length-append bytes more in
    (omega arith, omega arith, third ∙ f.2, ap (is_format_of side) fourth ∙ f.3)
fault_append side bytes more Continue f = f

-- a header that has come without a fault stays so
pub header_append : (side : Side) (bytes more : List ℕ) → 4 ≤ length bytes → IsHeader side bytes → IsHeader side (bytes ++ more)
header_append side bytes more long h =
    let same = size-append bytes more (omega arith) in
    let six = h.least (omega arith) in
    record {
      least = λ _. omega arith;
      third = λ _. get_or_append_left bytes more 0 2 (omega arith) ∙ h.third (omega arith);
      fourth = λ _. ap (is_format_of side) (get_or_append_left bytes more 0 3 (omega arith)) ∙ h.fourth long;
    }

-- a fault of the header that comes later stands behind the bytes there are, or its second byte does
few_later : (side : Side) (bytes more : List ℕ) (why : Why) → length bytes < 4 → IsHeader side bytes → IsFault side (bytes ++ more) why
    → length bytes ≤ field_offset why + 1
few_later side bytes more Short few h f =
    elim (cases_lt (length bytes) 2) [
      | inl none ↦ omega arith
      | inr both ↦ let six = h.least both in absurd (omega (arith, f.1, size-append bytes more both))
    ]
few_later side bytes more NoD0 few h f = omega arith
few_later side bytes more Format few h f = omega arith
few_later side bytes more Continue few h f = absurd f

header_later : (side : Side) (bytes more : List ℕ) (why : Why) → IsHeader side bytes → IsFault side (bytes ++ more) why → length bytes ≤ field_offset why + 1
header_later side bytes more why h f =
    elim (cases_lt (length bytes) 4) [
      | inr long ↦ absurd (only_one side (bytes ++ more) why (header_append side bytes more long h) f)
      | inl few ↦ few_later side bytes more why few h f
    ]

-- ---- one DSS

few_await : (count : ℕ) (bytes : List ℕ) → length bytes < 6 → (2 ≤ length bytes → 6 ≤ segment_size bytes) → segments_extent count 0 bytes ≡ Awaits
few_await count bytes few least =
    elim (cases_lt (length bytes) 2) [
      | inl none ↦ extent_short count 0 bytes none
      | inr long ↦ let six = least long in extent_cut count 0 bytes long (omega arith) (omega arith)
    ]

-- what is known stays
pub extent_append : (side : Side) (bytes more : List ℕ) → (extent_of side bytes ≡ Awaits) ⊎ (extent_of side (bytes ++ more) ≡ extent_of side bytes)
extent_append side bytes more =
    elim (extent_case side bytes) [
      | InHeader why f within is ↦ inr (extent_bad side (bytes ++ more) why (fault_append side bytes more why f) ∙ sym is)
      | InSegments h is ↦ elim (cases_lt (length bytes) 6) [
        | inl few ↦ inl (is ∙ few_await (length bytes) bytes few h.least)
        | inr long ↦ elim (known_append (length bytes) (length (bytes ++ more)) 0 bytes more (omega (arith, length-append bytes more))) [
          | inl waits ↦ inl (is ∙ waits)
          | inr same ↦ inr (extent_good side (bytes ++ more) (header_append side bytes more (omega arith) h) ∙ same ∙ sym is)
        ]
      ]
    ]

pub ends_append : (side : Side) (bytes more : List ℕ) (count : ℕ) → extent_of side bytes ≡ Ends count → extent_of side (bytes ++ more) ≡ Ends count
ends_append side bytes more count e =
    elim (extent_append side bytes more) [
      | inl waits ↦ absurd (cc)
      | inr same ↦ same ∙ e
    ]

pub fails_append : (side : Side) (bytes more : List ℕ) (offset : ℕ) (why : Why) → extent_of side bytes ≡ Fails offset why
    → extent_of side (bytes ++ more) ≡ Fails offset why
fails_append side bytes more offset why e =
    elim (extent_append side bytes more) [
      | inl waits ↦ absurd (cc)
      | inr same ↦ same ∙ e
    ]

-- what comes later lies behind the bytes there are
pub awaits_ends : (side : Side) (bytes more : List ℕ) (count : ℕ) → extent_of side bytes ≡ Awaits → extent_of side (bytes ++ more) ≡ Ends count
    → length bytes < count
awaits_ends side bytes more count waits e =
    elim (extent_case side bytes) [
      | InHeader why f within is ↦ absurd (cc)
      | InSegments h is ↦ elim (extent_case side (bytes ++ more)) [
        | InHeader why now within now_is ↦ absurd (cc)
        | InSegments now now_is ↦
            let behind = later_end (length bytes) (length (bytes ++ more)) 0 bytes more count (omega arith) (sym is ∙ waits) (sym now_is ∙ e) in
            omega arith
      ]
    ]

pub awaits_fails : (side : Side) (bytes more : List ℕ) (offset : ℕ) (why : Why) → extent_of side bytes ≡ Awaits
    → extent_of side (bytes ++ more) ≡ Fails offset why → length bytes ≤ offset + 1
awaits_fails side bytes more offset why waits e =
    elim (extent_case side bytes) [
      | InHeader w f within is ↦ absurd (cc)
      | InSegments h is ↦ elim (extent_case side (bytes ++ more)) [
        | InHeader w now within now_is ↦
            let same : field_offset w ≡ offset = cc in
            let behind = header_later side bytes more w h now in
            omega arith
        | InSegments now now_is ↦
            let behind = later_fail (length bytes) (length (bytes ++ more)) 0 bytes more offset why (omega arith) (sym is ∙ waits) (sym now_is ∙ e) in
            omega arith
      ]
    ]
