-- Where no field is bad, more bytes make whole spellings: the length that isn't whole is filled up, and a last segment of
-- one byte ends the DSS.
use Rattle.std.proofs.Common.{◌≡◌, ℕ, zero, suc, ◌+◌, ◌-◌, ◌*◌, ◌%◌, ◌<◌, ◌≤◌, true, false, List, [], ◌∷◌, ◌++◌, length, take, drop, replicate, All}
use Rattle.std.proofs.Common.{refl, sym, ap, subst, ◌∙◌, append_assoc, append-nil, arith, inl, inr}
use Rattle.std.specs.List.{AllByRecursion}
use Rattle.std.proofs.lemmas.Bool.{cases_Bool}
use Rattle.std.proofs.lemmas.List.{length-append, length-take, length-drop, length-replicate, take-append-drop, drop_all, take_all}
use Rattle.std.proofs.lemmas.List.Concat.{flat_map-append}
use Rattle.std.proofs.lemmas.List.Elements.{All-nil, All-cons, All-head, All-append, All-take, All-drop, All-replicate}
use Rattle.dss_frame.specs.declared.dss.Side.{Side}
use Rattle.dss_frame.specs.declared.dss.Side.TheVariants.{Requests, Replies}
use Rattle.dss_frame.specs.declared.fault.Why.{Why}
use Rattle.dss_frame.specs.declared.segments.Extent.TheVariants.{Awaits, Ends, Fails}
use Rattle.dss_frame.specs.Segments.{segment_size, continues, is_format_of, segments_extent, extent_of, dss_of}
use Rattle.dss_frame.specs.Spelling.{Spells, Spelled, IsSpelled, Begins, IsBad}
use Rattle.link_ends.specs.Bytes.{AreBytes}
use Rattle.link_ends.proofs.Lists.{all_push}
use Rattle.dss_frame.proofs.OneDss.Bytes.{size-append, continues-append}
use Rattle.dss_frame.proofs.OneDss.FirstSegment.{extent_low, IsWhole, extent_goes, extent_last, NoLength, TooShort, Partial, Goes, Last, segment_case}
use Rattle.dss_frame.proofs.OneDss.Header.{IsHeader, extent_good, InHeader, InSegments, extent_case}
use Rattle.dss_frame.proofs.OneDss.Judging.{fails_within}
use Rattle.dss_frame.proofs.Pieces.Stable.{goes_append, header_append, fails_append}
use Rattle.dss_frame.proofs.Spellings.OneSpelling.{read_spelled, bad_fails}
use Rattle.dss_frame.proofs.Streams.Streams.{all_bytes, rest_fits, compare, Longer, Shorter, begins_ends}
use Rattle.dss_frame.proofs.Streams.Ended.{Waiting, Long, Wrong, read_of}
use Rattle.dss_frame.proofs.Streams.Told.{beyond_long, no_fault}

none_small : AreBytes []
none_small = All-nil (λ byte. byte < 256)

one_small : (b : ℕ) (bytes : List ℕ) → b < 256 → AreBytes bytes → AreBytes (b ∷ bytes)
one_small b bytes small others = All-cons (λ byte. byte < 256) b bytes small others

-- ---- segments

-- with more bytes the segments end where the bytes do
record Filled (offset : ℕ) (bytes : List ℕ) : Type 0 where
  more : List ℕ
  small : AreBytes more
  ends : (n : ℕ) → length (bytes ++ more) ≤ n → segments_extent n offset (bytes ++ more) ≡ Ends (offset + length (bytes ++ more))

-- a further segment of one byte, the last one
abbrev last_segment : List ℕ
last_segment = 0 ∷ 3 ∷ 0 ∷ []

last_small : AreBytes last_segment
last_small = one_small 0 (3 ∷ 0 ∷ []) (omega arith) (one_small 3 (0 ∷ []) (omega arith) (one_small 0 [] (omega arith) none_small))

last_ends : (n offset : ℕ) → 3 ≤ n → segments_extent n offset last_segment ≡ Ends (offset + 3)
last_ends zero offset some = absurd (omega arith)
last_ends (suc n) offset some = extent_last n offset last_segment (record { long = omega arith; least = omega arith; there = omega arith }) refl

whole_ends : (n offset : ℕ) (bytes : List ℕ) → length bytes ≤ n → IsWhole bytes → length bytes ≡ segment_size bytes → continues bytes ≡ false
    → segments_extent n offset bytes ≡ Ends (offset + length bytes)
whole_ends zero offset bytes enough w full last = absurd (omega (arith, w.long))
whole_ends (suc n) offset bytes enough w full last = extent_last n offset bytes w last ∙ ap (λ (k : ℕ). Ends (offset + k)) (sym full)

whole_goes_on : (n offset : ℕ) (bytes : List ℕ) → length (bytes ++ last_segment) ≤ n → IsWhole bytes → length bytes ≡ segment_size bytes
    → continues bytes ≡ true
    → segments_extent n offset (bytes ++ last_segment) ≡ Ends (offset + length (bytes ++ last_segment))
whole_goes_on zero offset bytes enough w full goes = absurd (omega (arith, length-append bytes last_segment))
whole_goes_on (suc n) offset bytes enough w full goes =
    let len : length (bytes ++ last_segment) ≡ length bytes + 3 = length-append bytes last_segment in
    let rest : drop (segment_size bytes) bytes ++ last_segment ≡ last_segment =
    ap (λ (k : ℕ). drop k bytes ++ last_segment) (sym full) ∙ ap (λ (xs : List ℕ). xs ++ last_segment) (drop_all (length bytes) bytes (omega arith)) in
    let sum : offset + segment_size bytes + 3 ≡ offset + length (bytes ++ last_segment) = omega arith in
    goes_append n offset bytes last_segment w goes
    ∙ ap (segments_extent n (offset + segment_size bytes)) rest
    ∙ last_ends n (offset + segment_size bytes) (omega (arith, w.least))
    ∙ ap (λ (k : ℕ). Ends k) sum

-- a segment whose length has come
fill_segment : (offset : ℕ) (bytes : List ℕ) → 2 ≤ length bytes → 3 ≤ segment_size bytes → length bytes ≤ segment_size bytes → Filled offset bytes
fill_segment offset bytes two least part =
    let zeros : List ℕ = replicate (segment_size bytes - length bytes) 0 in
    let full = bytes ++ zeros in
    let size : segment_size full ≡ segment_size bytes = size-append bytes zeros two in
    let same : continues full ≡ continues bytes = continues-append bytes zeros two in
    let len : length full ≡ segment_size bytes = omega (arith, length-append bytes zeros, length-replicate {A = ℕ} (segment_size bytes - length bytes) 0) in
    let w : IsWhole full = record { long = omega arith; least = omega arith; there = omega arith } in
    let zeros_small : AreBytes zeros = All-replicate (λ byte. byte < 256) (segment_size bytes - length bytes) 0 (omega arith) in
    elim (cases_Bool (continues bytes)) [
      | inr last ↦ record {
        more = zeros;
        small = zeros_small;
        ends = λ n enough. whole_ends n offset full enough w (omega arith) (same ∙ last);
      }
      | inl goes ↦ record {
        more = zeros ++ last_segment;
        small = All-append (λ byte. byte < 256) zeros last_segment zeros_small last_small;
        ends = λ n enough.
            let joined = append_assoc bytes zeros last_segment in
            subst (λ (xs : List ℕ). segments_extent n offset xs ≡ Ends (offset + length xs)) joined
            (whole_goes_on n offset full (subst (λ (xs : List ℕ). length xs ≤ n) (sym joined) enough) w (omega arith) (same ∙ goes));
      }
    ]

-- a further segment whose length hasn't come
fill_length : (offset : ℕ) (bytes : List ℕ) → AreBytes bytes → length bytes < 2 → Filled offset bytes
fill_length offset [] small few =
    record { more = last_segment; small = last_small; ends = λ n enough. last_ends n offset enough }
fill_length offset (b ∷ []) small few =
    let fits : b < 256 = All-head (λ byte. byte < 256) b [] small in
    let h = fill_segment offset (b ∷ 3 ∷ []) (omega arith) (omega arith) (omega arith) in
    record { more = 3 ∷ h.more; small = one_small 3 h.more (omega arith) h.small; ends = h.ends }
fill_length offset (b ∷ c ∷ bytes) small few = absurd (omega arith)

-- the segments behind a whole one are filled up
fill_behind : (n offset : ℕ) (bytes more : List ℕ) → IsWhole bytes → continues bytes ≡ true → length (bytes ++ more) ≤ n
    → ((m : ℕ) → length (drop (segment_size bytes) bytes ++ more) ≤ m
    → segments_extent m (offset + segment_size bytes) (drop (segment_size bytes) bytes ++ more) ≡ Ends
    (offset + segment_size bytes + length (drop (segment_size bytes) bytes ++ more)))
    → segments_extent n offset (bytes ++ more) ≡ Ends (offset + length (bytes ++ more))
fill_behind zero offset bytes more w goes enough ends = absurd (omega (arith, w.long, length-append bytes more))
fill_behind (suc n) offset bytes more w goes enough ends =
    let size = segment_size bytes in
    let all : length (bytes ++ more) ≡ length bytes + length more = length-append bytes more in
    let rest : length (drop size bytes ++ more) ≡ length bytes - size + length more = length-append (drop size bytes) more
    ∙ ap (λ (k : ℕ). k + length more) (length-drop size bytes) in
    let sum : offset + size + length (drop size bytes ++ more) ≡ offset + length (bytes ++ more) = omega arith in
    goes_append n offset bytes more w goes ∙ ends n (omega arith) ∙ ap (λ (k : ℕ). Ends k) sum

fill_segments : (n offset : ℕ) (bytes : List ℕ) → AreBytes bytes → length bytes ≤ n → segments_extent n offset bytes ≡ Awaits → Filled offset bytes
fill_segments zero offset bytes small enough waits = fill_length offset bytes small (omega arith)
fill_segments (suc n) offset bytes small enough waits =
    elim (segment_case bytes) [
      | NoLength none ↦ fill_length offset bytes small none
      | TooShort long low ↦ absurd (cc (extent_low n offset bytes long low))
      | Partial two least part ↦ fill_segment offset bytes two least (omega arith)
      | Last w last ↦ absurd (cc (extent_last n offset bytes w last))
      | Goes w goes ↦
          let size = segment_size bytes in
          let len = length-drop size bytes in
          let h = fill_segments n (offset + size) (drop size bytes) (All-drop (λ byte. byte < 256) size bytes small) (omega arith)
          (sym (extent_goes n offset bytes w goes) ∙ waits) in
          record { more = h.more; small = h.small; ends = λ m enough_more. fill_behind m offset bytes h.more w goes enough_more h.ends }
    ]

-- ---- one DSS

-- with more bytes they are a DSS, all of them
record Completed (side : Side) (bytes : List ℕ) : Type 0 where
  more : List ℕ
  small : AreBytes more
  ends : extent_of side (bytes ++ more) ≡ Ends (length (bytes ++ more))

complete : (side : Side) (bytes : List ℕ) → 4 ≤ length bytes → IsHeader side bytes → Filled 0 bytes → Completed side bytes
complete side bytes long good h =
    let same : 0 + length (bytes ++ h.more) ≡ length (bytes ++ h.more) = omega arith in
    record {
      more = h.more;
      small = h.small;
      ends = extent_good side (bytes ++ h.more) (header_append side bytes h.more long good) ∙ h.ends (length (bytes ++ h.more)) (omega arith)
          ∙ ap (λ (k : ℕ). Ends k) same;
    }

-- the format byte of an object
object_format : (side : Side) → is_format_of side 3 ≡ true
object_format Requests = refl
object_format Replies = refl

-- the header's first four bytes, without a fault
complete_header : (side : Side) (a b : ℕ) → 6 ≤ segment_size (a ∷ b ∷ 208 ∷ 3 ∷ []) → Completed side (a ∷ b ∷ 208 ∷ 3 ∷ [])
complete_header side a b least =
    let bytes = a ∷ b ∷ 208 ∷ 3 ∷ [] in
    complete side bytes (omega arith) (record { least = λ _. least; third = λ _. refl; fourth = λ _. object_format side })
    (fill_segment 0 bytes (omega arith) (omega arith) (omega arith))

from_third : (more : List ℕ) → AreBytes more → AreBytes (208 ∷ 3 ∷ more)
from_third more small = one_small 208 (3 ∷ more) (omega arith) (one_small 3 more (omega arith) small)

from_second : (more : List ℕ) → AreBytes more → AreBytes (6 ∷ 208 ∷ 3 ∷ more)
from_second more small = one_small 6 (208 ∷ 3 ∷ more) (omega arith) (from_third more small)

six : (a : ℕ) → a < 256 → 6 ≤ (256 * a + 6) % 32768
six a small = omega arith

complete_any : (side : Side) (bytes : List ℕ) → AreBytes bytes → IsHeader side bytes → segments_extent (length bytes) 0 bytes ≡ Awaits → Completed side bytes
complete_any side [] small good waits =
    let h = complete_header side 0 6 (omega arith) in
    record { more = 0 ∷ 6 ∷ 208 ∷ 3 ∷ h.more; small = one_small 0 (6 ∷ 208 ∷ 3 ∷ h.more) (omega arith) (from_second h.more h.small); ends = h.ends }
complete_any side (a ∷ []) small good waits =
    let h = complete_header side a 6 (six a (All-head (λ byte. byte < 256) a [] small)) in
    record { more = 6 ∷ 208 ∷ 3 ∷ h.more; small = from_second h.more h.small; ends = h.ends }
complete_any side (a ∷ b ∷ []) small good waits =
    let h = complete_header side a b (good.least (omega arith)) in
    record { more = 208 ∷ 3 ∷ h.more; small = from_third h.more h.small; ends = h.ends }
complete_any side (a ∷ b ∷ c ∷ []) small good waits =
    let h = subst (λ (x : ℕ). Completed side (a ∷ b ∷ x ∷ 3 ∷ [])) (sym (good.third (omega arith))) (complete_header side a b (good.least (omega arith))) in
    record { more = 3 ∷ h.more; small = one_small 3 h.more (omega arith) h.small; ends = h.ends }
complete_any side (a ∷ b ∷ c ∷ d ∷ bytes) small good waits =
    let all = a ∷ b ∷ c ∷ d ∷ bytes in
    complete side all (omega arith) good (fill_segments (length all) 0 all small (omega arith) waits)

completed : (side : Side) (bytes : List ℕ) → AreBytes bytes → extent_of side bytes ≡ Awaits → Completed side bytes
completed side bytes small waits =
    elim (extent_case side bytes) [
      | InHeader why f within is ↦ absurd (cc)
      | InSegments h is ↦ complete_any side bytes small h (sym is ∙ waits)
    ]

-- ---- a stream

-- the DSS that isn't whole is made whole
begins_whole : (side : Side) (bytes : List ℕ) (spelled : List Spelled) (rest more : List ℕ) → AreBytes (rest ++ more) → Begins side spelled rest bytes
    → extent_of side (rest ++ more) ≡ Ends (length (rest ++ more)) → (all : List Spelled) × Begins side all [] (bytes ++ more)
begins_whole side bytes spelled rest more small begins ends =
    let last = rest ++ more in
    let z : Spelled = record { dss = dss_of last; bytes = last } in
    let whole : take (length last) last ≡ last = take_all (length last) last (omega arith) in
    let spells : Spells side (dss_of last) last = subst (λ (xs : List ℕ). Spells side (dss_of xs) xs) whole (read_spelled side last (length last) small ends) in
    let flat : all_bytes (spelled ++ z ∷ []) ≡ all_bytes spelled ++ last =
    flat_map-append (λ (s : Spelled). s.bytes) spelled (z ∷ []) ∙ ap (λ (xs : List ℕ). all_bytes spelled ++ xs) (append-nil last) in (
      spelled ++ z ∷ [],
      record {
        each = all_push (IsSpelled side) spelled z begins.each spells;
        all = ap (λ (xs : List ℕ). xs ++ more) begins.all ∙ append_assoc (all_bytes spelled) rest more ∙ sym flat
            ∙ sym (append-nil (all_bytes (spelled ++ z ∷ [])));
      },
    )

pub goes_on : (side : Side) (bytes : List ℕ) → All (λ byte. byte < 256) bytes → ((place : ℕ) (why : Why) → IsBad side bytes place why → ⊥)
    → (more : List ℕ) × (spelled : List Spelled) × All (λ byte. byte < 256) more × Begins side spelled [] (bytes ++ more)
goes_on side bytes fits no_bad =
    let limit = length bytes in
    let none = no_fault side limit bytes fits no_bad (λ place b. let long = beyond_long side limit bytes place b in omega arith) in
    let h = read_of side limit bytes fits in
    let rest_small : AreBytes h.rest = rest_fits (all_bytes h.spelled) h.rest bytes h.begins.all fits in
    elim h.last [
      | Waiting no_fault left waits room ↦
          let c = completed side h.rest rest_small waits in
          let w = begins_whole side bytes h.spelled h.rest c.more (All-append (λ byte. byte < 256) h.rest c.more rest_small c.small) h.begins c.ends in
          (c.more, w.0, c.small, w.1)
      | Long fault x e past within ↦ absurd (cc)
      | Wrong offset why fault e room ↦ absurd (cc)
    ]

-- ---- up to the first bad field

longer_once : (side : Side) (xs ys zs : List Spelled) (a b : List ℕ) (offset other : ℕ) (why reason : Why) → AllByRecursion (IsSpelled side) zs
    → xs ≡ ys ++ zs → b ≡ all_bytes zs ++ a
    → extent_of side a ≡ Fails offset why → extent_of side b ≡ Fails other reason → length (all_bytes xs) + offset ≡ length (all_bytes ys) + other
longer_once side xs ys [] a b offset other why reason each grown e fails fails_too =
    let same : Fails offset why ≡ Fails other reason = sym fails ∙ ap (extent_of side) (sym e) ∙ fails_too in
    let one : offset ≡ other = cc in
    let front : length (all_bytes xs) ≡ length (all_bytes ys) = ap (λ (ss : List Spelled). length (all_bytes ss)) (grown ∙ append-nil ys) in
    omega arith
longer_once side xs ys (z ∷ zs) a b offset other why reason each grown e fails fails_too =
    let ends = begins_ends side z zs b a each.0 e in
    absurd (cc)

-- there is one place at which a field is bad
bad_once : (side : Side) (xs ys : List Spelled) (a b : List ℕ) (offset other : ℕ) (why reason : Why) → AllByRecursion (IsSpelled side) xs
    → AllByRecursion (IsSpelled side) ys
    → all_bytes xs ++ a ≡ all_bytes ys ++ b → extent_of side a ≡ Fails offset why → extent_of side b ≡ Fails other reason
    → length (all_bytes xs) + offset ≡ length (all_bytes ys) + other
bad_once side xs ys a b offset other why reason each_x each_y same fails fails_too =
    elim (compare side xs ys a b each_x each_y same) [
      | Longer zs each grown e ↦ longer_once side xs ys zs a b offset other why reason each grown e fails fails_too
      | Shorter z zs each grown e ↦ let ends = begins_ends side z zs a b each.0 e in absurd (cc)
    ]

none_before : (side : Side) (bytes : List ℕ) (place : ℕ) (why : Why) → All (λ byte. byte < 256) bytes → IsBad side bytes place why
    → (other : ℕ) (reason : Why) → IsBad side (take place bytes) other reason → ⊥
none_before side bytes place why fits bad other reason early =
    let front = take place bytes in
    let behind = drop place bytes in
    let front_fits : AreBytes front = All-take (λ byte. byte < 256) place bytes fits in
    let fails = bad_fails side bad.rest bad.offset why (rest_fits (all_bytes bad.spelled) bad.rest bytes bad.begins.all fits) bad.field in
    let fails_early = bad_fails side early.rest early.offset reason (rest_fits (all_bytes early.spelled) early.rest front early.begins.all front_fits)
    early.field in
    let within = fails_within side early.rest early.offset reason fails_early in
    let same : all_bytes bad.spelled ++ bad.rest ≡ all_bytes early.spelled ++ (early.rest ++ behind) =
    sym bad.begins.all ∙ sym (take-append-drop place bytes) ∙ ap (λ (xs : List ℕ). xs ++ behind) early.begins.all
    ∙ append_assoc (all_bytes early.spelled) early.rest behind in
    let one = bad_once side bad.spelled early.spelled bad.rest (early.rest ++ behind) bad.offset early.offset why reason bad.begins.each early.begins.each same
    fails (fails_append side early.rest behind early.offset reason fails_early) in
    let there = bad.there in
    let all = ap length early.begins.all in
    absurd (omega (arith, length-append (all_bytes early.spelled) early.rest, length-take place bytes))

pub goes_on_before : (side : Side) (bytes : List ℕ) (place : ℕ) (why : Why) → All (λ byte. byte < 256) bytes → IsBad side bytes place why
    → (more : List ℕ) × (spelled : List Spelled) × All (λ byte. byte < 256) more × Begins side spelled [] (take place bytes ++ more)
goes_on_before side bytes place why fits bad =
    goes_on side (take place bytes) (All-take (λ byte. byte < 256) place bytes fits) (none_before side bytes place why fits bad)
