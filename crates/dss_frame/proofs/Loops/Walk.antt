-- The walk over the segments of a DSS, one after another.
use Rattle.std.proofs.Common.{◌≡◌, ℕ, zero, suc, ◌+◌, ◌-◌, ◌<◌, ◌≤◌, Bool, true, false, cond, List, [], ◌++◌, length, take, drop, refl, sym, ap, subst, ◌∙◌}
use Rattle.std.proofs.Common.{append_assoc, arith}
use Rattle.std.proofs.lemmas.Bool.{cond-true, cond-false, lt-ltb, le-ltb}
use Rattle.std.proofs.lemmas.List.{length-append, length-drop, drop-drop, drop-append-le, drop_all, take_all, take_rest, append-nil}
use Rattle.dss_frame.specs.declared.fault.Why.TheVariants.{Continue}
use Rattle.dss_frame.specs.declared.segments.Extent.{Extent}
use Rattle.dss_frame.specs.declared.segments.Extent.TheVariants.{Awaits, Ends, Fails}
use Rattle.dss_frame.specs.Segments.{segment_size, continues, segments_extent, body_of}
use Rattle.dss_frame.specs.Walk.{walked_from, walked_to, ComesTo, IsWalked}
use Rattle.dss_frame.proofs.OneDss.Bytes.{size-append, continues-append}
use Rattle.dss_frame.proofs.OneDss.FirstSegment.{extent_none, extent_short, extent_low, extent_cut, IsWhole, extent_goes, extent_last}
use Rattle.dss_frame.proofs.OneDss.FirstSegment.{NoLength, TooShort, Partial, Goes, Last, segment_case, EndsAt, segments_end}
use Rattle.dss_frame.proofs.OneDss.Segments.{body_next}

-- ---- how far segments are walked

walked_short : (count offset : ℕ) (bytes : List ℕ) → length bytes < 2 → walked_from count offset bytes ≡ offset
unfolding walked_from
walked_short zero offset bytes short = refl
walked_short (suc count) offset bytes short = cond-true _ _ _ (lt-ltb _ _ short)

walked_low : (count offset : ℕ) (bytes : List ℕ) → 2 ≤ length bytes → segment_size bytes < 3 → walked_from count offset bytes ≡ offset
unfolding walked_from
walked_low zero offset bytes long low = refl
walked_low (suc count) offset bytes long low = cond-false _ _ _ (le-ltb _ _ long) ∙ cond-true _ _ _ (lt-ltb _ _ low)

walked_cut : (count offset : ℕ) (bytes : List ℕ) → 2 ≤ length bytes → 3 ≤ segment_size bytes → length bytes < segment_size bytes
    → walked_from count offset bytes ≡ offset
unfolding walked_from
walked_cut zero offset bytes long least cut = refl
walked_cut (suc count) offset bytes long least cut =
    cond-false _ _ _ (le-ltb _ _ long) ∙ cond-false _ _ _ (le-ltb _ _ least) ∙ cond-true _ _ _ (lt-ltb _ _ cut)

walked_last : (count offset : ℕ) (bytes : List ℕ) → IsWhole bytes → continues bytes ≡ false → walked_from count offset bytes ≡ offset
unfolding walked_from
walked_last zero offset bytes w last = refl
walked_last (suc count) offset bytes w last =
    cond-false _ _ _ (le-ltb _ _ w.long) ∙ cond-false _ _ _ (le-ltb _ _ w.least) ∙ cond-false _ _ _ (le-ltb _ _ w.there) ∙ cond-false _ _ _ last

walked_goes : (count offset : ℕ) (bytes : List ℕ) → IsWhole bytes → continues bytes ≡ true
    → walked_from (suc count) offset bytes ≡ walked_from count (offset + segment_size bytes) (drop (segment_size bytes) bytes)
unfolding walked_from
walked_goes count offset bytes w goes =
    cond-false _ _ _ (le-ltb _ _ w.long) ∙ cond-false _ _ _ (le-ltb _ _ w.least) ∙ cond-false _ _ _ (le-ltb _ _ w.there) ∙ cond-true _ _ _ goes

walked_none : (offset : ℕ) (bytes : List ℕ) → walked_from zero offset bytes ≡ offset
unfolding walked_from
walked_none offset bytes = refl

-- ---- the walk goes on

-- a count that is enough for some bytes is some
record TakesOne (offset : ℕ) (rest : List ℕ) (extent : Extent) (walked : ℕ) : Type 0 where
  pub count : ℕ
  pub enough : length rest ≤ suc count
  pub same : segments_extent (suc count) offset rest ≡ extent
  pub there : walked_from (suc count) offset rest ≡ walked

takes_by : (count offset : ℕ) (rest : List ℕ) (extent : Extent) (walked : ℕ) → length rest ≤ count → segments_extent count offset rest ≡ extent
    → walked_from count offset rest ≡ walked
    → 2 ≤ length rest → TakesOne offset rest extent walked
takes_by zero offset rest extent walked enough same there long = absurd (omega arith)
takes_by (suc count) offset rest extent walked enough same there long = record { count = count; enough = enough; same = same; there = there }

takes_one : (offset : ℕ) (rest : List ℕ) (extent : Extent) (walked : ℕ) → ComesTo offset rest extent walked → 2 ≤ length rest
    → TakesOne offset rest extent walked
takes_one offset rest extent walked h long = takes_by h.count offset rest extent walked h.enough h.same h.there long

comes_on : (offset : ℕ) (rest : List ℕ) (extent : Extent) (walked : ℕ) → ComesTo offset rest extent walked → IsWhole rest → continues rest ≡ true
    → ComesTo (offset + segment_size rest) (drop (segment_size rest) rest) extent walked
comes_on offset rest extent walked h w more =
    let k = takes_one offset rest extent walked h w.long in
    record {
      count = k.count;
      enough = omega (arith, k.enough, w.least, length-drop (segment_size rest) rest);
      same = sym (extent_goes k.count offset rest w more) ∙ k.same;
      there = sym (walked_goes k.count offset rest w more) ∙ k.there;
    }

-- where the walk stops
pub record StopsAs (offset : ℕ) (extent known : Extent) (walked : ℕ) : Type 0 where
  pub extent_is : known ≡ extent
  pub walked_is : offset ≡ walked

pub stops_short : (offset : ℕ) (rest : List ℕ) (extent : Extent) (walked : ℕ) → ComesTo offset rest extent walked → length rest < 2
    → StopsAs offset extent Awaits walked
stops_short offset rest extent walked h short =
    record { extent_is = sym (extent_short h.count offset rest short) ∙ h.same; walked_is = sym (walked_short h.count offset rest short) ∙ h.there }

pub stops_low : (offset : ℕ) (rest : List ℕ) (extent : Extent) (walked : ℕ) → ComesTo offset rest extent walked → 2 ≤ length rest → segment_size rest < 3
    → StopsAs offset extent (Fails offset Continue) walked
stops_low offset rest extent walked h long low =
    let k = takes_one offset rest extent walked h long in
    record { extent_is = sym (extent_low k.count offset rest long low) ∙ k.same; walked_is = sym (walked_low h.count offset rest long low) ∙ h.there }

pub stops_cut : (offset : ℕ) (rest : List ℕ) (extent : Extent) (walked : ℕ) → ComesTo offset rest extent walked → 2 ≤ length rest → 3 ≤ segment_size rest
    → length rest < segment_size rest
    → StopsAs offset extent Awaits walked
stops_cut offset rest extent walked h long least cut =
    record {
      extent_is = sym (extent_cut h.count offset rest long least cut) ∙ h.same;
      walked_is = sym (walked_cut h.count offset rest long least cut)
          ∙ h.there;
    }

pub stops_last : (offset : ℕ) (rest : List ℕ) (extent : Extent) (walked : ℕ) → ComesTo offset rest extent walked → IsWhole rest → continues rest ≡ false
    → StopsAs offset extent (Ends (offset + segment_size rest)) walked
stops_last offset rest extent walked h w last =
    let k = takes_one offset rest extent walked h w.long in
    record { extent_is = sym (extent_last k.count offset rest w last) ∙ k.same; walked_is = sym (walked_last h.count offset rest w last) ∙ h.there }

-- ---- where more bytes follow

-- the walk over bytes with more behind them goes through where the walk over the bytes alone stands
record Passes (offset walked : ℕ) (bytes more : List ℕ) (extent : Extent) (place : ℕ) : Type 0 where
  pub least : offset ≤ walked
  pub within : walked ≤ offset + length bytes
  pub comes_to : ComesTo walked (drop (walked - offset) (bytes ++ more)) extent place

stays : (offset walked : ℕ) (bytes more : List ℕ) (extent : Extent) (place : ℕ) → ComesTo offset (bytes ++ more) extent place → walked ≡ offset
    → Passes offset walked bytes more extent place
stays offset walked bytes more extent place h same =
    let none : walked - offset ≡ 0 = omega arith in
    record {
      least = omega arith;
      within = omega arith;
      comes_to = subst (λ (n : ℕ). ComesTo n (drop (walked - offset) (bytes ++ more)) extent place) (sym same)
          (subst (λ (n : ℕ). ComesTo offset (drop n (bytes ++ more)) extent place) (sym none) h);
    }

more_whole : (bytes more : List ℕ) → IsWhole bytes → IsWhole (bytes ++ more)
more_whole bytes more w =
    let size = size-append bytes more w.long in
    let long = length-append bytes more in
    record { long = omega (arith, w.long); least = omega (arith, w.least); there = omega (arith, w.there) }

comes_next : (offset : ℕ) (bytes more : List ℕ) (extent : Extent) (place : ℕ) → ComesTo offset (bytes ++ more) extent place → IsWhole bytes
    → continues bytes ≡ true
    → ComesTo (offset + segment_size bytes) (drop (segment_size bytes) bytes ++ more) extent place
comes_next offset bytes more extent place h w goes =
    let size : ℕ = segment_size bytes in
    subst (λ (xs : List ℕ). ComesTo (offset + size) xs extent place) (drop-append-le size bytes more w.there)
    (subst (λ (n : ℕ). ComesTo (offset + n) (drop n (bytes ++ more)) extent place) (size-append bytes more w.long)
    (comes_on offset (bytes ++ more) extent place h (more_whole bytes more w) (continues-append bytes more w.long ∙ goes)))

-- the segment goes before those that the walk passes
passes_on : (offset walked : ℕ) (bytes more : List ℕ) (extent : Extent) (place : ℕ) → IsWhole bytes
    → Passes (offset + segment_size bytes) walked (drop (segment_size bytes) bytes) more extent place → Passes offset walked bytes more extent place
passes_on offset walked bytes more extent place w p =
    let size : ℕ = segment_size bytes in
    let len = length-drop size bytes in
    let split : size + (walked - (offset + size)) ≡ walked - offset = omega (arith, p.least) in
    record {
      least = omega (arith, p.least);
      within = omega (arith, p.within, w.there);
      comes_to = subst (λ (n : ℕ). ComesTo walked (drop n (bytes ++ more)) extent place) split
          (subst (λ (xs : List ℕ). ComesTo walked xs extent place)
          (ap (drop (walked - (offset + size))) (sym (drop-append-le size bytes more w.there))
          ∙ drop-drop (walked - (offset + size)) size (bytes ++ more)) p.comes_to);
    }

passes : (count offset : ℕ) (bytes more : List ℕ) (extent : Extent) (place : ℕ) → ComesTo offset (bytes ++ more) extent place
    → Passes offset (walked_from count offset bytes) bytes more extent place
passes zero offset bytes more extent place h = stays offset (walked_from zero offset bytes) bytes more extent place h (walked_none offset bytes)
passes (suc count) offset bytes more extent place h =
    elim (segment_case bytes) [
      | NoLength none ↦ stays offset _ bytes more extent place h (walked_short (suc count) offset bytes none)
      | TooShort long low ↦ stays offset _ bytes more extent place h (walked_low (suc count) offset bytes long low)
      | Partial long least cut ↦ stays offset _ bytes more extent place h (walked_cut (suc count) offset bytes long least cut)
      | Goes w goes ↦
          subst (λ (n : ℕ). Passes offset n bytes more extent place) (sym (walked_goes count offset bytes w goes))
          (passes_on offset _ bytes more extent place w (passes count (offset + segment_size bytes) (drop (segment_size bytes) bytes) more extent place
          (comes_next offset bytes more extent place h w goes)))
      | Last w last ↦ stays offset _ bytes more extent place h (walked_last (suc count) offset bytes w last)
    ]

comes_all : (bytes : List ℕ) → ComesTo 0 bytes (segments_extent (length bytes) 0 bytes) (walked_to bytes)
comes_all bytes = record { count = length bytes; enough = omega arith; same = refl; there = refl }

pub none_walked : (bytes : List ℕ) → IsWalked 0 bytes
none_walked bytes = record { within = omega arith; comes_to = comes_all bytes }

-- of no bytes none are walked
pub walked_empty : (bytes : List ℕ) → bytes ≡ [] → walked_to bytes ≡ 0
walked_empty bytes none = ap walked_to none ∙ walked_none 0 []

pub walked_nothing : (bytes : List ℕ) → walked_to (drop (length bytes) bytes) ≡ 0
walked_nothing bytes = walked_empty _ (drop_all (length bytes) bytes (omega arith))

pub walked_before : (bytes more : List ℕ) → IsWalked (walked_to bytes) (bytes ++ more)
walked_before bytes more =
    let all : List ℕ = bytes ++ more in
    let p = passes (length bytes) 0 bytes more (segments_extent (length all) 0 all) (walked_to all) (comes_all all) in
    let same : walked_to bytes - 0 ≡ walked_to bytes = omega arith in
    record {
      within = omega (arith, p.within, length-append bytes more);
      comes_to = subst (λ (n : ℕ). ComesTo (walked_to bytes) (drop n all) (segments_extent (length all) 0 all) (walked_to all)) same p.comes_to;
    }

pub walked_within : (bytes : List ℕ) → walked_to bytes ≤ length bytes
walked_within bytes = let w = walked_before bytes [] in omega (arith, w.within, length-append bytes [])

-- ---- what the segments hold

-- these bytes, and then what the segments from here on hold, are all of the body
pub record Holds (offset total skip : ℕ) (rest sofar body : List ℕ) : Type 0 where
  pub count : ℕ
  pub enough : length rest ≤ count
  pub ends : segments_extent count offset rest ≡ Ends total
  pub all : sofar ++ body_of count skip rest ≡ body
  pub skips : skip ≤ segment_size rest

pub holds_segment : (offset total skip : ℕ) (rest sofar body : List ℕ) → Holds offset total skip rest sofar body → EndsAt offset rest total
holds_segment offset total skip rest sofar body h = segments_end h.count offset rest total h.ends

body_last : (count skip : ℕ) (rest : List ℕ) → length rest ≤ count → 2 ≤ length rest → continues rest ≡ false
    → body_of count skip rest ≡ drop skip (take (segment_size rest) rest)
body_last zero skip rest enough long none = absurd (omega arith)
body_last (suc count) skip rest enough long none =
    body_next count skip rest
    ∙ ap (λ (b : Bool). drop skip (take (segment_size rest) rest) ++ cond b (body_of count 2 (drop (segment_size rest) rest)) []) none ∙ append-nil _

pub holds_last : (offset total skip : ℕ) (rest sofar body part now : List ℕ) → Holds offset total skip rest sofar body → continues rest ≡ false
    → part ≡ drop skip (take (segment_size rest) rest) → now ≡ sofar ++ part → now ≡ body
holds_last offset total skip rest sofar body part now h none is grown =
    let s = segments_end h.count offset rest total h.ends in
    grown ∙ ap (λ (xs : List ℕ). sofar ++ xs) (is ∙ sym (body_last h.count skip rest h.enough s.whole.long none)) ∙ h.all

holds_more_at : (count offset total skip : ℕ) (rest sofar body part now : List ℕ) → length rest ≤ count → segments_extent count offset rest ≡ Ends total
    → sofar ++ body_of count skip rest ≡ body → continues rest ≡ true → part ≡ drop skip (take (segment_size rest) rest) → now ≡ sofar ++ part
    → Holds (offset + segment_size rest) total 2 (drop (segment_size rest) rest) now body
holds_more_at zero offset total skip rest sofar body part now enough ends all more is grown = absurd (cc (extent_none offset rest))
holds_more_at (suc count) offset total skip rest sofar body part now enough ends all more is grown =
    let size : ℕ = segment_size rest in
    let w = (segments_end (suc count) offset rest total ends).whole in
    let next : segments_extent count (offset + size) (drop size rest) ≡ Ends total = sym (extent_goes count offset rest w more) ∙ ends in
    let after = segments_end count (offset + size) (drop size rest) total next in
    record {
      count = count;
      enough = omega (arith, w.least, w.there, length-drop size rest);
      ends = next;
      all = ap (λ (xs : List ℕ). xs ++ body_of count 2 (drop size rest)) (grown ∙ ap (λ (xs : List ℕ). sofar ++ xs) is)
          ∙ append_assoc sofar (drop skip (take size rest)) (body_of count 2 (drop size rest))
          ∙ ap (λ (b : Bool). sofar ++ (drop skip (take size rest) ++ cond b (body_of count 2 (drop size rest)) [])) (sym more)
          ∙ ap (λ (xs : List ℕ). sofar ++ xs) (sym (body_next count skip rest))
          ∙ all;
      skips = omega (arith, after.whole.least);
    }

pub holds_more : (offset total skip : ℕ) (rest sofar body part now : List ℕ) → Holds offset total skip rest sofar body → continues rest ≡ true
    → part ≡ drop skip (take (segment_size rest) rest) → now ≡ sofar ++ part
    → Holds (offset + segment_size rest) total 2 (drop (segment_size rest) rest) now body
holds_more offset total skip rest sofar body part now h more is grown =
    holds_more_at h.count offset total skip rest sofar body part now h.enough h.ends h.all more is grown

-- what one segment holds that is the only one
pub only_segment : (bytes : List ℕ) → segments_extent (length bytes) 0 bytes ≡ Ends (length bytes) → continues bytes ≡ false
    → drop 6 bytes ≡ body_of (length bytes) 6 bytes
only_segment bytes whole none =
    let s = segments_end (length bytes) 0 bytes (length bytes) whole in
    let size : segment_size bytes ≡ length bytes = omega (arith, s.last none) in
    let all : take (segment_size bytes) bytes ≡ bytes = take_all (segment_size bytes) bytes (omega arith) in
    sym (body_last (length bytes) 6 bytes (omega arith) s.whole.long none ∙ ap (drop 6) all)

-- ---- as the code takes the rest of the bytes

pub size_at : (bytes : List ℕ) (offset size : ℕ) → size ≡ segment_size (take (length bytes - offset) (drop offset bytes))
    → size ≡ segment_size (drop offset bytes)
size_at bytes offset size e = e ∙ ap segment_size (take_rest bytes offset)

pub continues_at : (bytes : List ℕ) (offset : ℕ) (b v : Bool) → b ≡ continues (take (length bytes - offset) (drop offset bytes)) → b ≡ v
    → continues (drop offset bytes) ≡ v
continues_at bytes offset b v e is = sym (ap continues (take_rest bytes offset)) ∙ sym e ∙ is

pub walks_on : (bytes : List ℕ) (offset size : ℕ) → IsWalked offset bytes → size ≡ segment_size (drop offset bytes) → IsWhole (drop offset bytes)
    → continues (drop offset bytes) ≡ true → IsWalked (offset + size) bytes
walks_on bytes offset size h is w more =
    let rest : List ℕ = drop offset bytes in
    let extent : Extent = segments_extent (length bytes) 0 bytes in
    record {
      within = omega (arith, h.within, w.there, length-drop offset bytes);
      comes_to = subst (λ (n : ℕ). ComesTo (offset + n) (drop (offset + n) bytes) extent (walked_to bytes)) (sym is)
          (subst (λ (xs : List ℕ). ComesTo (offset + segment_size rest) xs extent (walked_to bytes)) (drop-drop (segment_size rest) offset bytes)
          (comes_on offset rest extent (walked_to bytes) h.comes_to w more));
    }

pub part_is : (rest segment : List ℕ) (skip size : ℕ) → segment ≡ take size rest → size ≡ segment_size rest
    → take (length segment - skip) (drop skip segment) ≡ drop skip (take (segment_size rest) rest)
part_is rest segment skip size front is =
    take_rest segment skip ∙ ap (drop skip) front ∙ ap (λ (n : ℕ). drop skip (take n rest)) is
