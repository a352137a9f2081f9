-- A DSS that is whole is so without what follows it, and its body is no longer than it.
use Rattle.std.proofs.Common.{◌≡◌, ℕ, zero, suc, ◌+◌, ◌<◌, ◌≤◌, Bool, true, false, cond, List, [], ◌++◌, length, take, drop, sym, ap, ◌∙◌, arith, inl, inr}
use Rattle.std.proofs.lemmas.List.{length-append, length-take, length-drop, take-append-drop}
use Rattle.dss_frame.specs.declared.dss.Side.{Side}
use Rattle.dss_frame.specs.declared.segments.Extent.TheVariants.{Ends}
use Rattle.dss_frame.specs.Segments.{segment_size, continues, extent_of, body_of, dss_of}
use Rattle.dss_frame.proofs.OneDss.Judging.{whole_dss}
use Rattle.dss_frame.proofs.Pieces.Stable.{extent_append, awaits_ends}

pub ends_take : (side : Side) (bytes : List ℕ) (n : ℕ) → extent_of side bytes ≡ Ends n → extent_of side (take n bytes) ≡ Ends n
ends_take side bytes n e =
    let all : extent_of side (take n bytes ++ drop n bytes) ≡ Ends n = ap (extent_of side) (take-append-drop n bytes) ∙ e in
    elim (extent_append side (take n bytes) (drop n bytes)) [
      | inl waits ↦ absurd (omega (arith, awaits_ends side (take n bytes) (drop n bytes) n waits all, length-take n bytes, (whole_dss side bytes n e).within))
      | inr same ↦ sym same ∙ all
    ]

rest_size : (b : Bool) (size : ℕ) (part others : List ℕ) → length part ≤ size → length others ≤ size → length part + length others ≤ size
    → length (part ++ cond b others []) ≤ size
rest_size true size part others h i j = omega (arith, length-append part others)
rest_size false size part others h i j = omega (arith, length-append part [])

-- what the segments hold lies within them
body_size : (count skip : ℕ) (bytes : List ℕ) → length (body_of count skip bytes) ≤ length bytes
unfolding body_of
body_size zero skip bytes = omega arith
body_size (suc count) skip bytes =
    let size : ℕ = segment_size bytes in
    let part : List ℕ = drop skip (take size bytes) in
    let others : List ℕ = body_of count 2 (drop size bytes) in
    let p : length part ≤ length (take size bytes) = omega (arith, length-drop skip (take size bytes)) in
    let t = length-take size bytes in
    let o = body_size count 2 (drop size bytes) in
    let d = length-drop size bytes in
    rest_size (continues bytes) (length bytes) part others (omega arith) (omega arith) (omega arith)

pub dss_size : (bytes : List ℕ) → length (dss_of bytes).body ≤ length bytes
unfolding dss_of
dss_size bytes = body_size (length bytes) 6 bytes

-- a first part behind so many bytes, and others, are shorter than the bytes by so many
behind_size : (b : Bool) (size skip : ℕ) (part others : List ℕ) → length part + skip + length others ≤ size → length (part ++ cond b others []) + skip ≤ size
behind_size true size skip part others h = omega (arith, length-append part others)
behind_size false size skip part others h = omega (arith, length-append part [])

-- the first segment is whole, and has its header
header_size : (count : ℕ) (bytes : List ℕ) → 6 ≤ segment_size bytes → segment_size bytes ≤ length bytes
    → length (body_of (suc count) 6 bytes) + 6 ≤ length bytes
unfolding body_of
header_size count bytes least there =
    let size : ℕ = segment_size bytes in
    let part : List ℕ = drop 6 (take size bytes) in
    let others : List ℕ = body_of count 2 (drop size bytes) in
    let p = length-drop 6 (take size bytes) in
    let t = length-take size bytes in
    let o = body_size count 2 (drop size bytes) in
    let d = length-drop size bytes in
    behind_size (continues bytes) (length bytes) 6 part others (omega arith)

counted : (count : ℕ) (bytes : List ℕ) → 0 < count → 6 ≤ segment_size bytes → segment_size bytes ≤ length bytes
    → length (body_of count 6 bytes) + 6 ≤ length bytes
counted zero bytes some least there = absurd (omega arith)
counted (suc count) bytes some least there = header_size count bytes least there

-- a whole DSS has its header beside its body
pub whole_size : (side : Side) (bytes : List ℕ) (n : ℕ) → extent_of side bytes ≡ Ends n → length (dss_of (take n bytes)).body + 6 ≤ n
unfolding dss_of
whole_size side bytes n e =
    let w = whole_dss side (take n bytes) n (ends_take side bytes n e) in
    let size = length-take n bytes in
    let all = whole_dss side bytes n e in
    let h = counted (length (take n bytes)) (take n bytes) (omega (arith, w.least, w.within)) w.size w.first.there in
    omega (arith, all.within)
