use Rattle.std.proofs.Common.{◌≡◌, ℕ, List, ◌+◌, ◌-◌, ◌≤◌, drop, take, length, sym, ap, ◌∙◌, arith, rules}
use Rattle.std.proofs.lemmas.List.{take_rest, drop-take, length-take, length-drop}
use Rattle.dss_frame.proofs.OneDss.FirstSegment.{segments_end}
use Rattle.dss_frame.proofs.Loops.Walk.{only_segment}
use Rattle.dss_frame.proofs.segments.short_body.Goals as goal

-- what is taken of the stream is what the bytes have there
front_part : (bytes stream : List ℕ) → bytes ≡ take (length bytes) stream → 6 ≤ length bytes
    → take (length bytes - 6) (take (length stream - 6) (drop 6 stream)) ≡ drop 6 bytes
front_part bytes stream begins six =
    let size : 6 + (length bytes - 6) ≡ length bytes = omega (arith, six) in
    ap (λ (xs : List ℕ). take (length bytes - 6) xs) (take_rest stream 6)
    ∙ sym (drop-take 6 (length bytes - 6) stream)
    ∙ ap (λ (k : ℕ). drop 6 (take k stream)) size
    ∙ ap (λ (xs : List ℕ). drop 6 xs) (sym begins)

pub slice_bounds-short_front_of-count : goal.slice_bounds-short_front_of-count
slice_bounds-short_front_of-count c =
    let s = segments_end _ 0 c.args.bytes.now _ c.requires.whole in
    omega (arith, s.whole.there, c.requires.first, ap length c.requires.begins, length-take (length c.args.bytes.now) c.args.stream.now)

pub overflow_sub-bytes : goal.overflow_sub-bytes
overflow_sub-bytes c =
    let s = segments_end _ 0 c.args.bytes.now _ c.requires.whole in
    omega (arith, s.whole.there, c.requires.first)

pub slice_bounds-short_front_of-start : goal.slice_bounds-short_front_of-start
slice_bounds-short_front_of-start c =
    let s = segments_end _ 0 c.args.bytes.now _ c.requires.whole in
    let size = ap length c.requires.begins in
    let within = length-take (length c.args.bytes.now) c.args.stream.now in
    search rules

pub short_front_of-requires-clause-within : goal.short_front_of-requires-clause-within
short_front_of-requires-clause-within c =
    rw (take_rest c.args.stream.now 6, length-drop 6 c.args.stream.now)
    (omega (arith, ap length c.requires.begins, length-take (length c.args.bytes.now) c.args.stream.now))

pub returns : goal.returns
returns c =
    let s = segments_end _ 0 c.args.bytes.now _ c.requires.whole in
    c.short_front_of.ensures
    ∙ front_part c.args.bytes.now c.args.stream.now c.requires.begins (omega (arith, s.whole.there, c.requires.first))
    ∙ only_segment c.args.bytes.now c.requires.whole c.requires.one
