use Rattle.std.proofs.Common.{◌≡◌, ℕ, ◌+◌, ◌<◌, List, length, drop, sym, ap, ◌∙◌, arith}
use Rattle.std.proofs.lemmas.List.{length-drop, take_all}
use Rattle.dss_frame.specs.Segments.{segment_size}
use Rattle.dss_frame.proofs.Loops.Walk.{holds_segment, holds_last, holds_more, part_is}
use Rattle.dss_frame.proofs.segments.long_body.Goals as goal

pub segment_size-requires : goal.segment_size-requires
segment_size-requires c =
    let s = holds_segment _ _ _ _ _ _ c.loop-room.invariant.1 in
    s.whole.long

pub split_at-requires : goal.split_at-requires
split_at-requires c =
    let s = holds_segment _ _ _ _ _ _ c.loop-room.invariant.1 in
    omega (arith, s.whole.there, c.segment_size.ensures.size)

pub continues-requires : goal.continues-requires
continues-requires c =
    let s = holds_segment _ _ _ _ _ _ c.loop-room.invariant.1 in
    s.whole.long

pub returns-then-not-continues : goal.returns-then-not-continues
returns-then-not-continues c =
    let part = part_is c.loop-room.rest.now c.split_at.result.0.now c.loop-room.header c.segment_size.result c.split_at.ensures.front
    c.segment_size.ensures.size in
    let all : c.in_ok-body.body ≡ c.extend_from_slice.new.self.items = c.in_ok-body.ensures.front
    ∙ take_all c.len.result _ (omega (arith, c.len.ensures.value)) in
    c.from_shared.ensures ∙ all
    ∙ holds_last _ _ _ _ _ _ _ _ c.loop-room.invariant.1 (sym c.continues.ensures ∙ c.if-not-continues.true) part c.in_ok-extend_from_slice.ensures.ok

pub loop-room-smaller : goal.loop-room-smaller
loop-room-smaller c =
    let s = holds_segment _ _ _ _ _ _ c.loop-room.invariant.1 in
    let less : length c.split_at.result.1.now < length c.loop-room.rest.now =
    omega (arith, s.whole.least, s.whole.there, c.segment_size.ensures.size, ap length c.split_at.ensures.back, length-drop {A = ℕ}) in
    less

pub loop-room-preserved : goal.loop-room-preserved
loop-room-preserved c =
    let rest : List ℕ = c.loop-room.rest.now in
    let part = part_is rest c.split_at.result.0.now c.loop-room.header c.segment_size.result c.split_at.ensures.front c.segment_size.ensures.size in
    let next = holds_more _ _ _ _ _ _ _ _ c.loop-room.invariant.1 (sym c.continues.ensures
    ∙ c.if-not-continues.false) part c.in_ok-extend_from_slice.ensures.ok in
    let after : c.split_at.result.1.now ≡ drop (segment_size rest) rest = c.split_at.ensures.back ∙ ap (λ (n : ℕ). drop n rest) c.segment_size.ensures.size in
    (c.loop-room.invariant.0 + segment_size rest, rw after next)
