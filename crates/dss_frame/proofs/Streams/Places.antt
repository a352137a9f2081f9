-- The place of each DSS that is read is where the bytes spell it.
use Rattle.std.proofs.Common.{◌≡◌, ℕ, ◌+◌, ◌-◌, ◌^◌, ◌<◌, min, List, [], ◌∷◌, length, All, refl, sym, ap, subst, ◌∙◌, arith}
use Rattle.dss_frame.specs.declared.dss.Side.{Side}
use Rattle.dss_frame.specs.declared.step.Position.{Position}
use Rattle.dss_frame.specs.Reading.{first_position, start, position_after, fed}
use Rattle.dss_frame.specs.Spelling.{Spelled}
use Rattle.dss_frame.specs.Told.{told, AreAt, StandsAt}
use Rattle.dss_frame.proofs.Streams.Ended.{placed_on, place_on, fed_ended}
use Rattle.dss_frame.proofs.Streams.Streams.{all_bytes}

further : (at place bytes most : ℕ) → at ≡ min place most → min (at + bytes) most ≡ min (place + bytes) most
further at place bytes most e = omega arith

none_before : (bytes most : ℕ) → min (0 + bytes) most ≡ min bytes most
none_before bytes most = omega arith

are_at : (limit place : ℕ) (position : Position) (spelled : List Spelled) → position.at ≡ told place → AreAt place spelled (placed_on limit position spelled)
are_at limit place position [] e = tt
are_at limit place position (s ∷ spelled) e = (
  refl,
  e,
  are_at limit (place + length s.bytes) (position_after limit position s.dss (length s.bytes)) spelled
      (further position.at place (length s.bytes) (2 ^ 64 - 1) e),
)

pub stands_at : (side : Side) (limit : ℕ) (bytes : List ℕ) → All (λ byte. byte < 256) bytes → StandsAt side bytes (fed (start side limit) bytes)
stands_at side limit bytes fits =
    let h = fed_ended side limit bytes fits in
    let first = first_position limit in
    record {
      spelled = h.spelled;
      rest = h.rest;
      begins = h.begins;
      each = subst (AreAt 0 h.spelled) (sym h.whole) (are_at limit 0 first h.spelled refl);
      next = ap (λ (p : Position). p.at) h.position ∙ place_on limit first h.spelled (omega arith) ∙ none_before (length (all_bytes h.spelled)) (2 ^ 64 - 1);
    }
