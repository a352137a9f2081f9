use Rattle.std.proofs.Common.{◌≡◌, ◌∙◌, sym, ap, drop, Err}
use Rattle.std.specs.Prelude.{List, ℕ}
use Rattle.dss_frame.specs.Reading.{View}
use Rattle.ddm_objects.specs.Objects.{outer_of}
use Rattle.drda_trace.proofs.Reading.{first_taken, stops_at_body}
use Rattle.drda_trace.proofs.replies.read_chains.Goals as goal

pub returns-in-Err : goal.returns-in-Err
returns-in-Err c =
    let old : View = c.loop-placed.reader in
    let whole = first_taken old.whole c.in-Some.placed c.in-Some.ensures.first in
    let bad : outer_of c.in-Some.placed.dss.body ≡ Err c.in-Err.fault =
    ap (λ (bytes : List ℕ). outer_of bytes) (sym c.as_slice.ensures) ∙ sym c.in-Err.ensures.object in
    stops_at_body c.args.reader.now c.args.len c.loop-placed.chains c.loop-placed.begun_chain old.whole (drop 1 old.whole) c.in-Some.placed c.in-Err.fault
    c.object_ending-ending.result whole bad c.loop-placed.invariant.chains c.loop-placed.invariant.ending c.object_ending-ending.ensures
