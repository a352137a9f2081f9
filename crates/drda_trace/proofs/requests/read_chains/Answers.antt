use Rattle.std.proofs.Common.{◌≡◌, ◌∷◌, ◌∙◌, sym, ap, drop}
use Rattle.dss_frame.specs.Reading.{View}
use Rattle.drda_trace.specs.Ending.{taken_all}
use Rattle.drda_trace.proofs.Reading.{first_taken, begun_on, goes_on, ends_one, comes_to, answer_is, stops_there, requests_end}
use Rattle.drda_trace.proofs.requests.read_chains.Goals as goal

pub loop-placed-preserved-in-Continue-1 : goal.loop-placed-preserved-in-Continue-1
loop-placed-preserved-in-Continue-1 c =
    let old : View = c.loop-placed.reader in
    let now : View = c.take.new.self in
    let rest : now ≡ record old { whole = drop 1 old.whole } = c.in-Some.ensures.rest in
    let whole : old.whole ≡ c.in-Some.placed ∷ now.whole =
    first_taken old.whole c.in-Some.placed c.in-Some.ensures.first ∙ ap (λ (v : View). c.in-Some.placed ∷ v.whole) (sym rest) in
    record {
      chains = ends_one c.loop-placed.chains c.push.new.self c.in-Ok-Some.chain c.loop-placed.chain_reader c.add.new.self old.whole now.whole
          c.in-Some.placed whole
          (c.in-Ok-Some.ensures.answer ∙ ap comes_to c.in-Ok-Some.field-0-is) c.in-Ok-Some.ensures.after c.in_ok-push-in-Ok-Some.ensures.ok
          ∙ c.loop-placed.invariant.chains;
      begun = begun_on c.loop-placed.begun c.begun_with-begun.result old.whole now.whole c.in-Some.placed whole c.begun_with-begun.ensures
          ∙ c.loop-placed.invariant.begun;
      same = ap taken_all rest ∙ c.loop-placed.invariant.same;
    }

pub loop-placed-preserved : goal.loop-placed-preserved
loop-placed-preserved c =
    let old : View = c.loop-placed.reader in
    let now : View = c.take.new.self in
    let rest : now ≡ record old { whole = drop 1 old.whole } = c.in-Some.ensures.rest in
    let whole : old.whole ≡ c.in-Some.placed ∷ now.whole =
    first_taken old.whole c.in-Some.placed c.in-Some.ensures.first ∙ ap (λ (v : View). c.in-Some.placed ∷ v.whole) (sym rest) in
    record {
      chains = goes_on c.loop-placed.chains c.loop-placed.chain_reader c.add.new.self old.whole now.whole c.in-Some.placed whole
          (c.in-Ok-None.ensures.answer ∙ ap comes_to c.in-Ok-None.field-0-is) c.in-Ok-None.ensures.after ∙ c.loop-placed.invariant.chains;
      begun = begun_on c.loop-placed.begun c.begun_with-begun.result old.whole now.whole c.in-Some.placed whole c.begun_with-begun.ensures
          ∙ c.loop-placed.invariant.begun;
      same = ap taken_all rest ∙ c.loop-placed.invariant.same;
    }

pub returns-in-Err : goal.returns-in-Err
returns-in-Err c =
    let old : View = c.loop-placed.reader in
    let whole = first_taken old.whole c.in-Some.placed c.in-Some.ensures.first in
    stops_there c.args.reader.now c.args.len c.loop-placed.chains c.loop-placed.chain_reader old.whole (drop 1 old.whole) c.in-Some.placed c.in-Err.fault
    c.in_ok-ending-in-Err.ending whole
    (answer_is c.in-Err.fault _ c.in-Err.ensures.answer c.in_ok-ending-in-Err.ensures.told) c.loop-placed.invariant.chains c.in_ok-ending-in-Err.ensures.ending

pub returns : goal.returns
returns c =
    requests_end c.args.reader.now c.take.new.self c.loop-placed.reader c.args.len c.loop-placed.chains c.loop-placed.chain_reader c.loop-placed.begun
    c.stream_ending-ending.result c.in_default.ensures.first c.in_default.ensures.rest c.loop-placed.invariant.same c.loop-placed.invariant.begun
    c.loop-placed.invariant.chains c.stream_ending-ending.ensures
