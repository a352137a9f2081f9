use Rattle.std.proofs.Common.{arith, rules, length}
use Rattle.std.proofs.lemmas.Slice.{between_to_end}
use Rattle.link_ends.specs.Sink.{SinkState}
use Rattle.program_ends.proofs.Ends.{took_more}
use Rattle.program_ends.proofs.output.write_all.Goals as goal

pub loop-from-preserved : goal.loop-from-preserved
loop-from-preserved g c =
    let old : SinkState = g.K.Sink.state c.args.sink.now in
    let before : SinkState = g.K.Sink.state c.loop-from.sink in
    let now : SinkState = g.K.Sink.state c.write.new.self in
    record {
      within = search rules;
      took = took_more old before now c.args.text.now _ c.loop-from.from c.in_ok-count.count c.loop-from.invariant.took c.in_ok-count.ensures
          (between_to_end c.args.text.now c.loop-from.from (length c.args.text.now) (omega arith)) c.if-count-eq0.false;
    }
