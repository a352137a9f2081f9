use Rattle.std.proofs.Common.{refl}
use Rattle.drda_gateway.proofs.Membering.{sum_more, sum_whole, any_more, any_whole}
use Rattle.drda_gateway.proofs.member.count.Goals as goal

pub loop-one-init : goal.loop-one-init
loop-one-init g c = record { sessions = refl; failed = refl }

pub loop-one-preserved : goal.loop-one-preserved
loop-one-preserved g c =
    record {
      sessions =
          sum_more (λ one. one.sessions) c.args.worked.now c.loop-one.one-index c.loop-one.sessions _ c.one-item.result c.loop-one-test.true c.one-item.is
          c.loop-one.invariant.sessions c.saturating_add-sessions.ensures;
      failed =
          any_more (λ one. one.failed) c.args.worked.now c.loop-one.one-index c.loop-one.failed c.one-item.result c.loop-one-test.true c.one-item.is
          c.loop-one.invariant.failed;
    }

pub returns-clause-sessions : goal.returns-clause-sessions
returns-clause-sessions g c =
    sum_whole (λ one. one.sessions) c.args.worked.now c.loop-one.one-index c.loop-one.sessions c.loop-one-test.false c.loop-one.invariant.sessions

pub returns-clause-failed : goal.returns-clause-failed
returns-clause-failed g c =
    any_whole (λ one. one.failed) c.args.worked.now c.loop-one.one-index c.loop-one.failed c.loop-one-test.false c.loop-one.invariant.failed
