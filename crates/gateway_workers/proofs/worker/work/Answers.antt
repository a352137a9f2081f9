use Rattle.std.proofs.Common.{Bool, subst}
use Rattle.std.specs.Prelude.{false}
use Rattle.gateway_workers.specs.Back.{IsServed}
use Rattle.gateway_workers.specs.Dials.{HasDialled}
use Rattle.gateway_workers.specs.Doors.{HasWorked}
use Rattle.gateway_workers.proofs.Dialling.{dialled_more}
use Rattle.gateway_workers.proofs.Working.{works_more}
use Rattle.gateway_workers.proofs.worker.work.Goals as goal

pub loop-preserved : goal.loop-preserved
loop-preserved g c =
    let P = IsServed g.A.Link.state in
    let state = g.D.Door.state in
    let i = c.loop.invariant in
    let job = c.args.job in
    let now = c.loop.job in
    let served = c.serve_next-next in
    let door : HasWorked P (state job.door) (state now.door) c.loop.sessions false false =
    subst (λ (refused : Bool). HasWorked P (state job.door) (state now.door) c.loop.sessions false refused) c.if-refused.false i.door in
    let calls = (g.N.Dial.state job.dial).calls in
    let calls_now = (g.N.Dial.state now.dial).calls in
    let dial : HasDialled calls job.dials.amount calls_now now.dials.amount false =
    subst (λ (refused : Bool). HasDialled calls job.dials.amount calls_now now.dials.amount refused) c.if-refused.false i.dial in
    record {
      next = tt;
      finite = tt;
      door =
          works_more P (state job.door) (state now.door) (state c.take.new.self) (state served.result.0.door) c.loop.sessions
          c.saturating_add-sessions.result served.result.1 door c.in-Ok.ensures.state served.ensures.door c.saturating_add-sessions.ensures;
      dial = dialled_more _ _ _ _ _ _ _ dial served.ensures.dials;
    }
