use Rattle.std.proofs.Common.{◌∙◌, ap, subst}
use Rattle.gateway_session.specs.Memory.{State, held_in, list_in, without_list}
use Rattle.gateway_server.specs.Turned.{Lost, Learned}
use Rattle.gateway_server.proofs.Dialling.{asks_after}
use Rattle.gateway_server.proofs.turning.go.Goals as goal

pub returns-clause-asks : goal.returns-clause-asks
returns-clause-asks g c =
    asks_after c.call_needed-event.new.session c.learn.new.session c.call_needed-event.ensures.asks c.learn.ensures.session

pub returns-clause-call : goal.returns-clause-call
returns-clause-call g c = (
  c.call_needed-event.result.memory,
  record {
    called = c.call_needed-event.new.lender;
    holding = c.call_needed-event.result.lease;
    settled = c.settle-lease.new.lender;
    taught = c.learn.new.lender;
    call = c.call_needed-event.ensures.call;
    fed = c.learn.ensures.session ∙ ap without_list c.call_needed-event.ensures.session;
    loss = subst (λ (x : State). Lost g.D.Lender.loses (held_in x) c.call_needed-event.result.lease c.call_needed-event.new.lender c.settle-lease.result
        c.settle-lease.new.lender)
        c.call_needed-event.ensures.session c.settle-lease.ensures.call;
    list = subst (λ (x : State). Learned g.D.Lender.knows g.D.Lender.learns (list_in x) c.settle-lease.new.lender c.learn.new.lender)
        c.call_needed-event.ensures.session c.learn.ensures.call;
    leaving = c.leave.ensures.call;
  },
)
