use Rattle.std.proofs.Common.{◌∙◌, ap}
use Rattle.gateway_server.specs.Events.{input_of}
use Rattle.gateway_server.specs.Leaving.{is_gone}
use Rattle.gateway_server.proofs.Lasting.{stays_gone}
use Rattle.gateway_server.proofs.run.Run.go.Goals as goal

pub invariant_of-self-clause-ties : goal.invariant_of-self-clause-ties
invariant_of-self-clause-ties g c = c.go-event.ensures.ties

pub invariant_of-self-clause-rest : goal.invariant_of-self-clause-rest
invariant_of-self-clause-rest g c = c.go-event.ensures.rests

pub invariant_of-self-clause-asks : goal.invariant_of-self-clause-asks
invariant_of-self-clause-asks g c = c.go-event.ensures.asks

pub invariant_of-self-clause-leaves : goal.invariant_of-self-clause-leaves
invariant_of-self-clause-leaves g c =
    let h = c.go-event.ensures.call in
    ap is_gone h.1.fed
    ∙ stays_gone h.0 (input_of c.go-event.new.bytes c.go-event.result.0) c.args.self.now.session c.args.self.now.leaves
