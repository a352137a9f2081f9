use Rattle.std.proofs.Common.{◌≡◌}
use Rattle.gateway_server.specs.Dialling.{counted, Balanced}
use Rattle.gateway_server.specs.Events.{input_of}
use Rattle.gateway_server.specs.Lasting.{Lasts, LeftBy}
use Rattle.gateway_server.specs.Turned.{Turned}
use Rattle.gateway_server.specs.Went.{Went}
use Rattle.gateway_server.proofs.serving.serve_session.Given as goal

abbrev pub invariant-loop : goal.invariant-loop
invariant-loop g l =
    record {
      next : (goal.iterator-loop g).can_next l.iterator';
      finite : (goal.iterator-loop g).is_finite l.iterator';
      went : Went (λ r fed t. (e : _) × (fed.input ≡ input_of t.bytes.items e) × Turned g.A.Link.state g.A.Link.reads g.A.Link.writes g.N.L.Link.state
          g.N.L.Link.reads g.N.L.Link.writes g.N.Dial.state g.N.Dial.dials g.D.Lender.lends g.D.Lender.gives g.D.Lender.loses g.D.Lender.knows
          g.D.Lender.learns g.D.Lender.leaves r.app t.app r.dial t.dial r.lender t.lender r.lease t.lease t.bytes.items e fed.memory r.session t.session)
          (λ r. r.session) (λ r. (g.A.Link.state r.app).heard) (λ r. (g.A.Link.state r.app).taken) l.fn.run l.run;
      lasts : Lasts (g.A.Link.state l.fn.run.app) (g.A.Link.state l.run.app);
      left : LeftBy (g.A.Link.state l.fn.run.app) (g.A.Link.state l.run.app) l.run.session;
      balance : Balanced (counted (g.N.Dial.state l.fn.run.dial).calls (g.D.Lender.dials l.fn.run.lender))
          (counted (g.N.Dial.state l.run.dial).calls (g.D.Lender.dials l.run.lender)) l.fn.run.session l.run.session;
    }
