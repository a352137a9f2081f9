use Rattle.std.proofs.Common.{◌≡◌, false, refl, sym, ap, subst}
use Rattle.gateway_session.specs.declared.need.Need.TheVariants as need
use Rattle.gateway_session.specs.Memory.{State, need_in}
use Rattle.gateway_server.specs.declared.run.Step.{Step}
use Rattle.gateway_server.specs.Events.{input_of}
use Rattle.gateway_server.specs.Lasting.{LeftBy}
use Rattle.gateway_server.specs.Runs.{Steps}
use Rattle.gateway_server.specs.Turned.{is_done}
use Rattle.gateway_server.proofs.Dialling.{balanced_same, balanced_on}
use Rattle.gateway_server.proofs.Ending.{served}
use Rattle.gateway_server.proofs.Goes.{went_nowhere, went_on}
use Rattle.gateway_server.proofs.Lasting.{lasts_itself, left_never, new_app, calls_tell, left_on, lasts_on}
use Rattle.gateway_server.proofs.serving.serve_session.Goals as goal

pub loop-init : goal.loop-init
loop-init g c = record {
  next = tt;
  finite = tt;
  went = went_nowhere _ _ _ _ c.args.run.now;
  lasts = lasts_itself (g.A.Link.state c.args.run.now.app);
  left = left_never (g.A.Link.state c.args.run.now.app) c.args.run.now.session (new_app c.args.run.now.session c.requires.new);
  balance = balanced_same _ c.args.run.now.session;
}

pub loop-preserved : goal.loop-preserved
loop-preserved g c =
    let i = c.loop.invariant in
    let e = c.in-Went.field-0 in
    let t = c.turn.ensures in
    let w = t.went e c.in-Went.is in
    let mid = c.loop.run in
    let new = c.turn.new.self in
    let state = g.A.Link.state in
    let going : is_done (need_in mid.session) ≡ false = subst (λ (x : Step). Steps x (need_in mid.session)) c.in-Went.is t.step in
    let tells =
    calls_tell g.A.Link.state g.A.Link.reads g.A.Link.writes g.N.L.Link.state g.N.L.Link.reads g.N.L.Link.writes g.N.Dial.state g.N.Dial.dials
    g.D.Lender.lends g.D.Lender.gives mid.app new.app mid.dial new.dial mid.lender w.1.called w.1.holding new.bytes.items e mid.session
    (need_in mid.session) mid.lease refl w.1.call in
    record {
      next = tt;
      finite = tt;
      went =
          went_on _ _ _ _ c.args.run.now mid new i.went (record { input = input_of new.bytes.items e; memory = w.0 }) (e, refl, w.1) w.1.fed
          (t.heard e c.in-Went.is) (t.taken e c.in-Went.is);
      lasts = lasts_on (state c.args.run.now.app) (state mid.app) (state new.app) e (need_in mid.session) i.lasts tells;
      left =
          subst (λ (x : State). LeftBy (state c.args.run.now.app) (state new.app) x) (sym w.1.fed)
          (left_on (state c.args.run.now.app) (state mid.app) (state new.app) w.0 new.bytes.items e mid.session i.lasts mid.leaves going tells);
      balance = balanced_on _ _ _ c.args.run.now.session mid.session new.session i.balance t.balance;
    }

pub returns-in-Ended-clause-served : goal.returns-in-Ended-clause-served
returns-in-Ended-clause-served g c =
    let i = c.loop.invariant in
    let t = c.turn.ensures in
    let done : need_in c.loop.run.session ≡ need.Done c.in-Ended.end = subst (λ (x : Step). Steps x (need_in c.loop.run.session)) c.in-Ended.is t.step in
    let same : c.turn.new.self ≡ c.loop.run = t.ended (ap is_done done) in
    rw same (served _ _ _ c.args.run.now c.loop.run c.in-Ended.end i.went c.requires.new c.requires.unused done i.left)
