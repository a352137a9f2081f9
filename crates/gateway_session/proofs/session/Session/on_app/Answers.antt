use Rattle.std.proofs.Common.{refl}
use Rattle.gateway_session.specs.declared.need.Need.TheVariants.{App}
use Rattle.gateway_session.specs.Steps.{after_app}
use Rattle.gateway_session.specs.Memory.{to_say_of}
use Rattle.gateway_session.proofs.Needs.{works}
use Rattle.gateway_session.proofs.Stepping.{goes, closes_empty, step_ok, step_memory}
use Rattle.gateway_session.proofs.session.Session.on_app.Goals as goal

pub app-stepped-requires : goal.app-stepped-requires
app-stepped-requires c = (works c.self.inside.running c.self.inside.closing c.args.self.now App c.self.view_is c.requires refl).said

pub invariant_of-self : goal.invariant_of-self
invariant_of-self c = closes_empty c.app-stepped.new.self c.self.inside.closing (works c.self.inside.running c.self.inside.closing c.args.self.now
    App c.self.view_is c.requires refl).going

pub close_after-requires : goal.close_after-requires
close_after-requires c = goes c.app-stepped.new.self c.self.inside.closing (works c.self.inside.running c.self.inside.closing c.args.self.now App
    c.self.view_is c.requires refl).going

pub returns-clause-ok : goal.returns-clause-ok
returns-clause-ok c =
    step_ok (after_app c.args.piece.now) c.self.inside.running c.app-stepped.new.self c.self.inside.closing c.close_after.result c.app-stepped.result
    c.args.self.now c.close_after.new.self (works c.self.inside.running c.self.inside.closing c.args.self.now App c.self.view_is c.requires
    refl).going c.self.view_is
    c.close_after.ensures.same c.app-stepped.ensures.session c.close_after.ensures.ok

pub returns-clause-memory : goal.returns-clause-memory
returns-clause-memory c =
    step_memory to_say_of c.self.inside.running c.app-stepped.new.self c.self.inside.closing c.close_after.result c.app-stepped.result
    c.args.self.now c.close_after.new.self c.last-last.result (works c.self.inside.running c.self.inside.closing c.args.self.now App c.self.view_is
    c.requires refl).going c.self.view_is
    c.close_after.ensures.same c.last-last.ensures c.app-stepped.ensures.err c.close_after.ensures.memory
