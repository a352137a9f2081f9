use Rattle.std.proofs.Common.{refl}
use Rattle.gateway_session.specs.declared.need.Need.TheVariants.{Dial}
use Rattle.gateway_session.specs.Steps.{after_dialled}
use Rattle.gateway_session.specs.Memory.{to_say_of}
use Rattle.gateway_session.proofs.Needs.{works}
use Rattle.gateway_session.proofs.Stepping.{goes, closes_empty, step_ok, step_memory}
use Rattle.gateway_session.proofs.session.Session.on_dialled.Goals as goal

pub invariant_of-self : goal.invariant_of-self
invariant_of-self c = closes_empty c.dialled-stepped.new.self c.self.inside.closing (works c.self.inside.running c.self.inside.closing
    c.args.self.now Dial c.self.view_is c.requires refl).going

pub close_after-requires : goal.close_after-requires
close_after-requires c = goes c.dialled-stepped.new.self c.self.inside.closing (works c.self.inside.running c.self.inside.closing c.args.self.now
    Dial c.self.view_is c.requires refl).going

pub returns-clause-ok : goal.returns-clause-ok
returns-clause-ok c =
    step_ok (after_dialled c.args.ok) c.self.inside.running c.dialled-stepped.new.self c.self.inside.closing c.close_after.result c.dialled-stepped.result
    c.args.self.now c.close_after.new.self (works c.self.inside.running c.self.inside.closing c.args.self.now Dial c.self.view_is c.requires
    refl).going c.self.view_is
    c.close_after.ensures.same c.dialled-stepped.ensures.session c.close_after.ensures.ok

pub returns-clause-memory : goal.returns-clause-memory
returns-clause-memory c =
    step_memory to_say_of c.self.inside.running c.dialled-stepped.new.self c.self.inside.closing c.close_after.result c.dialled-stepped.result
    c.args.self.now c.close_after.new.self c.last-last.result (works c.self.inside.running c.self.inside.closing c.args.self.now Dial c.self.view_is
    c.requires refl).going c.self.view_is
    c.close_after.ensures.same c.last-last.ensures c.dialled-stepped.ensures.err c.close_after.ensures.memory
