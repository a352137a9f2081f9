use Rattle.std.proofs.Common.{refl}
use Rattle.gateway_session.specs.declared.need.Need.TheVariants.{Back}
use Rattle.gateway_session.specs.Steps.{after_back}
use Rattle.gateway_session.specs.Memory.{to_say_of}
use Rattle.gateway_session.proofs.Needs.{works}
use Rattle.gateway_session.proofs.Stepping.{goes, closes_empty, step_ok, step_memory}
use Rattle.gateway_session.proofs.session.Session.on_back.Goals as goal

pub back-stepped-requires : goal.back-stepped-requires
back-stepped-requires c = (works c.self.inside.running c.self.inside.closing c.args.self.now Back c.self.view_is c.requires refl).said

pub invariant_of-self : goal.invariant_of-self
invariant_of-self c = closes_empty c.back-stepped.new.self c.self.inside.closing (works c.self.inside.running c.self.inside.closing c.args.self.now
    Back c.self.view_is c.requires refl).going

pub close_after-requires : goal.close_after-requires
close_after-requires c = goes c.back-stepped.new.self c.self.inside.closing (works c.self.inside.running c.self.inside.closing c.args.self.now Back
    c.self.view_is c.requires refl).going

pub returns-clause-ok : goal.returns-clause-ok
returns-clause-ok c =
    step_ok (after_back c.args.piece.now) c.self.inside.running c.back-stepped.new.self c.self.inside.closing c.close_after.result c.back-stepped.result
    c.args.self.now c.close_after.new.self (works c.self.inside.running c.self.inside.closing c.args.self.now Back c.self.view_is c.requires
    refl).going c.self.view_is
    c.close_after.ensures.same c.back-stepped.ensures.session c.close_after.ensures.ok

pub returns-clause-memory : goal.returns-clause-memory
returns-clause-memory c =
    step_memory to_say_of c.self.inside.running c.back-stepped.new.self c.self.inside.closing c.close_after.result c.back-stepped.result
    c.args.self.now c.close_after.new.self c.last-last.result (works c.self.inside.running c.self.inside.closing c.args.self.now Back c.self.view_is
    c.requires refl).going c.self.view_is
    c.close_after.ensures.same c.last-last.ensures c.back-stepped.ensures.err c.close_after.ensures.memory
