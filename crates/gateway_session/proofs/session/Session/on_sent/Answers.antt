use Rattle.std.proofs.Common.{◌≤◌, ℕ, List, length, refl, subst}
use Rattle.gateway_session.specs.declared.need.Need.TheVariants.{Send}
use Rattle.gateway_session.specs.Steps.{after_sent}
use Rattle.gateway_session.specs.Memory.{to_say_of}
use Rattle.gateway_session.proofs.Needs.{works}
use Rattle.gateway_session.proofs.Stepping.{goes, sends, closes_empty, step_ok, step_memory}
use Rattle.gateway_session.proofs.session.Session.on_sent.Goals as goal

pub sent-stepped-requires : goal.sent-stepped-requires
sent-stepped-requires c =
    subst (λ (bytes : List ℕ). c.args.n ≤ length bytes)
    (sends c.self.inside.running c.self.inside.closing c.args.self.now (works c.self.inside.running c.self.inside.closing c.args.self.now Send
    c.self.view_is c.requires.need refl).going c.self.view_is) c.requires.size

pub invariant_of-self : goal.invariant_of-self
invariant_of-self c = closes_empty c.sent-stepped.new.self c.self.inside.closing (works c.self.inside.running c.self.inside.closing c.args.self.now
    Send c.self.view_is c.requires.need refl).going

pub close_after-requires : goal.close_after-requires
close_after-requires c = goes c.sent-stepped.new.self c.self.inside.closing (works c.self.inside.running c.self.inside.closing c.args.self.now Send
    c.self.view_is c.requires.need refl).going

pub returns-clause-ok : goal.returns-clause-ok
returns-clause-ok c =
    step_ok (after_sent c.args.n) c.self.inside.running c.sent-stepped.new.self c.self.inside.closing c.close_after.result c.sent-stepped.result
    c.args.self.now c.close_after.new.self (works c.self.inside.running c.self.inside.closing c.args.self.now Send c.self.view_is c.requires.need
    refl).going c.self.view_is
    c.close_after.ensures.same c.sent-stepped.ensures.session c.close_after.ensures.ok

pub returns-clause-memory : goal.returns-clause-memory
returns-clause-memory c =
    step_memory to_say_of c.self.inside.running c.sent-stepped.new.self c.self.inside.closing c.close_after.result c.sent-stepped.result
    c.args.self.now c.close_after.new.self c.last-last.result (works c.self.inside.running c.self.inside.closing c.args.self.now Send c.self.view_is
    c.requires.need refl).going c.self.view_is
    c.close_after.ensures.same c.last-last.ensures c.sent-stepped.ensures.err c.close_after.ensures.memory
