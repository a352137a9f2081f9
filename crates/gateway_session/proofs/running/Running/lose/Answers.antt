use Rattle.std.proofs.Common.{refl, sym}
use Rattle.gateway_session.proofs.Losing.{loses, tries_are}
use Rattle.gateway_session.proofs.running.Running.lose.Goals as goal

pub returns : goal.returns
returns c =
    loses c.args.why c.in-Some.held c.replace.new.dest c.self.inside.core c.lose.new.self c.tries_after-self-inside.result _ c.args.self.now
    c.self.view_is refl (sym c.in-Some.ensures.value) c.replace.ensures.after c.lose.ensures
    (tries_are c.self.inside.core.segments c.args.why c.in-Some.held.member c.self.inside.tries c.tries_after-self-inside.result c.segment.result
    c.is_some-in_work.result c.segment.ensures.segment c.is_some-in_work.ensures c.tries_after-self-inside.ensures)
