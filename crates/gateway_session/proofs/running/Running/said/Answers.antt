use Rattle.std.proofs.Common.{◌==◌, ℕ, List, length, ap, ◌∙◌}
use Rattle.gateway_session.proofs.Awaiting.{stays_saying, stays_busy, stays_ended}
use Rattle.gateway_session.proofs.running.Running.said.Goals as goal
use Rattle.gateway_session.proofs.running.Running.said.Goals.{then-not-is_empty-via-then-not-is_empty}
use Rattle.gateway_session.proofs.running.Running.said.Goals.{then-not-is_empty-via-else-not-is_empty+then-is_some}
use Rattle.gateway_session.proofs.running.Running.said.Goals.{then-not-is_empty-via-else-not-is_empty+else-is_some+then-is_some-2}

pub returns-then-not-is_empty-clause-session : goal.returns-then-not-is_empty-clause-session
returns-then-not-is_empty-clause-session c =
    elim c.then-not-is_empty.branch [
      | then-not-is_empty-via-then-not-is_empty w ↦
          stays_saying c.args.n c.args.self.now c.count_said.new.self c.is_empty.result c.count_said.ensures.session c.count_said.ensures.uncounted
          (c.is_empty.ensures ∙ ap (λ (bytes : List ℕ). length bytes == 0) c.to_say.ensures) w.if-not-is_empty.true
      | then-not-is_empty-via-else-not-is_empty+then-is_some w ↦
          stays_busy c.args.n c.args.self.now c.count_said.new.self _ w.segment.result w.is_some.result c.count_said.ensures.session
          c.count_said.ensures.uncounted c.self.view_is w.segment.ensures.segment w.is_some.ensures w.if-is_some.true
      | then-not-is_empty-via-else-not-is_empty+else-is_some+then-is_some-2 w ↦
          stays_ended c.args.n c.args.self.now c.count_said.new.self _ w.end.result w.is_some-else-is_some.result c.count_said.ensures.session
          c.count_said.ensures.uncounted c.self.view_is w.end.ensures w.is_some-else-is_some.ensures w.if-is_some-2.true
    ]
