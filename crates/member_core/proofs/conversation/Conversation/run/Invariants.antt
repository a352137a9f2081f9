use Rattle.std.proofs.Common.{◌≡◌, length}
use Rattle.member_core.specs.ChainRun.{run_on}
use Rattle.member_core.specs.Conversation.{no_replies}
use Rattle.member_core.specs.Steps.{member, ran_by}
use Rattle.member_core.proofs.conversation.Conversation.run.Given as goal

abbrev pub invariant-loop-command : goal.invariant-loop-command
invariant-loop-command g l = record {
  ran : run_on g.G.Group.meaning l.self.list l.left (ran_by l.self l.group l.replies)
      ≡ run_on g.G.Group.meaning l.fn.self.list l.fn.chain (no_replies (member l.fn.self l.fn.group));
  rest : l.self ≡ record l.fn.self { unit = l.self.unit; ran = l.self.ran };
}

abbrev pub decreases-loop-command : goal.decreases-loop-command
decreases-loop-command g l = length l.left
