use Rattle.std.proofs.Common.{◌≡◌, length}
use Rattle.member_core.specs.Conversation.{settled}
use Rattle.member_core.specs.Steps.{member}
use Rattle.member_core.proofs.conversation.Conversation.settle.Given as goal

abbrev pub invariant-loop-placed : goal.invariant-loop-placed
invariant-loop-placed g l =
    settled g.G.Group.meaning l.self.reader (member l.self l.group) ≡ settled g.G.Group.meaning l.fn.self.reader (member l.fn.self l.fn.group)

abbrev pub decreases-loop-placed : goal.decreases-loop-placed
decreases-loop-placed g l = length l.self.reader.whole
