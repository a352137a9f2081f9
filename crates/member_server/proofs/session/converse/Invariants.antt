use Rattle.member_server.specs.Served.{Going}
use Rattle.member_server.proofs.session.converse.Given as goal

-- the conversation goes on, over what was read and written since the call began
abbrev pub invariant-loop : goal.invariant-loop
invariant-loop g l =
    record {
      next : (goal.iterator-loop g).can_next l.iterator';
      finite : (goal.iterator-loop g).is_finite l.iterator';
      going : Going g.G.Group.meaning (g.A.Link.state l.fn.app) (g.A.Link.state l.app) l.conversation;
    }
