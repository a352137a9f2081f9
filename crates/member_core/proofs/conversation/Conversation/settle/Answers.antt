use Rattle.std.proofs.Common.{◌∙◌, sym, ap}
use Rattle.std.proofs.lemmas.Result.{on_ok_weaker}
use Rattle.member_core.specs.Conversation.{Member}
use Rattle.member_core.proofs.Settling.{goes_on, comes_to}
use Rattle.member_core.proofs.conversation.Conversation.settle.Goals as goal

pub loop-placed-preserved : goal.loop-placed-preserved
loop-placed-preserved g c =
    goes_on g.G.Group.meaning c.loop-placed.self c.next.new.self c.add.new.self c.loop-placed.group c.add.new.group c.in-Some.placed
    c.in-Some.ensures.first c.in-Some.ensures.rest c.in_ok-add.ensures.conversation c.in_ok-add.ensures.shared ∙ c.loop-placed.invariant

pub returns-clause-conversation : goal.returns-clause-conversation
returns-clause-conversation g c =
    on_ok_weaker c.stop.result
    (λ is. ap (λ (w : Member _ _). w.conversation)
    (comes_to g.G.Group.meaning c.loop-placed.self c.next.new.self c.stop.new.self c.loop-placed.group
    (sym c.in_default.is ∙ c.next.ensures.first) c.next.ensures.rest is ∙ c.loop-placed.invariant))
    c.stop.ensures

pub returns-clause-shared : goal.returns-clause-shared
returns-clause-shared g c =
    on_ok_weaker c.stop.result
    (λ is. ap (λ (w : Member _ _). w.shared)
    (comes_to g.G.Group.meaning c.loop-placed.self c.next.new.self c.stop.new.self c.loop-placed.group
    (sym c.in_default.is ∙ c.next.ensures.first) c.next.ensures.rest is ∙ c.loop-placed.invariant))
    c.stop.ensures
