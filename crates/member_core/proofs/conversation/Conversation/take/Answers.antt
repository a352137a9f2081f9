use Rattle.std.proofs.Common.{◌≡◌, ◌∙◌, false, sym, ap}
use Rattle.std.proofs.lemmas.Result.{on_ok_weaker}
use Rattle.member_core.specs.Conversation.{ConversationState, Member}
use Rattle.member_core.proofs.Pieces.{fed_is_taken}
use Rattle.member_core.proofs.conversation.Conversation.take.Goals as goal

pub returns-clause-conversation : goal.returns-clause-conversation
returns-clause-conversation g c =
    let alive : c.args.self.now.dead ≡ false = sym (ap (λ (v : ConversationState _). v.dead) c.self.view_is) ∙ c.if-self.false in
    on_ok_weaker c.settle.result
    (λ is. is ∙ ap (λ (w : Member _ _). w.conversation)
    (fed_is_taken g.G.Group.meaning c.args.self.now c.feed.new.self c.args.group.now c.args.piece.now alive c.in_ok-feed.ensures))
    c.settle.ensures.conversation

pub returns-clause-shared : goal.returns-clause-shared
returns-clause-shared g c =
    let alive : c.args.self.now.dead ≡ false = sym (ap (λ (v : ConversationState _). v.dead) c.self.view_is) ∙ c.if-self.false in
    on_ok_weaker c.settle.result
    (λ is. is ∙ ap (λ (w : Member _ _). w.shared)
    (fed_is_taken g.G.Group.meaning c.args.self.now c.feed.new.self c.args.group.now c.args.piece.now alive c.in_ok-feed.ensures))
    c.settle.ensures.shared
