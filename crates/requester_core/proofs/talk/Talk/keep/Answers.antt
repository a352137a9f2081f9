use Rattle.std.proofs.Common.{◌∙◌}
use Rattle.requester_core.proofs.Keeping.{all_kept, none_kept}
use Rattle.requester_core.proofs.talk.Talk.keep.Goals as goal

pub invariant_of-self : goal.invariant_of-self
invariant_of-self c = (c.self.invariant.0, none_kept _ (c.replace-replies.ensures.after ∙ c.new.ensures))

pub invariant_of-self-2 : goal.invariant_of-self-2
invariant_of-self-2 c =
    (c.self.invariant.0, all_kept _ _ _ c.args.placed.items c.in_ok-append.ensures c.replace-replies.ensures.value c.self.invariant.1 c.requires)
