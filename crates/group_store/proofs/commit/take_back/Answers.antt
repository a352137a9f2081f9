use Rattle.std.proofs.Common.{◌∙◌}
use Rattle.group_store.proofs.TakingBack.{taken_back_last}
use Rattle.group_store.proofs.commit.take_back.Goals as goal

pub loop-one-preserved : goal.loop-one-preserved
loop-one-preserved c =
    taken_back_last c.loop-one.left.items c.pop.new.self.items c.in-Some.one c.loop-one.rows.entries c.put_back.new.rows.entries
    c.in-Some.ensures.items c.put_back.ensures
    ∙ c.loop-one.invariant
