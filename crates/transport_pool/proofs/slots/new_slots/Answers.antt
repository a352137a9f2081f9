use Rattle.std.proofs.Common.{◌∙◌, arith}
use Rattle.transport_pool.proofs.Lying.{blank_free, blank_held}
use Rattle.transport_pool.proofs.slots.new_slots.Goals as goal

pub returns-clause-free : goal.returns-clause-free
returns-clause-free g c =
    let all = blank_free c.loop.slots.slots c.loop.invariant.blank in let filled = c.loop.invariant.filled in all ∙ filled ∙ omega arith

pub returns-clause-held : goal.returns-clause-held
returns-clause-held g c = blank_held c.loop.slots.slots c.loop.invariant.blank
