use Rattle.std.proofs.Common.{◌≡◌, ◌-◌}
use Rattle.drda_gateway.specs.World.{after_all, settle_events}
use Rattle.drda_gateway.proofs.world.World.settle.Given as goal

-- the events that are left of the budget lead to where all of them lead
abbrev pub invariant-loop : goal.invariant-loop
invariant-loop l =
    after_all l.self (settle_events (l.budget - l.counter) l.self) ≡ after_all l.fn.self (settle_events l.budget l.fn.self)
