use Rattle.std.proofs.Common.{◌≡◌, ◌≤◌}
use Rattle.transport_lenders.proofs.lock_lender.LockLenderLender.lend.Given as goal

abbrev pub invariant-loop : goal.invariant-loop
invariant-loop g l =
    (goal.iterator-loop g).can_next l.iterator'
    × (goal.iterator-loop g).is_finite l.iterator'
    × (l.fn.self.calls.amount ≤ l.self.calls.amount)
    × (l.self.dials.amount ≡ l.fn.self.dials.amount)
    × (l.self.calls.parts ≡ 1)
    × (l.self.dials.parts ≡ 1)
