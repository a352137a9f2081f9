use Rattle.std.proofs.Common.{◌≡◌, ◌++◌, map}
use Rattle.requester_core.proofs.talk.append.Given as goal

abbrev pub invariant-loop-one : goal.invariant-loop-one
invariant-loop-one l = l.replies ≡ l.fn.replies ++ map (λ p. p.dss) l.yielded
