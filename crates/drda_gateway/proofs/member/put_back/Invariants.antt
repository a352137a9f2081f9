use Rattle.std.proofs.Common.{◌≡◌, ◌++◌, map}
use Rattle.drda_gateway.proofs.member.put_back.Given as goal

-- the doors so far are put back
abbrev pub invariant-loop-one : goal.invariant-loop-one
invariant-loop-one g l = l.doors.items ≡ l.fn.doors.items ++ map (λ one. one.door) l.yielded
