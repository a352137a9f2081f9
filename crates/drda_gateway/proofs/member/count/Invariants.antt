use Rattle.std.proofs.Common.{◌≡◌, take, min}
use Rattle.std.specs.List.{sum_by, list_any}
use Rattle.link_ends.specs.Counts.{greatest}
use Rattle.drda_gateway.proofs.member.count.Given as goal

-- what the workers so far counted
abbrev pub invariant-loop-one : goal.invariant-loop-one
invariant-loop-one g l =
    record {
      sessions : l.sessions ≡ min (sum_by (λ one. one.sessions) (take l.one-index l.worked)) greatest;
      failed : l.failed ≡ list_any (λ one. one.failed) (take l.one-index l.worked);
    }
