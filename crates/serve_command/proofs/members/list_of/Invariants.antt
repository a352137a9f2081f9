use Rattle.std.proofs.Common.{◌≡◌, take}
use Rattle.serve_command.specs.Members.{list_of}
use Rattle.serve_command.proofs.members.list_of.Given as goal

-- the list has the members so far
abbrev pub invariant-loop-weight : goal.invariant-loop-weight
invariant-loop-weight l =
    record {
      list : l.list ≡ list_of (take l.weight-index l.weights);
      member : l.member ≡ l.weight-index;
    }
