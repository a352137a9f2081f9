use Rattle.std.proofs.Common.{◌≡◌, take}
use Rattle.script_reader.specs.Weights.{sent_by_all}
use Rattle.script_reader.proofs.weights.send_by_all.Given as goal

abbrev pub invariant-loop-row : goal.invariant-loop-row
invariant-loop-row l = l.lists ≡ sent_by_all l.fn.lists l.list (take l.row-index l.members.rows)
