use Rattle.std.proofs.Common.{◌≡◌, ◌++◌, drop}
use Rattle.std.specs.List.{flat_map}
use Rattle.drda_trace.specs.Lines.{object_lines}
use Rattle.drda_trace.proofs.shown.push_objects.Given as goal

-- what was added so far, and what the others add, is all
abbrev pub invariant-loop-body : goal.invariant-loop-body
invariant-loop-body l = l.lines ++ flat_map (object_lines l.corr) (drop l.body-index l.bodies) ≡ l.fn.lines ++ flat_map (object_lines l.corr) l.bodies
