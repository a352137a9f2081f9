use Rattle.std.proofs.Common.{◌≡◌, ◌++◌}
use Rattle.script_maker.specs.Lines.{start_line}
use Rattle.script_maker.specs.Made.{each_app}
use Rattle.script_maker.proofs.make.put_starts.Given as goal

abbrev pub invariant-loop-place : goal.invariant-loop-place
invariant-loop-place l = l.out ≡ l.fn.out ++ each_app start_line l.place
