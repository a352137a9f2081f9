use Rattle.std.proofs.Common.{◌≡◌, ◌++◌}
use Rattle.script_maker.specs.Lines.{user_line}
use Rattle.script_maker.specs.Made.{each_app}
use Rattle.script_maker.proofs.make.put_users.Given as goal

abbrev pub invariant-loop-place : goal.invariant-loop-place
invariant-loop-place l = l.out ≡ l.fn.out ++ each_app user_line l.place
