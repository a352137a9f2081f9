use Rattle.std.proofs.Common.{◌≡◌, ◌++◌, drop}
use Rattle.std.specs.List.{flat_map}
use Rattle.drda_trace.specs.Lines.{command_lines}
use Rattle.drda_trace.proofs.shown.push_commands.Given as goal

-- what was added so far, and what the others add, is all
abbrev pub invariant-loop-command : goal.invariant-loop-command
invariant-loop-command l = l.lines ++ flat_map command_lines (drop l.command-index l.commands) ≡ l.fn.lines ++ flat_map command_lines l.commands
