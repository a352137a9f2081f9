use Rattle.std.proofs.Common.{◌≡◌, ◌++◌, take}
use Rattle.session_core.proofs.work.joined.Given as goal

abbrev pub invariant-loop-command : goal.invariant-loop-command
invariant-loop-command l = l.all ≡ take l.command-index l.commands

abbrev pub invariant-loop-command-2 : goal.invariant-loop-command-2
invariant-loop-command-2 l = l.all ≡ l.commands ++ take l.command-index l.others
