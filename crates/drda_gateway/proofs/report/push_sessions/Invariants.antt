use Rattle.std.proofs.Common.{◌≡◌, ◌++◌, ◌+◌, drop}
use Rattle.drda_gateway.specs.Report.{sessions_lines}
use Rattle.drda_gateway.proofs.report.push_sessions.Given as goal

-- the lines so far, and those of the sessions that are left, are all lines
abbrev pub invariant-loop-session : goal.invariant-loop-session
invariant-loop-session l = record {
  number : l.app ≡ l.session-index + 1;
  lines : l.out ++ sessions_lines l.app (drop l.session-index l.sessions) ≡ l.fn.out ++ sessions_lines 1 l.sessions;
}
