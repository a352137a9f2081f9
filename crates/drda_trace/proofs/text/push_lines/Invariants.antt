use Rattle.std.proofs.Common.{◌≡◌, ◌++◌, drop}
use Rattle.std.specs.List.{flat_map}
use Rattle.drda_trace.specs.Text.{line_text}
use Rattle.drda_trace.proofs.text.push_lines.Given as goal

-- what was added so far, and what the others add, is all
abbrev pub invariant-loop-line : goal.invariant-loop-line
invariant-loop-line l = l.text ++ flat_map line_text (drop l.line-index l.lines) ≡ l.fn.text ++ flat_map line_text l.lines
