use Rattle.std.proofs.Common.{◌≡◌, ◌++◌, ◌+◌, drop}
use Rattle.drda_trace.specs.Lines.{chains_lines}
use Rattle.drda_trace.proofs.shown.push_chains.Given as goal

-- the lines so far, and those of the chains that are left, are all lines
abbrev pub invariant-loop-chain : goal.invariant-loop-chain
invariant-loop-chain l = record {
  number : l.number ≡ l.chain-index + 1;
  lines : l.lines ++ chains_lines l.number (drop l.chain-index l.chains) l.replies ≡ l.fn.lines ++ chains_lines 1 l.chains l.replies;
}
