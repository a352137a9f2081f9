use Rattle.std.proofs.Common.{◌≡◌, length}
use Rattle.requester_core.specs.Reply.{judged}
use Rattle.requester_core.proofs.reply.judge.Given as goal

abbrev pub invariant-loop-first : goal.invariant-loop-first
invariant-loop-first l = record {
  same : judged l.numbers.count l.numbers.least l.left l.rest ≡ judged l.fn.numbers.count l.fn.numbers.least l.fn.placed l.rest;
  count : l.numbers.count ≡ l.fn.numbers.count;
}

abbrev pub decreases-loop-first : goal.decreases-loop-first
decreases-loop-first l = length l.left
