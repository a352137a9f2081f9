use Rattle.std.proofs.Common.{◌≡◌, length}
use Rattle.std.specs.List.{AllByRecursion}
use Rattle.unit_segments.specs.Limit.{most_chain_bytes}
use Rattle.plain_model.specs.Group.{IsCommand}
use Rattle.session_core.specs.Incoming.{next_in}
use Rattle.session_core.proofs.incoming.Incoming.next.Given as goal

abbrev pub invariant-loop-placed : goal.invariant-loop-placed
invariant-loop-placed l = record {
  next : next_in l.self-inside.chains l.self-inside.frames.whole l.self-inside.frames.fault
      ≡ next_in l.fn.self.chain l.fn.self.frames.whole l.fn.self.frames.fault;
  frames : record l.self-inside.frames { whole = l.fn.self.frames.whole } ≡ l.fn.self.frames;
  commands : AllByRecursion IsCommand l.self-inside.chains.commands;
  limit : l.self-inside.frames.limit ≡ most_chain_bytes;
}

abbrev pub decreases-loop-placed : goal.decreases-loop-placed
decreases-loop-placed l = length l.self-inside.frames.whole
