use Rattle.std.proofs.Common.{sym, ◌∙◌}
use Rattle.unit_segments.proofs.Reading.{no_fault}
use Rattle.unit_segments.proofs.chain_reader.ChainReader.add.Goals as goal

pub command-requires-clause-count : goal.command-requires-clause-count
command-requires-clause-count c = (no_fault c.args.self.now c.args.placed (sym c.fault.ensures ∙ c.in_default.is)).count

pub command-requires-clause-order : goal.command-requires-clause-order
command-requires-clause-order c = (no_fault c.args.self.now c.args.placed (sym c.fault.ensures ∙ c.in_default.is)).order
