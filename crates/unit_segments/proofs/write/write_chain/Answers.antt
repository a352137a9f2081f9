use Rattle.std.proofs.lemmas.List.{nil_from_length}
use Rattle.unit_segments.proofs.Commands.{chain_on, chain_all}
use Rattle.unit_segments.proofs.write.write_chain.Goals as goal

pub loop-command-preserved : goal.loop-command-preserved
loop-command-preserved c =
    chain_on c.loop-command.out c.put_command.new.out c.in-Some.command.now c.in-Some.rest.now c.loop-command.left.now c.args.commands.now
    c.is_empty.result c.loop-command.invariant c.in-Some.ensures.cases.0 c.is_empty.ensures c.in_ok-put_command.ensures

pub returns : goal.returns
returns c =
    chain_all c.loop-command.out c.loop-command.left.now c.args.commands.now c.loop-command.invariant
    (nil_from_length c.loop-command.left.now c.in_default.ensures.cases)
