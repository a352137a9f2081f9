use Rattle.std.proofs.Common.{sym, subst}
use Rattle.std.specs.List.{AllByRecursion}
use Rattle.plain_model.specs.Group.{IsCommand}
use Rattle.session_core.proofs.Commands.{each_segment}
use Rattle.session_core.proofs.session.SessionCore.begin_chain.Goals as goal

pub invariant_of-self : goal.invariant_of-self
invariant_of-self c =
    (subst (AllByRecursion (AllByRecursion IsCommand)) (sym c.in_ok-self-inside.ensures) (each_segment c.args.chain.now c.requires), c.self.invariant.1)
