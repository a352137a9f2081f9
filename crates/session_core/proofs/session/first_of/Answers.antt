use Rattle.std.proofs.Common.{sym, subst, ◌∙◌}
use Rattle.std.specs.List.{AllByRecursion}
use Rattle.plain_model.specs.Group.{IsCommand}
use Rattle.session_core.proofs.Cores.{first_at, none_at, first_commands}
use Rattle.session_core.proofs.session.first_of.Goals as goal

pub returns-in-Some-clause-first : goal.returns-in-Some-clause-first
returns-in-Some-clause-first c =
    c.as_slice.ensures ∙ c.commands.ensures.commands ∙ first_at c.args.answered c.args.segments.now c.in-Some.segment.now (sym c.in-Some.ensures)

pub returns-in-Some-clause-commands : goal.returns-in-Some-clause-commands
returns-in-Some-clause-commands c =
    subst (AllByRecursion IsCommand)
    (sym (c.as_slice.ensures ∙ c.commands.ensures.commands ∙ first_at c.args.answered c.args.segments.now c.in-Some.segment.now (sym c.in-Some.ensures)))
    (first_commands _ c.requires)

pub returns-in-None-clause-first : goal.returns-in-None-clause-first
returns-in-None-clause-first c = sym (none_at c.args.answered c.args.segments.now (sym c.in-None.ensures))
