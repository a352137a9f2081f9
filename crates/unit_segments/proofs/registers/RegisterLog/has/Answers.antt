use Rattle.std.proofs.Common.{ap, ◌∙◌}
use Rattle.unit_segments.specs.Registers.{has_key}
use Rattle.unit_segments.proofs.Registering.{key_found}
use Rattle.unit_segments.proofs.registers.RegisterLog.has.Goals as goal

pub returns : goal.returns
returns c = c.contains_key.ensures ∙ key_found c.args.key.now c.self.inside.statements.entries ∙ ap (has_key c.args.key.now) c.self.view_is
