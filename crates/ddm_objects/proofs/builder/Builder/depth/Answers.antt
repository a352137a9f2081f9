use Rattle.std.proofs.Common.{◌∙◌}
use Rattle.ddm_objects.proofs.Building.Fields.{depth_is}
use Rattle.ddm_objects.proofs.builder.Builder.depth.Goals as goal

pub returns : goal.returns
returns c = c.len.ensures.value ∙ depth_is c.self.inside.begun.items c.self.inside.bytes.items c.args.self.now c.self.view_is
