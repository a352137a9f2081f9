use Rattle.std.proofs.Common.{◌∙◌, ap, reverse}
use Rattle.ddm_objects.specs.Builder.{Building}
use Rattle.ddm_objects.proofs.Building.Fields.{all_written}
use Rattle.ddm_objects.proofs.builder.Builder.finish.Goals as goal

pub returns : goal.returns
returns c =
    let none = ap (λ (b : Building). b.begun) c.self.view_is ∙ c.requires in
    c.from_grown.ensures ∙ all_written (reverse c.self.inside.begun.items) c.self.inside.bytes.items none ∙ ap (λ (b : Building). b.written) c.self.view_is
