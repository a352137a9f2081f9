use Rattle.std.proofs.Common.{ap, ◌∙◌, List, ℕ, take}
use Rattle.std.proofs.lemmas.List.{take-take}
use Rattle.link_ends.proofs.short.Short.front_of.Goals as goal

pub returns : goal.returns
returns c = ap (λ (xs : List ℕ). take c.args.len xs) c.copy_from_slice.ensures.after ∙ take-take c.args.len 24 c.args.bytes.now c.requires.short
