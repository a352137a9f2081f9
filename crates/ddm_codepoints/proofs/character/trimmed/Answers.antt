use Rattle.std.proofs.Common.{◌∙◌}
use Rattle.ddm_codepoints.proofs.Trimming.{blank_dropped, nothing_dropped}
use Rattle.ddm_codepoints.proofs.character.trimmed.Goals as goal

pub loop-last-preserved : goal.loop-last-preserved
loop-last-preserved c =
    blank_dropped c.loop-last.rest.now c.in-Some.front.now c.in-Some.last.now c.in-Some.ensures.cases.0 c.if-last-ne-SPACE.false ∙ c.loop-last.invariant

pub returns-then-last-ne-SPACE : goal.returns-then-last-ne-SPACE
returns-then-last-ne-SPACE c =
    nothing_dropped c.loop-last.rest.now c.in-Some.front.now c.in-Some.last.now c.in-Some.ensures.cases.0 c.if-last-ne-SPACE.true ∙ c.loop-last.invariant
