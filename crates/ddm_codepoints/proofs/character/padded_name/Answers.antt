use Rattle.std.proofs.Common.{◌∙◌, ap, slice_set}
use Rattle.std.specs.Prelude.{unwrap_or}
use Rattle.ddm_codepoints.specs.Character.{ebcdic_of, space}
use Rattle.ddm_codepoints.proofs.Padding.{padded_more}
use Rattle.ddm_codepoints.proofs.character.padded_name.Goals as goal

pub loop-i-preserved : goal.loop-i-preserved
loop-i-preserved c =
    ap (slice_set c.loop-i.padded c.loop-i.i) (c.unwrap_or.ensures ∙ ap (λ code. unwrap_or code space) c.ebcdic_of.ensures)
    ∙ padded_more (λ ascii. unwrap_or (ebcdic_of ascii) space) c.args.name.now c.loop-i.padded c.loop-i.i c.loop-i-test.true c.requires c.loop-i.invariant
