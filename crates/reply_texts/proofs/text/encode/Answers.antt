use Rattle.std.proofs.Common.{◌∙◌, ap, slice_set}
use Rattle.reply_texts.specs.Text.{code_in}
use Rattle.reply_texts.proofs.InPlace.{one_more}
use Rattle.reply_texts.proofs.text.encode.Goals as goal

pub loop-byte-preserved : goal.loop-byte-preserved
loop-byte-preserved c =
    ap (slice_set c.loop-byte.text c.loop-byte.byte-index) c.code_in.ensures
    ∙ one_more (code_in c.args.typdef) c.args.text.now c.loop-byte.text c.loop-byte.byte-index c.loop-byte-test.true c.loop-byte.invariant
