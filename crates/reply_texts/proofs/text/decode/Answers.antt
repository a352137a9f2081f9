use Rattle.std.proofs.Common.{◌∙◌, ap, slice_set}
use Rattle.reply_texts.specs.Text.{ascii_in}
use Rattle.reply_texts.proofs.InPlace.{one_more}
use Rattle.reply_texts.proofs.text.decode.Goals as goal

pub loop-byte-preserved : goal.loop-byte-preserved
loop-byte-preserved c =
    ap (slice_set c.loop-byte.bytes c.loop-byte.byte-index) c.ascii_in.ensures
    ∙ one_more (ascii_in c.args.typdef) c.args.bytes.now c.loop-byte.bytes c.loop-byte.byte-index c.loop-byte-test.true c.loop-byte.invariant
