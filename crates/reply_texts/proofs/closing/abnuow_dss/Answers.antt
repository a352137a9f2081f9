use Rattle.std.proofs.Common.{◌≡◌, ◌++◌, length, take, drop, replicate, ◌∙◌, ap}
use borrow.Rule.Slice.PartMut.{put_mid}
use Rattle.dss_frame.specs.declared.dss.Kind.TheVariants.{Reply}
use Rattle.dss_frame.specs.Dss.{canonical}
use Rattle.reply_texts.specs.Closing.{before_same}
use Rattle.reply_texts.proofs.Writing.{reply_written}
use Rattle.reply_texts.proofs.closing.abnuow_dss.Goals as goal

pub returns : goal.returns
returns c =
    let reply = c.copy_from_slice.new.self in
    let size : length reply ≡ 32 =
    c.copy_from_slice.ensures.len ∙ ap (λ head. length (take 32 (drop 6 (head ++ replicate 32 0)))) c.write_u16_into.ensures in
    ap (λ head. put_mid 6 32 (head ++ replicate 32 0) reply) c.write_u16_into.ensures
    ∙ reply_written c.args.corr reply size
    ∙ ap (λ r. canonical (before_same Reply c.args.corr r)) (c.copy_from_slice.ensures.after ∙ c.abnuow_bytes.ensures)
