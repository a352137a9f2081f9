use Rattle.std.proofs.Common.{◌≡◌, ◌++◌, length, take, drop, replicate, ◌∙◌, ap}
use borrow.Rule.Slice.PartMut.{put_mid}
use Rattle.dss_frame.specs.declared.dss.Kind.TheVariants.{Object}
use Rattle.dss_frame.specs.Dss.{canonical}
use Rattle.reply_texts.specs.Closing.{last}
use Rattle.reply_texts.proofs.Writing.{object_written}
use Rattle.reply_texts.proofs.closing.card_dss.Goals as goal

pub returns : goal.returns
returns c =
    let object = c.copy_from_slice.new.self in
    let size : length object ≡ 24 =
    c.copy_from_slice.ensures.len ∙ ap (λ head. length (take 24 (drop 6 (head ++ replicate 24 0)))) c.write_u16_into.ensures in
    ap (λ head. put_mid 6 24 (head ++ replicate 24 0) object) c.write_u16_into.ensures
    ∙ object_written c.args.corr object size
    ∙ ap (λ o. canonical (last Object c.args.corr o)) (c.copy_from_slice.ensures.after ∙ c.full_card.ensures)
