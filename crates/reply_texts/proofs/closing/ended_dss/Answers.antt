use Rattle.std.proofs.Common.{◌≡◌, ◌++◌, length, take, drop, replicate, ◌∙◌, ap}
use borrow.Rule.Slice.PartMut.{put_mid}
use Rattle.dss_frame.specs.declared.dss.Kind.TheVariants.{Reply, Object}
use Rattle.dss_frame.specs.Dss.{canonical}
use Rattle.reply_texts.specs.RdbName.{characters_of}
use Rattle.reply_texts.specs.Reply.{abnuow_object}
use Rattle.reply_texts.specs.Sqlcard.{sqlcard_object}
use Rattle.reply_texts.specs.Closing.{last, before_same, ended_card}
use Rattle.reply_texts.proofs.Writing.{joined, object_room}
use Rattle.reply_texts.proofs.closing.ended_dss.Goals as goal

pub returns : goal.returns
returns c =
    let reply = c.copy_from_slice.new.self in
    let object = c.copy_from_slice-2.new.self in
    let size : length reply ≡ 38 = c.copy_from_slice.ensures.len in
    let reply_is : reply ≡ canonical (before_same Reply c.args.corr (abnuow_object (characters_of c.args.rdb.now))) =
    c.copy_from_slice.ensures.after ∙ c.abnuow_dss.ensures in
    let object_is : object ≡ canonical (last Object c.args.corr (sqlcard_object c.args.typdef (ended_card c.args.unknown))) =
    c.copy_from_slice-2.ensures.after
    ∙ c.card_dss.ensures
    ∙ ap (λ card. canonical (last Object c.args.corr (sqlcard_object c.args.typdef card))) c.ended_card.ensures in
    joined reply object size (c.copy_from_slice-2.ensures.len ∙ object_room reply size)
    ∙ ap (λ r. r ++ object) reply_is
    ∙ ap (λ o. canonical (before_same Reply c.args.corr (abnuow_object (characters_of c.args.rdb.now))) ++ o) object_is
