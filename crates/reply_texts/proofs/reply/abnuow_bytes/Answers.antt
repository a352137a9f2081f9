use Rattle.std.proofs.Common.{◌≡◌, ◌++◌, length, take, drop, replicate, ◌∙◌, ap}
use borrow.Rule.Slice.PartMut.{put_mid}
use Rattle.ddm_codepoints.specs.Character.{padded_name}
use Rattle.reply_texts.specs.RdbName.{characters_of}
use Rattle.reply_texts.specs.Reply.{abnuow_object}
use Rattle.reply_texts.proofs.Writing.{abnuow_with, abnuow_written}
use Rattle.reply_texts.proofs.reply.abnuow_bytes.Goals as goal

pub returns : goal.returns
unfolding abnuow_object
returns c =
    let part : c.copy_from_slice.new.self ≡ padded_name (characters_of c.args.rdb.now) =
    c.copy_from_slice.ensures.after ∙ c.padded_name.ensures ∙ ap padded_name c.as_slice.ensures.characters in
    let size : length c.copy_from_slice.new.self ≡ 18 =
    c.copy_from_slice.ensures.len ∙ ap (λ head. length (take 18 (drop 14 (head ++ replicate 18 0)))) c.write_u16_into.ensures in
    ap (λ head. put_mid 14 18 (head ++ replicate 18 0) c.copy_from_slice.new.self) c.write_u16_into.ensures
    ∙ abnuow_written c.copy_from_slice.new.self size
    ∙ ap abnuow_with part
