use Rattle.std.proofs.Common.{rules, ◌≡◌, length, take, drop, ◌∙◌, ap}
use Rattle.std.specs.Prelude.{FitsSigned}
use Rattle.std.specs.Int.{w32}
use Rattle.std.proofs.lemmas.Int.{to_z-of_z}
use borrow.Rule.Slice.PartMut.{put_mid}
use Rattle.reply_texts.specs.Sqlcard.{number_bytes, sqlcard_object}
use Rattle.reply_texts.proofs.Writing.{with_number, with_state, with_proc, encoded, card_with, number_size, state_room, proc_room, card_written}
use Rattle.reply_texts.proofs.sqlcard.full_card.Goals as goal

pub returns : goal.returns
unfolding sqlcard_object
returns c =
    let head = c.write_u16_into.new.dst in
    let number = c.copy_from_slice.new.self in
    let state = c.copy_from_slice-2.new.self in
    let proc = c.copy_from_slice-3.new.self in
    let fits : FitsSigned w32 c.args.sqlca.now.code = search rules in
    let number_is : number ≡ number_bytes c.args.typdef c.args.sqlca.now.code =
    c.copy_from_slice.ensures.after ∙ c.number_bytes.ensures ∙ ap (number_bytes c.args.typdef) (to_z-of_z w32 c.args.sqlca.now.code fits) in
    let size : length number ≡ 4 = ap length number_is ∙ number_size c.args.typdef c.args.sqlca.now.code in
    let state_size : length state ≡ 5 =
    c.copy_from_slice-2.ensures.len ∙ ap (λ h. length (take 5 (drop 9 (with_number h number)))) c.write_u16_into.ensures ∙ state_room number size in
    let proc_size : length proc ≡ 8 =
    c.copy_from_slice-3.ensures.len
    ∙ ap (λ h. length (take 8 (drop 14 (with_state h number state)))) c.write_u16_into.ensures
    ∙ proc_room number state size state_size in
    ap (put_mid 9 13 (with_proc head number state proc)) c.encode.ensures
    ∙ ap (λ h. encoded c.args.typdef (with_proc h number state proc)) c.write_u16_into.ensures
    ∙ card_written c.args.typdef number state proc size state_size proc_size
    ∙ ap (λ n. card_with c.args.typdef n state proc) number_is
    ∙ ap (λ s. card_with c.args.typdef (number_bytes c.args.typdef c.args.sqlca.now.code) s proc) c.copy_from_slice-2.ensures.after
    ∙ ap (card_with c.args.typdef (number_bytes c.args.typdef c.args.sqlca.now.code) c.args.sqlca.now.state) c.copy_from_slice-3.ensures.after
