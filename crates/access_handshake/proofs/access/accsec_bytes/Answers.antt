use Rattle.std.proofs.Common.{◌≡◌, ◌++◌, length, take, drop, replicate, ◌∙◌, ap}
use borrow.Rule.Slice.PartMut.{put_mid}
use Rattle.access_handshake.specs.Access.{accsec_object}
use Rattle.access_handshake.proofs.Commands.{accsec_with, accsec_written}
use Rattle.access_handshake.proofs.access.accsec_bytes.Goals as goal

pub returns : goal.returns
unfolding accsec_object
returns c =
    let name = c.copy_from_slice.new.self in
    let size : length name ≡ 18 =
    c.copy_from_slice.ensures.len ∙ ap (λ head. length (take 18 (drop 14 (head ++ replicate 18 0)))) c.write_u16_into.ensures in
    ap (λ head. put_mid 14 18 (head ++ replicate 18 0) name) c.write_u16_into.ensures
    ∙ accsec_written c.args.secmec name size
    ∙ ap (accsec_with c.args.secmec) (c.copy_from_slice.ensures.after ∙ c.padded_name.ensures)
