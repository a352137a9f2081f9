use Rattle.std.proofs.Common.{[], ◌∷◌, refl, arith}
use Rattle.ddm_objects.proofs.Building.Headers.{short_written, long_written}
use Rattle.ddm_objects.proofs.builder.end_at.Goals as goal

pub returns-then-size-le-GREATEST_SHORT-clause-ok : goal.returns-then-size-le-GREATEST_SHORT-clause-ok
returns-then-size-le-GREATEST_SHORT-clause-ok c =
    rw c.args.bytes.now.ok.0 (short_written c.args.object.code c.args.object.at c.args.bytes.now.items c.as_mut_slice.result.now c.write_short.new.object
    c.as_mut_slice.ensures.value c.requires.begun (omega (arith, c.len.ensures, c.args.bytes.now.ok.0)) c.write_short.ensures)

pub returns-in_ok-extend_from_slice-clause-ok : goal.returns-in_ok-extend_from_slice-clause-ok
returns-in_ok-extend_from_slice-clause-ok c =
    rw c.extend_from_slice.new.self.ok.0 (long_written c.args.object.code c.args.object.at c.args.bytes.now.items c.extend_from_slice.new.self.items
    (0 ∷ 0 ∷ 0 ∷ 0 ∷ [])
    c.as_mut_slice-else-size-le-GREATEST_SHORT.result.now c.write_long.new.object
    c.in_ok-extend_from_slice.ensures.items refl c.as_mut_slice-else-size-le-GREATEST_SHORT.ensures.value c.requires.begun (omega (
      arith,
      c.len.ensures,
      c.args.bytes.now.ok.0,
    )) c.write_long.ensures)
