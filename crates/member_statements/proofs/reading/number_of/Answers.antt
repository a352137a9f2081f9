use Rattle.std.proofs.Common.{arith}
use Rattle.member_statements.proofs.Keys.{key_length, one_digit_more, digit_at}
use Rattle.member_statements.proofs.reading.number_of.Goals as goal

pub overflow_mul-number : goal.overflow_mul-number
overflow_mul-number c =
    omega (arith, one_digit_more _ _ _ c.loop-byte.invariant.0 c.loop-byte-test.true (key_length _ c.requires))

pub overflow_add-number : goal.overflow_add-number
overflow_add-number c =
    omega (
      arith,
      one_digit_more _ _ _ c.loop-byte.invariant.0 c.loop-byte-test.true (key_length _ c.requires),
      digit_at _ _ c.requires c.loop-byte-test.true,
    )
