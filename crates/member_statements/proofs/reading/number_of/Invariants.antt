use Rattle.std.proofs.Common.{◌≡◌, ◌<◌, ◌^◌}
use Rattle.std.specs.Prelude.{take, fold}
use Rattle.member_statements.specs.Statement.{with_digit}
use Rattle.member_statements.proofs.reading.number_of.Given as goal

abbrev pub invariant-loop-byte : goal.invariant-loop-byte
invariant-loop-byte l = (l.number < 10 ^ l.byte-index) × (l.number ≡ fold with_digit 0 (take l.byte-index l.digits))
