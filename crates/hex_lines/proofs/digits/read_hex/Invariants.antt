use Rattle.std.proofs.Common.{◌≡◌, ◌++◌, length}
use Rattle.std.specs.Option.{option_map}
use Rattle.hex_lines.specs.Hex.{bytes_of_pairs}
use Rattle.hex_lines.proofs.digits.read_hex.Given as goal

abbrev pub invariant-loop-left : goal.invariant-loop-left
invariant-loop-left l = option_map (λ rest. l.bytes ++ rest) (bytes_of_pairs l.left) ≡ bytes_of_pairs l.digits

abbrev pub decreases-loop-left : goal.decreases-loop-left
decreases-loop-left l = length l.left
