use Rattle.std.proofs.Common.{◌≡◌, ◌∙◌, get_or, Some, rules}
use Rattle.std.proofs.lemmas.List.{take_rest}
use Rattle.hex_lines.specs.Hex.{hex_byte}
use Rattle.hex_lines.proofs.Pairs.{pairs_more}
use Rattle.hex_lines.proofs.digits.read_hex.Goals as goal

pub loop-left-preserved : goal.loop-left-preserved
loop-left-preserved c =
    let left = c.loop-left.left.now in
    let spelled : hex_byte (get_or left 0 0) (get_or left 1 0) ≡ Some c.in-Some.byte = search rules in
    let more = pairs_more c.loop-left.bytes left c.in-Some.byte c.in-len2-up.len_at_least spelled in
    rw (c.in_ok-push_all.ensures.ok, take_rest) (more ∙ c.loop-left.invariant)
