use Rattle.std.proofs.Common.{◌≡◌, ◌-◌, ◌++◌, take, replicate}
use Rattle.ddm_codepoints.specs.Character.{space, ebcdic_text}
use Rattle.ddm_codepoints.proofs.character.padded_name.Given as goal

abbrev pub invariant-loop-i : goal.invariant-loop-i
invariant-loop-i l = l.padded ≡ ebcdic_text (take l.i l.name) ++ replicate (18 - l.i) space
