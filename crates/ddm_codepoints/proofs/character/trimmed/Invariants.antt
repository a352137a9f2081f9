use Rattle.std.proofs.Common.{◌≡◌, length}
use Rattle.ddm_codepoints.specs.Character.{trimmed}
use Rattle.ddm_codepoints.proofs.character.trimmed.Given as goal

abbrev pub invariant-loop-last : goal.invariant-loop-last
invariant-loop-last l = trimmed l.rest ≡ trimmed l.name

abbrev pub decreases-loop-last : goal.decreases-loop-last
decreases-loop-last l = length l.rest
