use Rattle.std.proofs.Common.{◌≡◌, length}
use Rattle.std.specs.Prelude.{◌==◌, find, option_map}
use Rattle.ddm_codepoints.specs.CodePoint.{sqlam}
use Rattle.access_handshake.specs.Managers.{managers_of}
use Rattle.requester_core.proofs.answer.level_of_sqlam.Given as goal

abbrev pub invariant-loop-left : goal.invariant-loop-left
invariant-loop-left l =
    option_map (λ manager. manager.level) (find (λ manager. manager.code == sqlam) (managers_of l.left))
    ≡ option_map (λ manager. manager.level) (find (λ manager. manager.code == sqlam) (managers_of l.fn.levels))

abbrev pub decreases-loop-left : goal.decreases-loop-left
decreases-loop-left l = length l.left
