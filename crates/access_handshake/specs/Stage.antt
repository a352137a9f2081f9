-- Where a conversation stands, and which commands it allows there. DDM, volume 3, the order of EXCSAT, ACCSEC, SECCHK and
-- ACCRDB; that EXCSAT and ACCSEC may come again is this project's choice.
use Rattle.std.specs.Prelude.{ℕ, Bool, true, false, ◌==◌, Option, None, Some, if◌then◌else◌}
use Rattle.ddm_codepoints.specs.declared.code_class.CodeClass.{CodeClass}
use Rattle.ddm_codepoints.specs.declared.code_class.CodeClass.TheVariants.{Access, Pass, UnitEnd, Object, Reply, Unknown}
use Rattle.ddm_codepoints.specs.CodePoint.{excsat, accsec, secchk, accrdb}
use Rattle.ddm_codepoints.specs.CodeClass.{class_of}
use Rattle.access_handshake.specs.declared.stage.Stage.{Stage}
use Rattle.access_handshake.specs.declared.stage.Stage.TheVariants.{New, Attached, Chosen, Checked, Accessed}

-- commands to a database that was accessed, and those that end a unit of work
abbrev pub is_for_database : CodeClass → Bool
is_for_database Pass = true
is_for_database UnitEnd = true
is_for_database Access = false
is_for_database Object = false
is_for_database Reply = false
is_for_database Unknown = false

-- the stage after a command that succeeds, where the stage allows it
abbrev pub next_stage : Stage → ℕ → Option Stage
next_stage New code = if code == excsat then Some Attached else None
next_stage Attached code = if code == excsat then Some Attached else (if code == accsec then Some Chosen else None)
next_stage Chosen code = if code == accsec then Some Chosen else (if code == secchk then Some Checked else None)
next_stage Checked code = if code == accrdb then Some Accessed else None
next_stage Accessed code = if is_for_database (class_of code) then Some Accessed else None
