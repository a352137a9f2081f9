-- What a command says: DRDA, volume 3, RQSDSS. The body of a request DSS is one object, the command, and its data are the
-- command's parameters.
use Rattle.std.specs.Prelude.{ℕ, ◌+◌, ◌-◌, ◌==◌, Bool, true, false, ◌&&◌, if◌then◌else◌, List, [], length, nat_le}
use Rattle.std.specs.Prelude.{Option, Some, None, is_some, Result, Ok, Err}
use Rattle.ddm_objects.specs.declared.fault.ObjFault.{ObjFault}
use Rattle.ddm_objects.specs.declared.fault.ObjWhy.{ObjWhy}
use Rattle.ddm_objects.specs.declared.fault.ObjWhy.TheVariants.{LessThan4, Past, Extended}
use Rattle.ddm_objects.specs.Objects.{Member, outer_of}
use Rattle.ddm_objects.specs.Members.{members_of, first_with}
use Rattle.ddm_codepoints.specs.declared.code_class.CodeClass.{CodeClass}
use Rattle.ddm_codepoints.specs.declared.code_class.CodeClass.TheVariants.{Access, Pass, UnitEnd}
use Rattle.ddm_codepoints.specs.CodeClass.{class_of}
use Rattle.ddm_codepoints.specs.CodePoint.{accsec, secchk, accrdb, secmec, usrid, rdbnam, typdefnam}

-- ---- its class

-- it ends a unit of work: DDM, volume 3, RDBCMM, RDBRLLBCK
abbrev pub ends_unit : CodeClass → Bool
ends_unit UnitEnd = true
ends_unit _ = false

-- it is passed to the database within a unit of work: this project's own
abbrev pub is_passed : CodeClass → Bool
is_passed Pass = true
is_passed _ = false

-- its parameters are looked into: this project's own
abbrev pub is_looked_into : CodeClass → Bool
is_looked_into Access = true
is_looked_into UnitEnd = true
is_looked_into _ = false

-- ---- its object

abbrev pub code_by : Result Member ObjFault → ℕ
code_by (Ok object) = object.code
code_by (Err fault) = 0

-- the code point of the object that a body is, 0 where it is none: DRDA, volume 3, RQSDSS
abbrev pub code_of : List ℕ → ℕ
code_of body = code_by (outer_of body)

abbrev pub data_by : Result Member ObjFault → List ℕ
data_by (Ok object) = object.bytes
data_by (Err fault) = []

-- its data, none where it is no object: DRDA, volume 3, RQSDSS
abbrev pub data_of : List ℕ → List ℕ
data_of body = data_by (outer_of body)

-- ---- its parameters

-- Of a parameter that comes again the first counts: this project's choice.
abbrev pub parameter : List ℕ → ℕ → Option Member
parameter params code = first_with code (members_of params).objects

abbrev pub has : List ℕ → ℕ → Bool
has params code = is_some (parameter params code)

abbrev pub has_two_bytes : Option Member → Bool
has_two_bytes None = false
has_two_bytes (Some object) = nat_le 2 (length object.bytes)

-- The parameters are there that a command needs: DDM, volume 3, ACCSEC, SECCHK, ACCRDB. SECMEC has two bytes at least.
abbrev pub has_needed : ℕ → List ℕ → Bool
has_needed code params =
    if code == accsec then has_two_bytes (parameter params secmec)
    else (if code == secchk then has_two_bytes (parameter params secmec) && has params usrid
    else (if code == accrdb then has params rdbnam && has params typdefnam
    else true))

-- ---- its first fault

-- a fault at an offset of a body, by its SYNERRCD: DDM, volume 3, SYNERRCD
pub record BodyFault : Type 0 where
  pub offset : ℕ
  pub err : ℕ

-- DDM, volume 3, SYNERRCD: object length less than 4, object past its holder, length form not accepted
abbrev pub object_error : ObjWhy → ℕ
object_error LessThan4 = 0x07
object_error Past = 0x08
object_error Extended = 0x0C

-- DDM, volume 3, SYNERRCD: a required parameter is missing
abbrev pub missing_error : ℕ
missing_error = 0x0E

-- an object's fault, where the bytes that it was looked for in begin at an offset of the body
abbrev pub fault_from : ℕ → ObjFault → BodyFault
fault_from offset fault = record { offset = offset + fault.at; err = object_error fault.why }

-- the first fault of parameters that begin at an offset of the body: of their objects in order, then one that is missing
abbrev pub params_fault : ℕ → ℕ → List ℕ → Option ObjFault → Option BodyFault
params_fault offset code params (Some fault) = Some (fault_from offset fault)
params_fault offset code params None =
    if has_needed code params then None else Some (record { offset = 0; err = missing_error })

abbrev pub body_fault_by : List ℕ → Result Member ObjFault → Option BodyFault
body_fault_by body (Err fault) = Some (fault_from 0 fault)
body_fault_by body (Ok object) =
    if is_looked_into (class_of object.code)
    then params_fault (length body - length object.bytes) object.code object.bytes (members_of object.bytes).fault
    else None

-- The first fault of a command's body: the body isn't one object; then, where the parameters are looked into, they aren't
-- objects one after another, or one that is needed is missing. DRDA, volume 3, RQSDSS; the order is this project's own.
unfoldable pub body_fault : List ℕ → Option BodyFault
body_fault body = body_fault_by body (outer_of body)
