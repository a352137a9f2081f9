-- The parameters of a command or of a reply message. DDM, volume 3, DDM objects: a collection.
use Rattle.std.specs.Prelude.{ℕ, ◌≤◌, Bool, false, is_some, nat_le, List, length, Option, None, Some, Result, Ok, Err}
use Rattle.ddm_objects.specs.declared.fault.ObjFault.{ObjFault}
use Rattle.ddm_objects.specs.Objects.{Member}
use Rattle.ddm_objects.specs.Members.{find_of}

abbrev pub data_of : Result (Option Member) ObjFault → Option (List ℕ)
data_of (Ok (Some object)) = Some object.bytes
data_of (Ok None) = None
data_of (Err fault) = None

-- The data of the first parameter with this code point, where the parameters are objects one after another and one of them
-- has it.
unfoldable pub parameter : List ℕ → ℕ → Option (List ℕ)
parameter params code = data_of (find_of params code)
