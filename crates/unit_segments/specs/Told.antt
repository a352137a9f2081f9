-- What a reply tells by a parameter. No standard speaks of it: this is this project's own.
use Rattle.std.specs.Prelude.{ℕ, List, Option, Some, None, option_map}
use Rattle.ddm_objects.specs.declared.fault.ObjFault.{ObjFault}
use Rattle.ddm_objects.specs.Objects.{Member}
use Rattle.ddm_objects.specs.Members.{members_of}
use Rattle.unit_segments.specs.Command.{parameter}

abbrev pub told_by : Option ObjFault → Option Member → Option (List ℕ)
told_by None found = option_map (λ object. object.bytes) found
told_by (Some fault) found = None

-- the data of the first parameter with this code point, where the data are parameters
abbrev pub told : ℕ → List ℕ → Option (List ℕ)
told code params = told_by (members_of params).fault (parameter params code)
