-- A fault in a body as the code has it. No standard speaks of it: this is this project's own.
use Rattle.std.specs.Prelude.{ℕ, ◌+◌}
use Rattle.ddm_objects.specs.declared.fault.ObjFault.{ObjFault}
use Rattle.unit_segments.specs.declared.body.FaultInBody.{FaultInBody}
use Rattle.unit_segments.specs.Command.{BodyFault, object_error}

abbrev pub seen_fault : FaultInBody → BodyFault
seen_fault fault = record { offset = fault.before + fault.at; err = fault.err }

abbrev pub seen_object_fault : ℕ → ObjFault → FaultInBody
seen_object_fault before fault = record { before = before; at = fault.at; err = object_error fault.why }
