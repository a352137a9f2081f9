-- What a call answers, without where it lies in memory. No standard speaks of it: this is this project's own.
use Rattle.std.specs.Borrow.{Bor}
use Rattle.std.specs.Prelude.{List, ℕ, Option, option_map, Result, Ok, Err}
use Rattle.ddm_objects.specs.declared.fault.ObjFault.{ObjFault}
use Rattle.ddm_objects.specs.declared.fault.ObjWhy.{ObjWhy}
use Rattle.ddm_objects.specs.declared.object.Object.{Object}
use Rattle.ddm_objects.specs.Objects.{Member, Found, Extent}

abbrev pub seen : Object → Member
seen object = record { code = object.code; bytes = object.bytes.now }

abbrev pub seen_result : Result Object ObjFault → Result Member ObjFault
seen_result (Ok object) = Ok (seen object)
seen_result (Err fault) = Err fault

abbrev pub seen_search : Result (Option Object) ObjFault → Result (Option Member) ObjFault
seen_search (Ok found) = Ok (option_map seen found)
seen_search (Err fault) = Err fault

-- an object, and the bytes after it
abbrev pub seen_found : Result (Object × Bor (List ℕ)) ObjFault → Result Found ObjFault
seen_found (Ok (object, rest)) = Ok (record { object = seen object; rest = rest.now })
seen_found (Err fault) = Err fault

-- how many bytes of data there are, and the bytes from the data on
abbrev pub seen_extent : Result (ℕ × Bor (List ℕ)) ObjWhy → Result Extent ObjWhy
seen_extent (Ok (size, from)) = Ok (record { size = size; from = from.now })
seen_extent (Err why) = Err why
