-- What a call answers, without where it lies in memory. No standard speaks of it: this is this project's own.
use Rattle.std.specs.Borrow.{Bor}
use Rattle.std.specs.Prelude.{List, ℕ, Result, Ok, Err}
use Rattle.fdoca_pass.specs.declared.fault.TripletFault.{TripletFault}
use Rattle.fdoca_pass.specs.declared.triplet.Triplet.{Triplet}
use Rattle.fdoca_pass.specs.Triplets.{Described, Found}

abbrev pub seen : Triplet → Described
seen triplet = record { kind = triplet.kind; bytes = triplet.bytes.now }

abbrev pub seen_result : Result Triplet TripletFault → Result Described TripletFault
seen_result (Ok triplet) = Ok (seen triplet)
seen_result (Err fault) = Err fault

-- a triplet, and the bytes after it
abbrev pub seen_found : Result (Triplet × Bor (List ℕ)) TripletFault → Result Found TripletFault
seen_found (Ok (triplet, rest)) = Ok (record { triplet = seen triplet; rest = rest.now })
seen_found (Err fault) = Err fault
