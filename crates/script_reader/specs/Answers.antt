-- What a call that may lack memory answers, beside the answer that a definition gives. No standard speaks of it: this is
-- this project's own.
use Rattle.std.specs.Prelude.{◌≡◌, ℕ, Result, Ok, Err}
use Rattle.script_reader.specs.declared.script.ScriptWhy.{ScriptWhy}
use Rattle.script_reader.specs.declared.script.ScriptFault.{ScriptFault}
use Rattle.script_reader.specs.declared.script.ScriptFault.TheVariants as script
use Rattle.script_reader.specs.declared.fault.LineFault.{LineFault}
use Rattle.script_reader.specs.declared.fault.LineFault.TheVariants as line
use Rattle.script_reader.specs.Refusal.{Refusal}

-- The value is the one defined. An error is the one defined, unless memory ran out.
abbrev pub Gives : {A : Type 0} → Result A LineFault → Result A ScriptWhy → Type 0
Gives (Ok value) answer = answer ≡ Ok value
Gives (Err (line.Refused why)) answer = answer ≡ Err why
Gives (Err line.NoMemory) answer = Unit {0}

-- the same of what was changed in place
abbrev pub Adds : {T A : Type 0} → Result T LineFault → A → Result A ScriptWhy → Type 0
Adds (Ok _) changed answer = answer ≡ Ok changed
Adds (Err (line.Refused why)) changed answer = answer ≡ Err why
Adds (Err line.NoMemory) changed answer = Unit {0}

-- the same of a whole script
abbrev pub Reads : {A : Type 0} → Result A ScriptFault → Result A Refusal → Type 0
Reads (Ok value) answer = answer ≡ Ok value
Reads (Err (script.Refused line why)) answer = answer ≡ Err (record { line = line; why = why })
Reads (Err script.NoMemory) answer = Unit {0}

-- the fault of a line, with the number of the line
abbrev pub fault_at : ℕ → LineFault → ScriptFault
fault_at number (line.Refused why) = script.Refused number why
fault_at number line.NoMemory = script.NoMemory
