-- What a call that may lack memory answers, beside the answer that a definition gives. No standard speaks of it: this is
-- this project's own.
use Rattle.std.specs.Prelude.{◌≡◌, ℕ, Result, Ok, Err}
use Rattle.drda_trace.specs.declared.trace.TraceFault.{TraceFault}
use Rattle.drda_trace.specs.declared.trace.TraceFault.TheVariants.{Refused, NoMemory}

-- The value is the one defined. A line that is refused is the one defined; want of memory is free.
abbrev pub Reads : {A : Type 0} → Result A TraceFault → Result A ℕ → Type 0
Reads (Ok value) answer = answer ≡ Ok value
Reads (Err (Refused line)) answer = answer ≡ Err line
Reads (Err NoMemory) answer = Unit {0}
