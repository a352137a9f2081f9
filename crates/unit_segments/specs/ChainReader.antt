-- What a reader of chains has in its fields, and what it answers. No standard speaks of it: this is this project's own.
use Rattle.std.specs.Prelude.{◌≡◌, ℕ, ◌==◌, Bool, if◌then◌else◌, List, [], ◌∷◌, ◌++◌, Option, Some, None, Result, Ok, Err}
use Rattle.dss_frame.specs.declared.dss.Dss.{Dss}
use Rattle.dss_frame.specs.declared.dss.Placed.{Placed}
use Rattle.unit_segments.specs.declared.chain_reader.Awaited.{Awaited}
use Rattle.unit_segments.specs.declared.chain_reader.Awaited.TheVariants as awaits
use Rattle.unit_segments.specs.declared.command.Command.{Command}
use Rattle.unit_segments.specs.declared.fault.ChainFault.{ChainFault}
use Rattle.unit_segments.specs.declared.fault.ChainFault.TheVariants.{Syntax, TooMany, NoMemory}
use Rattle.unit_segments.specs.Chain.{OpenChain, no_chain, wrong_number}

-- the commands that are whole, and behind them the one that may get objects yet
abbrev pub with_begun : List Command → Option Command → List Command
with_begun commands None = commands
with_begun commands (Some command) = commands ++ command ∷ []

abbrev pub awaited_by : Option Command → Awaited
awaited_by None = awaits.Command
awaited_by (Some command) = awaits.Object command.corr

abbrev pub chain_in : List Command → Option Command → ℕ → OpenChain
chain_in commands begun before =
    record { commands = with_begun commands begun; awaited = awaited_by begun; before = before }

-- the command with the object of this DSS too
abbrev pub with_last : Command → Dss → Command
with_last command d = record command { go_on = d.go_on; objects = command.objects ++ d.body ∷ [] }

-- an object has another number than its command
abbrev pub number_fault : ℕ → Placed → Option ChainFault
number_fault corr placed = if placed.dss.corr == corr then None else Some (wrong_number placed)

-- the chain with this command too, to which objects may come yet
abbrev pub joined : List Command → Command → Bool → Bool → OpenChain
joined commands command same chained =
    if chained
    then record {
      commands = commands ++ command ∷ [];
      awaited = if same then awaits.Object command.corr else awaits.Command;
      before = command.corr;
    }
    else no_chain

-- the answer is what is stated; want of memory is free
abbrev pub IsAnswer : Result (Option (List Command)) ChainFault → Result (Option (List Command)) ChainFault → Type 0
IsAnswer (Ok chain) stated = stated ≡ Ok chain
IsAnswer (Err NoMemory) stated = Unit {0}
IsAnswer (Err (Syntax at err corr)) stated = stated ≡ Err (Syntax at err corr)
IsAnswer (Err (TooMany at corr)) stated = stated ≡ Err (TooMany at corr)
