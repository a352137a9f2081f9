-- How DSSs are read as chains of commands: DRDA, volume 3, DSS: chaining. A command is one request DSS and the object DSSs
-- that follow it with its correlation number; a chain ends with the first DSS that isn't chained.
use Rattle.std.specs.Prelude.{ℕ, ◌+◌, ◌==◌, Bool, true, false, ◌&&◌, if◌then◌else◌, List, [], ◌∷◌, ◌++◌, length, nat_le}
use Rattle.std.specs.Prelude.{Option, Some, None, Result, Ok, Err}
use Rattle.std.specs.Option.{option_or}
use Rattle.dss_frame.specs.declared.dss.Kind.{Kind}
use Rattle.dss_frame.specs.declared.dss.Kind.TheVariants.{Request, Object}
use Rattle.dss_frame.specs.declared.dss.Dss.{Dss}
use Rattle.dss_frame.specs.declared.dss.Placed.{Placed}
use Rattle.dss_frame.specs.Reading.{further_on}
use Rattle.unit_segments.specs.declared.chain_reader.Awaited.{Awaited}
use Rattle.unit_segments.specs.declared.chain_reader.Awaited.TheVariants as awaits
use Rattle.unit_segments.specs.declared.command.Command.{Command}
use Rattle.unit_segments.specs.declared.fault.ChainFault.{ChainFault}
use Rattle.unit_segments.specs.declared.fault.ChainFault.TheVariants.{Syntax, TooMany}
use Rattle.unit_segments.specs.Limit.{most_commands}
use Rattle.unit_segments.specs.Command.{BodyFault, code_of, body_fault}

-- A chain that has begun and isn't whole.
pub record OpenChain : Type 0 where
  -- its commands so far, the last of which may get objects yet
  pub commands : List Command
  -- what the next DSS must be
  pub awaited : Awaited
  -- the correlation number of the DSS before it in the chain, or 0
  pub before : ℕ

abbrev pub no_chain : OpenChain
no_chain = record { commands = []; awaited = awaits.Command; before = 0 }

-- ---- the first fault of a DSS that follows

abbrev pub is_request : Kind → Bool
is_request Request = true
is_request _ = false

abbrev pub is_object : Kind → Bool
is_object Object = true
is_object _ = false

-- DDM, volume 3, SYNERRCD: the format byte, or the correlation number, is none that can stand there
abbrev pub chaining_error : ℕ
chaining_error = 0x04

-- The format byte, the fourth byte of the DSS, says another kind. The fault has the number of the DSS before.
abbrev pub wrong_kind : ℕ → Placed → ChainFault
wrong_kind before placed = Syntax (further_on placed.at 3) chaining_error before

-- the correlation number, behind the format byte, is another one
abbrev pub wrong_number : Placed → ChainFault
wrong_number placed = Syntax (further_on placed.at 4) chaining_error placed.dss.corr

-- The DSS isn't what is awaited: a request with any number, or an object with the number of its command.
abbrev pub order_fault : Awaited → ℕ → Placed → Option ChainFault
order_fault awaits.Command before placed = if is_request placed.dss.kind then None else Some (wrong_kind before placed)
order_fault (awaits.Object corr) before placed =
    if is_object placed.dss.kind
    then (if placed.dss.corr == corr then None else Some (wrong_number placed))
    else Some (wrong_kind before placed)

-- it is a command more than a chain may have
abbrev pub count_fault : List Command → Placed → Option ChainFault
count_fault commands placed =
    if is_request placed.dss.kind && nat_le most_commands (length commands)
    then Some (TooMany placed.at placed.dss.corr)
    else None

-- An offset in a body counts from behind the header, which has six bytes: the lengths of further segments aren't counted.
abbrev pub at_body : Placed → Option BodyFault → Option ChainFault
at_body placed None = None
at_body placed (Some fault) = Some (Syntax (further_on placed.at (6 + fault.offset)) fault.err placed.dss.corr)

-- its body is no command
abbrev pub command_fault : Placed → Option ChainFault
command_fault placed = if is_request placed.dss.kind then at_body placed (body_fault placed.dss.body) else None

-- The first fault of a DSS, in this order; the order is this project's own.
unfoldable pub dss_fault : OpenChain → Placed → Option ChainFault
dss_fault chain placed =
    option_or (order_fault chain.awaited chain.before placed)
    (option_or (count_fault chain.commands placed) (command_fault placed))

-- ---- the chain with it

-- the command that begins with a request DSS, without objects yet
abbrev pub command_of : Placed → Command
command_of placed = record {
  code = code_of placed.dss.body;
  corr = placed.dss.corr;
  go_on = placed.dss.go_on;
  at = placed.at;
  body = placed.dss.body;
  objects = [];
}

-- the last of the commands has this object too, and goes on after an error where the object's DSS says so
abbrev pub with_object : List Command → Dss → List Command
with_object [] d = []
with_object (command ∷ []) d = record command { go_on = d.go_on; objects = command.objects ++ d.body ∷ [] } ∷ []
with_object (command ∷ next ∷ commands) d = command ∷ with_object (next ∷ commands) d

abbrev pub with_dss : List Command → Placed → List Command
with_dss commands placed =
    if is_request placed.dss.kind then commands ++ command_of placed ∷ [] else with_object commands placed.dss

abbrev pub awaited_after : Dss → Awaited
awaited_after d = if d.same then awaits.Object d.corr else awaits.Command

-- the chain that goes on behind a DSS, or the next one, which hasn't begun
abbrev pub chain_after : OpenChain → Placed → OpenChain
chain_after chain placed =
    if placed.dss.chained
    then record { commands = with_dss chain.commands placed; awaited = awaited_after placed.dss; before = placed.dss.corr }
    else no_chain

abbrev pub chain_by : OpenChain → Placed → Option ChainFault → Result (Option (List Command)) ChainFault
chain_by chain placed (Some fault) = Err fault
chain_by chain placed None = Ok (if placed.dss.chained then None else Some (with_dss chain.commands placed))

-- what a DSS comes to: the fault, or the chain that it ends, if it ends one
unfoldable pub chain_step : OpenChain → Placed → Result (Option (List Command)) ChainFault
chain_step chain placed = chain_by chain placed (dss_fault chain placed)

-- ---- all of them

-- what DSSs are read as: the chains that are whole, the one that isn't, and the first fault
pub record Chains : Type 0 where
  pub chains : List (List Command)
  pub begun : OpenChain
  pub fault : Option ChainFault

abbrev pub with_chain : Option (List Command) → Chains → Chains
with_chain None read = read
with_chain (Some commands) read = record read { chains = commands ∷ read.chains }

abbrev pub chains_by : OpenChain → Result (Option (List Command)) ChainFault → Chains → Chains
chains_by chain (Err fault) others = record { chains = []; begun = chain; fault = Some fault }
chains_by chain (Ok ended) others = with_chain ended others

-- the DSSs that follow a chain that has begun, read one after another up to the first fault
unfoldable pub chains_from : OpenChain → List Placed → Chains
chains_from chain [] = record { chains = []; begun = chain; fault = None }
chains_from chain (placed ∷ others) =
    chains_by chain (chain_step chain placed) (chains_from (chain_after chain placed) others)

-- DRDA, volume 3, DSS: chaining
abbrev pub chains_of : List Placed → Chains
chains_of placed = chains_from no_chain placed
