-- What an application's bytes go on with: DRDA, volume 3, DSS: chaining; DDM, volume 3, SYNTAXRM, SYNERRCD, RSCLMTRM. A chain is
-- read whole before any of it runs, and its faults are judged one DSS after another: this project's own.
use Rattle.std.specs.Prelude.{ℕ, List, [], ◌∷◌, Option, Some, None, option_map, Result, Ok, Err}
use Rattle.dss_frame.specs.declared.dss.Placed.{Placed}
use Rattle.dss_frame.specs.declared.dss.Side.TheVariants.{Requests}
use Rattle.dss_frame.specs.declared.fault.StreamFault.{StreamFault}
use Rattle.dss_frame.specs.declared.fault.StreamFault.TheVariants as frame
use Rattle.dss_frame.specs.Reading.{View, start, fed}
use Rattle.reply_texts.specs.Closing.{syntax_error}
use Rattle.unit_segments.specs.declared.command.Command.{Command}
use Rattle.unit_segments.specs.declared.fault.ChainFault.{ChainFault}
use Rattle.unit_segments.specs.declared.fault.ChainFault.TheVariants as chain
use Rattle.unit_segments.specs.Limit.{most_chain_bytes}
use Rattle.unit_segments.specs.Chain.{OpenChain, no_chain, chain_step, chain_after}
use Rattle.plain_model.specs.Begun.{Reading, Chain, Fault, TooLong}

-- The bytes of an application that are in no whole chain that was taken.
pub record Incoming : Type 0 where
  -- the DSSs that are in no chain yet, and the one that isn't whole, with its place
  pub frames : View
  -- the chain whose first DSSs were taken
  pub chain : OpenChain

abbrev pub nothing_came : Incoming
nothing_came = record { frames = start Requests most_chain_bytes; chain = no_chain }

-- a piece follows what came
abbrev pub with_piece : List ℕ → Incoming → Incoming
with_piece piece incoming = record incoming { frames = fed incoming.frames piece }

-- ---- the next chain

-- A field is none of a DSS, or the chain has too many bytes. DDM, volume 3, SYNERRCD.
abbrev pub of_frame : StreamFault → Reading
of_frame (frame.Frame at why number) = Fault at (syntax_error why) number
of_frame (frame.TooLong at number) = TooLong number

-- A DSS can't stand there, or its body is no command, or the chain has too many commands. No DSS comes to want of memory.
abbrev pub of_chain : ChainFault → Reading
of_chain (chain.Syntax at error number) = Fault at error number
of_chain (chain.TooMany at number) = TooLong number
of_chain chain.NoMemory = TooLong 0

-- what DSSs go on with, if that is whole; then the chain that isn't, and the DSSs that are left
pub record Next : Type 0 where
  pub reading : Option Reading
  pub chain : OpenChain
  pub whole : List Placed

-- by what the first DSS comes to
abbrev pub next_by : Result (Option (List Command)) ChainFault → List Placed → Next → Next
next_by (Err fault) whole later = record { reading = Some (of_chain fault); chain = no_chain; whole = whole }
next_by (Ok (Some commands)) whole later = record { reading = Some (Chain commands); chain = no_chain; whole = whole }
next_by (Ok None) whole later = later

-- a fault behind the whole DSSs comes after all of theirs
unfoldable pub next_in : OpenChain → List Placed → Option StreamFault → Next
next_in chain [] fault = record { reading = option_map of_frame fault; chain = chain; whole = [] }
next_in chain (placed ∷ whole) fault = next_by (chain_step chain placed) whole (next_in (chain_after chain placed) whole fault)

abbrev pub next_of : Incoming → Next
next_of incoming = next_in incoming.chain incoming.frames.whole incoming.frames.fault

-- what is left behind it
abbrev pub without_next : Incoming → Incoming
without_next incoming = record {
  frames = record incoming.frames { whole = (next_of incoming).whole };
  chain = (next_of incoming).chain;
}
