-- What the bytes of a requester are read as: chains of commands. DRDA, volume 3, DSS: chaining.
use Rattle.std.specs.Prelude.{ℕ, List, length, Option, Some, None}
use Rattle.dss_frame.specs.declared.dss.Side.TheVariants.{Requests}
use Rattle.dss_frame.specs.Reading.{View}
use Rattle.dss_frame.specs.Told.{read}
use Rattle.unit_segments.specs.declared.fault.ChainFault.{ChainFault}
use Rattle.unit_segments.specs.declared.fault.ChainFault.TheVariants.{Syntax, TooMany, NoMemory}
use Rattle.unit_segments.specs.Limit.{most_chain_bytes}
use Rattle.unit_segments.specs.Chain.{chains_of}
use Rattle.drda_trace.specs.declared.ending.Ending.{Ending}
use Rattle.drda_trace.specs.declared.ending.Ending.TheVariants.{Fault}
use Rattle.drda_trace.specs.declared.requests.RequestStream.{RequestStream}
use Rattle.drda_trace.specs.Ending.{limit_error, ending_of}

-- how the bytes end: with the first fault of a chain, or else as they do without one
abbrev pub chain_ending : Option ChainFault → Ending → Ending
chain_ending (Some (Syntax at err corr)) others = Fault at err
chain_ending (Some (TooMany at corr)) others = Fault at limit_error
chain_ending _ others = others

-- the chains of the DSSs that were read of so many bytes, up to their first fault
abbrev pub requests_in : ℕ → View → RequestStream
requests_in bytes v = record {
  chains = (chains_of v.whole).chains;
  ending = chain_ending (chains_of v.whole).fault (ending_of bytes v);
}

unfoldable pub requests_of : List ℕ → RequestStream
requests_of bytes = requests_in (length bytes) (read Requests most_chain_bytes bytes)
