-- How the bytes of one side of a conversation end: with their first fault, or with bytes that are no whole chain. DRDA, volume
-- 3, DSS: chaining; DDM, volume 3, SYNERRCD.
use Rattle.std.specs.Prelude.{ℕ, ◌-◌, List, [], ◌∷◌, if◌then◌else◌, Option, Some, None, unwrap_or}
use Rattle.dss_frame.specs.declared.dss.Placed.{Placed}
use Rattle.dss_frame.specs.declared.fault.StreamFault.{StreamFault}
use Rattle.dss_frame.specs.declared.fault.StreamFault.TheVariants.{Frame, TooLong}
use Rattle.dss_frame.specs.Reading.{View}
use Rattle.dss_frame.specs.Held.{held_of}
use Rattle.reply_texts.specs.Closing.{syntax_error}
use Rattle.drda_trace.specs.declared.ending.Ending.{Ending}
use Rattle.drda_trace.specs.declared.ending.Ending.TheVariants.{Fault, Rest}

-- what a chain is told by that passes a limit: this project's choice
abbrev pub limit_error : ℕ
limit_error = 0x04

-- where the chain begins that goes on behind a DSS, if it does. DSS: chaining
abbrev pub begun_with : Option ℕ → Placed → Option ℕ
begun_with begun placed = if placed.dss.chained then Some (unwrap_or begun placed.at) else None

-- Where the chain begins that isn't whole behind these DSSs, if there is one: the first DSS that isn't chained ends a chain.
-- DSS: chaining.
abbrev pub begun_after : Option ℕ → List Placed → Option ℕ
begun_after begun [] = begun
begun_after begun (placed ∷ others) = begun_after (begun_with begun placed) others

-- How many of so many bytes are no whole chain: those from where a chain has begun, or else those that a reader holds from
-- which all whole DSSs were taken.
abbrev pub rest_from : ℕ → View → Option ℕ → ℕ
rest_from bytes v None = held_of v
rest_from bytes v (Some place) = bytes - place

-- how bytes end in whose DSSs there is no fault: with a fault of the frames, or with so many bytes of rest
abbrev pub stream_ending : Option StreamFault → ℕ → Ending
stream_ending (Some (Frame at why corr)) rest = Fault at (syntax_error why)
stream_ending (Some (TooLong at corr)) rest = Fault at limit_error
stream_ending None rest = Rest rest

-- all whole DSSs were taken
abbrev pub taken_all : View → View
taken_all v = record v { whole = [] }

-- how so many bytes end, which were read so, where no DSS has a fault
abbrev pub ending_of : ℕ → View → Ending
ending_of bytes v = stream_ending v.fault (rest_from bytes (taken_all v) (begun_after None v.whole))
