-- How bytes are read as DSSs, in whatever pieces they come. What a reader is seen as, its limit and its places are this
-- project's own; what a DSS is stands in Segments.antt and Spelling.antt.
use Rattle.std.specs.Prelude.{ℕ, zero, suc, ◌≡◌, ◌+◌, ◌-◌, ◌^◌, List, [], ◌∷◌, ◌++◌, length, take, drop, min, is_some, nat_lt, if◌then◌else◌, Option}
use Rattle.std.specs.Prelude.{Some, None}
use Rattle.dss_frame.specs.declared.dss.Side.{Side}
use Rattle.dss_frame.specs.declared.dss.Dss.{Dss}
use Rattle.dss_frame.specs.declared.dss.Placed.{Placed}
use Rattle.dss_frame.specs.declared.fault.StreamFault.{StreamFault}
use Rattle.dss_frame.specs.declared.fault.StreamFault.TheVariants.{Frame, TooLong}
use Rattle.dss_frame.specs.declared.fault.FeedFault.{FeedFault}
use Rattle.dss_frame.specs.declared.fault.FeedFault.TheVariants.{NoMemory}
use Rattle.dss_frame.specs.Fault.{answer_of}
use Rattle.std.specs.Option.{option_map}
use Rattle.dss_frame.specs.declared.segments.Extent.{Extent}
use Rattle.dss_frame.specs.declared.segments.Extent.TheVariants.{Awaits, Ends, Fails}
use Rattle.dss_frame.specs.declared.step.Position.{Position}
use Rattle.dss_frame.specs.declared.step.Step.{Step}
use Rattle.dss_frame.specs.declared.step.Step.TheVariants.{Waits, Reads, Stops}
use Rattle.dss_frame.specs.Segments.{number_at, extent_of, dss_of}

-- a place so many bytes further on; places stand still at the greatest one
abbrev pub further_on : ℕ → ℕ → ℕ
further_on at bytes = min (at + bytes) (2 ^ 64 - 1)

-- The correlation number of a fault at an offset of a DSS: its own where the fault stands behind it, else that of the DSS
-- before it in the chain.
abbrev pub number_for : Position → List ℕ → ℕ → ℕ
number_for position bytes offset = if nat_lt offset 6 then position.before else number_at 4 bytes

abbrev pub too_long : Position → List ℕ → StreamFault
too_long position bytes = TooLong (further_on position.at position.room) (number_for position bytes position.room)

-- What comes next where a DSS begins with these bytes: more are awaited, or it is whole, or a fault ends the reading. The
-- first byte beyond the chain's limit is a fault, unless a field that is none of a DSS begins before it.
abbrev pub step_by : Position → List ℕ → Extent → Step
step_by position bytes Awaits = if nat_lt position.room (length bytes) then Stops (too_long position bytes) else Waits
step_by position bytes (Ends count) = if nat_lt position.room count then Stops (too_long position bytes) else Reads count
step_by position bytes (Fails offset why) =
    if nat_lt offset position.room
    then Stops (Frame (further_on position.at offset) why (number_for position bytes offset))
    else Stops (too_long position bytes)

abbrev pub step_of : Side → Position → List ℕ → Step
step_of side position bytes = step_by position bytes (extent_of side bytes)

-- What a reader has read.
pub record View : Type 0 where
  pub side : Side
  -- how many bytes a chain may have
  pub limit : ℕ
  -- the DSSs that were not taken yet, each with the place of its first byte; it ends where the next one begins
  pub whole : List Placed
  -- where the DSS begins that isn't whole yet
  pub position : Position
  -- its bytes so far; none after a fault
  pub «open» : List ℕ
  -- the fault that ended the reading
  pub fault : Option StreamFault

-- the place where a stream begins, and with it a chain
abbrev pub first_position : ℕ → Position
first_position limit = record { at = 0; room = limit; before = 0 }

abbrev pub start : Side → ℕ → View
start side limit =
    record { side = side; limit = limit; whole = []; position = first_position limit; «open» = []; fault = None }

-- where the DSS begins that follows one of so many bytes: in the same chain, or in the next one
abbrev pub position_after : ℕ → Position → Dss → ℕ → Position
position_after limit position d count =
    record {
      at = further_on position.at count;
      room = if d.chained then position.room - count else limit;
      before = if d.chained then d.corr else 0;
    }

-- the first so many bytes were read as this DSS
abbrev pub with_dss : View → Dss → ℕ → View
with_dss v d count =
    record v {
      whole = v.whole ++ record { at = v.position.at; dss = d } ∷ [];
      position = position_after v.limit v.position d count;
      «open» = drop count v.open;
    }

abbrev pub after_step : View → Step → (View → View) → View
after_step v Waits more = v
after_step v (Reads count) more = more (with_dss v (dss_of (take count v.open)) count)
after_step v (Stops fault) more = record v { «open» = []; fault = Some fault }

-- The DSSs that are whole are read, at most so many of them, up to the first fault.
unfoldable pub read_on : ℕ → View → View
read_on zero v = v
read_on (suc count) v = after_step v (step_of v.side v.position v.open) (read_on count)

-- more bytes of the DSS that isn't whole yet
abbrev pub with_bytes : View → List ℕ → View
with_bytes v bytes = record v { «open» = v.open ++ bytes }

-- a DSS has a byte at least, so there are no more of them than bytes
abbrev pub read_all : View → View
read_all v = read_on (length v.open) v

-- what is read with the bytes of a piece; nothing is, once there is a fault
unfoldable pub fed : View → List ℕ → View
fed v piece = if is_some v.fault then v else read_all (with_bytes v piece)

-- the same with other DSSs, read before, in front
abbrev pub behind : List Placed → View → View
behind front v = record v { whole = front ++ v.whole }

-- what a reader has after a call that failed: after want of memory what it had, after another fault what the piece
-- leaves
abbrev pub Stopped : FeedFault → View → View → List ℕ → Type 0
Stopped NoMemory old new piece = new ≡ old
Stopped fault old new piece = (new ≡ fed old piece) × (option_map answer_of new.fault ≡ Some fault)
