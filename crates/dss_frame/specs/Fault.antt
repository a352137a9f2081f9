-- What a fault that ended the reading is answered as, and where it stands. No standard speaks of it: this is this
-- project's own.
use Rattle.std.specs.Prelude.{ℕ}
use Rattle.dss_frame.specs.declared.fault.Why.{Why}
use Rattle.dss_frame.specs.declared.fault.Why.TheVariants.{Short, NoD0, Format, Continue}
use Rattle.dss_frame.specs.declared.fault.StreamFault.{StreamFault}
use Rattle.dss_frame.specs.declared.fault.StreamFault.TheVariants as stream
use Rattle.dss_frame.specs.declared.fault.FeedFault.{FeedFault}
use Rattle.dss_frame.specs.declared.fault.FeedFault.TheVariants.{Frame, TooLong, NoMemory}

abbrev pub answer_of : StreamFault → FeedFault
answer_of (stream.Frame at why corr) = Frame at why corr
answer_of (stream.TooLong at corr) = TooLong at corr

-- what want of memory is answered as
abbrev pub want_of_memory : FeedFault
want_of_memory = NoMemory

abbrev pub place_of : StreamFault → ℕ
place_of (stream.Frame at why corr) = at
place_of (stream.TooLong at corr) = at

-- how many bytes of the field show that it is none of a DSS: a length has two bytes, the others one
abbrev pub field_size : Why → ℕ
field_size Short = 2
field_size NoD0 = 1
field_size Format = 1
field_size Continue = 2

-- how many bytes from its place on show the fault: those of the field, or the first byte beyond the limit
abbrev pub shown_by : StreamFault → ℕ
shown_by (stream.Frame at why corr) = field_size why
shown_by (stream.TooLong at corr) = 1
