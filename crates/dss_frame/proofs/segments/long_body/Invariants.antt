use Rattle.std.proofs.Common.{ℕ, length}
use Rattle.dss_frame.specs.Segments.{body_of}
use Rattle.dss_frame.proofs.Loops.Walk.{Holds}
use Rattle.dss_frame.proofs.segments.long_body.Given as goal

abbrev pub invariant-loop-room : goal.invariant-loop-room
invariant-loop-room l = (offset : ℕ) × Holds offset (length l.bytes) l.header l.rest l.room.items (body_of (length l.bytes) 6 l.bytes)

abbrev pub decreases-loop-room : goal.decreases-loop-room
decreases-loop-room l = length l.rest
