-- What the bytes of a server are read as: chains of replies. DRDA, volume 3, DSS: chaining, RPYDSS, OBJDSS.
use Rattle.std.specs.Prelude.{ℕ, ◌+◌, Bool, List, [], ◌∷◌, ◌++◌, length, if◌then◌else◌, Result, Ok, Err, is_ok}
use Rattle.std.specs.List.{take_while}
use Rattle.dss_frame.specs.declared.dss.Placed.{Placed}
use Rattle.dss_frame.specs.declared.dss.Side.TheVariants.{Replies}
use Rattle.dss_frame.specs.Reading.{View, further_on}
use Rattle.dss_frame.specs.Told.{read}
use Rattle.ddm_objects.specs.declared.fault.ObjFault.{ObjFault}
use Rattle.ddm_objects.specs.Objects.{Member, outer_of}
use Rattle.unit_segments.specs.Command.{object_error}
use Rattle.drda_trace.specs.declared.ending.Ending.{Ending}
use Rattle.drda_trace.specs.declared.ending.Ending.TheVariants.{Fault}
use Rattle.drda_trace.specs.declared.replies.ReplyStream.{ReplyStream}
use Rattle.drda_trace.specs.Ending.{ending_of}

-- how many bytes a chain of replies may have: this project's choice
abbrev pub most_reply_bytes : ℕ
most_reply_bytes = 33554432

-- the body of the DSS is exactly one object: RPYDSS, OBJDSS
abbrev pub has_object : Placed → Bool
has_object placed = is_ok (outer_of placed.dss.body)

-- The whole chains of these DSSs, the first of which has begun with others: the first DSS that isn't chained ends a chain.
-- DSS: chaining.
abbrev pub chains_after : List Placed → List Placed → List (List Placed)
chains_after begun [] = []
chains_after begun (placed ∷ others) =
    if placed.dss.chained then chains_after (begun ++ placed ∷ []) others
    else (begun ++ placed ∷ []) ∷ chains_after [] others

-- the fault of a DSS whose body isn't exactly one object, behind the six bytes of its header; or else how the others end
abbrev pub object_ending : Placed → Result Member ObjFault → Ending → Ending
object_ending placed (Ok object) others = others
object_ending placed (Err fault) others = Fault (further_on placed.at (6 + fault.at)) (object_error fault.why)

-- how bytes end that have these DSSs: with the first fault of a body, or else as they do without one
abbrev pub bodies_ending : List Placed → Ending → Ending
bodies_ending [] others = others
bodies_ending (placed ∷ next) others = object_ending placed (outer_of placed.dss.body) (bodies_ending next others)

-- the chains of the DSSs that were read of so many bytes, up to their first fault
abbrev pub replies_in : ℕ → View → ReplyStream
replies_in bytes v = record {
  chains = chains_after [] (take_while has_object v.whole);
  ending = bodies_ending v.whole (ending_of bytes v);
}

unfoldable pub replies_of : List ℕ → ReplyStream
replies_of bytes = replies_in (length bytes) (read Replies most_reply_bytes bytes)
