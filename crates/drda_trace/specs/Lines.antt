-- The lines of a trace: what both sides sent, chain by chain, and what is wrong with it. Traces are this project's own; the
-- chains, objects and triplets in them are those of DRDA.
use Rattle.std.specs.Prelude.{ℕ, ◌+◌, ◌-◌, ◌==◌, ◌&&◌, Bool, true, false, List, [], ◌∷◌, ◌++◌, length, map, nat_le, slice_get, if◌then◌else◌}
use Rattle.std.specs.Prelude.{Option, Some, None, Result, Ok, Err}
use Rattle.std.specs.List.{flat_map, list_any, list_all}
use Rattle.dss_frame.specs.declared.dss.Placed.{Placed}
use Rattle.dss_frame.specs.declared.dss.Side.{Side}
use Rattle.dss_frame.specs.declared.dss.Side.TheVariants.{Requests, Replies}
use Rattle.ddm_objects.specs.declared.fault.ObjFault.{ObjFault}
use Rattle.ddm_objects.specs.Objects.{Member, outer_of}
use Rattle.ddm_codepoints.specs.CodePoint.{qrydsc, fdodsc}
use Rattle.fdoca_pass.specs.declared.fault.TripletFault.{TripletFault}
use Rattle.fdoca_pass.specs.Triplets.{Described, Triplets, triplets_of}
use Rattle.unit_segments.specs.declared.command.Command.{Command}
use Rattle.unit_segments.specs.Told.{told}
use Rattle.drda_trace.specs.declared.ending.Ending.{Ending}
use Rattle.drda_trace.specs.declared.ending.Ending.TheVariants as ends
use Rattle.drda_trace.specs.declared.line.Line.{Line}
use Rattle.drda_trace.specs.declared.line.Line.TheVariants.{Chain, Request, Object, Reply, Triplet, TripletFault as BadTriplet}
use Rattle.drda_trace.specs.declared.line.Line.TheVariants.{Number, Unanswered, Extra, Fault, Rest}
use Rattle.drda_trace.specs.declared.requests.RequestStream.{RequestStream}
use Rattle.drda_trace.specs.declared.replies.ReplyStream.{ReplyStream}

-- ---- the triplets of a DSS

abbrev pub triplet_line : Described → Line
triplet_line triplet = Triplet (2 + length triplet.bytes) triplet.kind

abbrev pub triplet_fault_lines : Option TripletFault → List Line
triplet_fault_lines None = []
triplet_fault_lines (Some fault) = BadTriplet ∷ []

abbrev pub triplets_lines : Triplets → List Line
triplets_lines read = map triplet_line read.triplets ++ triplet_fault_lines read.fault

-- The bytes that are triplets in an object: the data of QRYDSC, and those of the first FDODSC among its members. DDM, volume 3,
-- QRYDSC, FDODSC.
abbrev pub description_in : Result Member ObjFault → Option (List ℕ)
description_in (Ok object) = if object.code == qrydsc then Some object.bytes else told fdodsc object.bytes
description_in (Err fault) = None

abbrev pub description_lines : Option (List ℕ) → List Line
description_lines None = []
description_lines (Some bytes) = triplets_lines (triplets_of bytes)

-- ---- a chain of commands, and the chain of its replies

abbrev pub code_in : Result Member ObjFault → Option ℕ
code_in (Ok object) = Some object.code
code_in (Err fault) = None

-- an object DSS of a command with this correlation number, and its triplets
abbrev pub object_lines : ℕ → List ℕ → List Line
object_lines corr body = Object corr (code_in (outer_of body)) (length body) ∷ description_lines (description_in (outer_of body))

abbrev pub command_lines : Command → List Line
command_lines command =
    Request command.corr command.code (length command.body) ∷ flat_map (object_lines command.corr) command.objects

-- a DSS of a server, and its triplets
abbrev pub reply_lines : Placed → List Line
reply_lines reply =
    Reply reply.dss.corr (code_in (outer_of reply.dss.body)) (length reply.dss.body)
    ∷ description_lines (description_in (outer_of reply.dss.body))

-- a command of the chain has this correlation number
abbrev pub has_number : List Command → ℕ → Bool
has_number commands corr = list_any (λ command. command.corr == corr) commands

-- each reply has the number of a command of the chain, and none below that of the reply before it
abbrev pub numbers_fit : List Command → ℕ → List Placed → Bool
numbers_fit commands before [] = true
numbers_fit commands before (reply ∷ replies) =
    has_number commands reply.dss.corr && (nat_le before reply.dss.corr && numbers_fit commands reply.dss.corr replies)

abbrev pub number_lines : ℕ → Bool → List Line
number_lines chain fit = if fit then [] else Number chain ∷ []

abbrev pub answer_lines : ℕ → List Command → Option (List Placed) → List Line
answer_lines chain commands None = Unanswered chain ∷ []
answer_lines chain commands (Some replies) = flat_map reply_lines replies ++ number_lines chain (numbers_fit commands 0 replies)

-- the lines of the chain of this number, from 1
unfoldable pub chain_lines : ℕ → List Command → Option (List Placed) → List Line
chain_lines chain commands replies = Chain chain ∷ (flat_map command_lines commands ++ answer_lines chain commands replies)

-- the chains from this number on, each beside the chain of replies of its number
unfoldable pub chains_lines : ℕ → List (List Command) → List (List Placed) → List Line
chains_lines number [] replies = []
chains_lines number (commands ∷ chains) replies =
    chain_lines number commands (slice_get replies (number - 1)) ++ chains_lines (number + 1) chains replies

-- ---- what is left over

abbrev pub extra_lines : ℕ → List Line
extra_lines count = if count == 0 then [] else Extra count ∷ []

abbrev pub fault_lines : Side → Ending → List Line
fault_lines side (ends.Fault at err) = Fault side at err ∷ []
fault_lines side (ends.Rest count) = []

abbrev pub rest_lines : Side → Ending → List Line
rest_lines side (ends.Fault at err) = []
rest_lines side (ends.Rest count) = if count == 0 then [] else Rest side count ∷ []

abbrev pub ending_lines : Ending → Ending → List Line
ending_lines requester server =
    fault_lines Requests requester ++ (fault_lines Replies server ++ (rest_lines Requests requester ++ rest_lines Replies server))

-- all lines
unfoldable pub lines_of : RequestStream → ReplyStream → List Line
lines_of requests replies =
    chains_lines 1 requests.chains replies.chains
    ++ (extra_lines (length replies.chains - length requests.chains) ++ ending_lines requests.ending replies.ending)

-- ---- what they come to

-- the line says that nothing is wrong
abbrev pub is_sound : Line → Bool
is_sound (Chain chain) = true
is_sound (Request corr code len) = true
is_sound (Object corr code len) = true
is_sound (Reply corr code len) = true
is_sound (Triplet len kind) = true
is_sound _ = false

-- each chain is answered, by replies with its numbers, and nothing is left over, or wrong
abbrev pub are_whole : List Line → Bool
are_whole lines = list_all is_sound lines
