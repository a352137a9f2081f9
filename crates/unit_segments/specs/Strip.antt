-- What a member's replies to a segment say, and what of them an application gets. DRDA, volume 3, ENDUOWRM, ACCRDBRM, SRVLST,
-- RLSCONV, SQLCARD, SQLSTT. A member's replies have the numbers of the segment's commands, counted from 1.
use Rattle.std.specs.Prelude.{ℕ, ◌+◌, ◌-◌, ◌≤◌, length, ◌==◌, Bool, true, false, not, ◌&&◌, ◌||◌, if◌then◌else◌, List, [], ◌∷◌, map}
use Rattle.std.specs.Prelude.{filter, find, nat_le, slice_get, Option, Some, None, is_some, is_none, option_map, bytes_eq}
use Rattle.std.specs.List.{list_any}
use Rattle.byteorder.specs.Endian.{big_number}
use Rattle.dss_frame.specs.declared.dss.Kind.{Kind}
use Rattle.dss_frame.specs.declared.dss.Kind.TheVariants.{Reply}
use Rattle.dss_frame.specs.declared.dss.Dss.{Dss}
use Rattle.ddm_objects.specs.Objects.{Member, canonical_object}
use Rattle.ddm_objects.specs.Members.{members_of}
use Rattle.ddm_codepoints.specs.CodeClass.{class_of}
use Rattle.ddm_codepoints.specs.CodePoint.{enduowrm, accrdbrm, srvlst, rlsconv, sqlcard, sqlstt, svrcod, uowdsp}
use Rattle.ddm_codepoints.specs.Value.{error, committed, release}
use Rattle.unit_segments.specs.declared.command.Command.{Command}
use Rattle.unit_segments.specs.declared.stripped.Stripped.{Stripped}
use Rattle.unit_segments.specs.Command.{ends_unit, code_of, data_of, parameter, has_two_bytes}
use Rattle.unit_segments.specs.Limit.{most_reply_body}
use Rattle.unit_segments.specs.Release.{kept_members}

-- ---- one reply

-- its body is an object with this code point
abbrev pub is_object_of : ℕ → Dss → Bool
is_object_of code d = code_of d.body == code

abbrev pub are_members : List ℕ → Bool
are_members bytes = is_none (members_of bytes).fault

-- it is such an object, and its data are parameters
abbrev pub has_params : ℕ → Dss → Bool
has_params code d = is_object_of code d && are_members (data_of d.body)

-- the parameter is there and is exactly this byte
abbrev pub is_byte : ℕ → Option Member → Bool
is_byte value None = false
is_byte value (Some object) = bytes_eq object.bytes (value ∷ [])

abbrev pub is_error_code : Option Member → Bool
is_error_code None = false
is_error_code (Some object) = has_two_bytes (Some object) && nat_le error (big_number 2 object.bytes)

abbrev pub is_reply : Kind → Bool
is_reply Reply = true
is_reply _ = false

-- a reply message that tells an error, or worse: DDM, volume 3, SVRCOD
abbrev pub tells_error : Dss → Bool
tells_error d =
    is_reply d.kind && are_members (data_of d.body) && is_error_code (parameter (data_of d.body) svrcod)

-- ---- the replies to the command that ends the unit

abbrev pub end_number_from : ℕ → List Command → ℕ
end_number_from number [] = 0
end_number_from number (command ∷ commands) =
    if ends_unit (class_of command.code) then number else end_number_from (number + 1) commands

-- the number of the command that ends the unit of work, counted from 1; 0 where the segment has none
abbrev pub end_number : List Command → ℕ
end_number segment = end_number_from 1 segment

abbrev pub replies_to : ℕ → List Dss → List Dss
replies_to number replies = filter (λ d. d.corr == number) replies

-- the first message that says how the unit of work ended: DDM, volume 3, ENDUOWRM
abbrev pub end_message : List Command → List Dss → Option Dss
end_message segment replies = find (is_object_of enduowrm) (replies_to (end_number segment) replies)

-- the unit of work has ended
abbrev pub has_ended : List Command → List Dss → Bool
has_ended segment replies = is_some (end_message segment replies)

abbrev pub end_says : ℕ → ℕ → Option Dss → Bool
end_says code value None = false
end_says code value (Some d) = has_params enduowrm d && is_byte value (parameter (data_of d.body) code)

-- the conversation was released: DRDA, volume 3, RLSCONV
abbrev pub is_granted : List Command → List Dss → Bool
is_granted segment replies = end_says rlsconv release (end_message segment replies)

-- the unit of work was committed: DDM, volume 3, UOWDSP
abbrev pub is_committed : List Command → List Dss → Bool
is_committed segment replies = end_says uowdsp committed (end_message segment replies)

-- a reply, and whether it is a SET statement that was asked for
pub record Marked : Type 0 where
  pub reply : Dss
  pub is_set : Bool

-- it is a reply to the command with this number, and its body such an object
abbrev pub answers : ℕ → ℕ → Dss → Bool
answers number code d = d.corr == number && is_object_of code d

-- A SET statement that was asked for is a SQLSTT behind the first SQLCARD of the replies to the command with this number.
abbrev pub marked_from : ℕ → Bool → List Dss → List Marked
marked_from number after_card [] = []
marked_from number after_card (d ∷ replies) =
    record { reply = d; is_set = after_card && answers number sqlstt d }
    ∷ marked_from number (after_card || answers number sqlcard d) replies

abbrev pub marked : List Command → List Dss → List Marked
marked segment replies = marked_from (end_number segment) false replies

-- the data of the SET statements that were asked for
abbrev pub sets_of : List Command → List Dss → List (List ℕ)
sets_of segment replies = map (λ m. data_of m.reply.body) (filter (λ m. m.is_set) (marked segment replies))

-- ---- what is taken out

-- where it is told which members there are: DRDA, volume 3, SRVLST
abbrev pub tells_list : Dss → Bool
tells_list d = has_params enduowrm d || has_params accrdbrm d

abbrev pub list_of : Dss → Option (List ℕ)
list_of d = if tells_list d then option_map (λ object. object.bytes) (parameter (data_of d.body) srvlst) else None

abbrev pub or_else : Option (List ℕ) → Option (List ℕ) → Option (List ℕ)
or_else None other = other
or_else (Some bytes) other = Some bytes

-- the data of the first list of members
abbrev pub first_list : List Dss → Option (List ℕ)
first_list [] = None
first_list (d ∷ replies) = or_else (list_of d) (first_list replies)

abbrev pub is_list : ℕ → Bool
is_list code = code == srvlst

abbrev pub is_list_or_release : ℕ → Bool
is_list_or_release code = code == rlsconv || code == srvlst

-- A message whose parameters some are taken out of is written anew, also where there are none of these.
abbrev pub without_lists : Dss → Dss
without_lists d =
    if has_params enduowrm d
    then record d { body = canonical_object enduowrm (kept_members is_list_or_release (data_of d.body)) }
    else (if has_params accrdbrm d
    then record d { body = canonical_object accrdbrm (kept_members is_list (data_of d.body)) }
    else d)

-- ---- the replies that an application gets

abbrev pub number_or : ℕ → Option Command → ℕ
number_or number None = number
number_or number (Some command) = command.corr

-- the correlation number that the application gave the command with this number
abbrev pub given_number : List Command → ℕ → ℕ
given_number segment number = number_or number (slice_get segment (number - 1))

abbrev pub given_back : List Command → Dss → Dss
given_back segment d = record (without_lists d) { corr = given_number segment d.corr }

-- without the SET statements, with the application's own numbers
abbrev pub replies_of : List Command → List Dss → List Dss
replies_of segment replies =
    map (λ m. given_back segment m.reply) (filter (λ m. not m.is_set) (marked segment replies))

abbrev pub stops_at : Option Command → Bool
stops_at None = true
stops_at (Some command) = not command.go_on

-- an error is told of a command after which the chain doesn't go on then: DRDA, volume 3, DSS
abbrev pub stops : List Command → List Dss → Bool
stops segment replies = list_any (λ d. tells_error d && stops_at (slice_get segment (d.corr - 1))) replies

-- its body is no longer than a reply's may be: the greatest size of a chain of replies, without a header
abbrev pub FitsAReply : Dss → Type 0
FitsAReply d = length d.body ≤ most_reply_body

unfoldable pub stripped : List Command → List Dss → Stripped
stripped segment replies = record {
  replies = replies_of segment replies;
  ended = has_ended segment replies;
  committed = is_committed segment replies;
  granted = is_granted segment replies;
  sets = sets_of segment replies;
  list = first_list replies;
  stop = stops segment replies;
}
