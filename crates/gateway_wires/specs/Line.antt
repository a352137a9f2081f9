-- A transport between the gateway and one of its members, with the member's end of it: DRDA, volume 1, units of work. What is on
-- its way, and that a member may drop a transport, is this project's own.
use Rattle.std.specs.Prelude.{ℕ, ◌==◌, Bool, true, false, not, ◌&&◌, if◌then◌else◌, List, [], ◌∷◌, ◌++◌, take, drop, length, Option, Some, None}
use Rattle.server_list.specs.Lists.{Listing}
use Rattle.plain_model.specs.Group.{Meaning}
use Rattle.member_core.specs.Conversation.{ConversationState, Member, fresh, taken}
use Rattle.gateway_wires.specs.declared.wire.Wire.{Wire}

pub record LineState (U : Type 0) : Type 0 where
  pub member : ℕ
  -- the member dropped it
  pub dropped : Bool
  -- the member's end
  pub conversation : ConversationState U
  -- all bytes that were sent to the member, and all that it answered
  pub to : List ℕ
  pub from : List ℕ
  -- the bytes that it hasn't acted on, and those of its answers that weren't read
  pub flying : List ℕ
  pub coming : List ℕ

-- a transport that was just dialled; the member tells this list of members where it gives access
abbrev pub dialled : {S U : Type 0} → Meaning S U → ℕ → Listing → LineState U
dialled m member list = record { member = member; dropped = false; conversation = fresh m list; to = []; from = []; flying = []; coming = [] }

-- these bytes were sent
abbrev pub with_sent : {U : Type 0} → List ℕ → LineState U → LineState U
with_sent piece x = record x { to = x.to ++ piece; flying = x.flying ++ piece }

-- what the member makes of the next so many bytes, and of the data
abbrev pub acting : {S U : Type 0} → Meaning S U → ℕ → LineState U → S → Member S U
acting m count x shared = taken m (take count x.flying) (record { conversation = x.conversation; shared = shared })

-- what was answered since the conversation was another one
abbrev pub answered_since : {U : Type 0} → ConversationState U → ConversationState U → List ℕ
answered_since before after = drop (length before.answered) after.answered

-- bytes were acted on, and the conversation is this one then
abbrev pub acted_by : {U : Type 0} → ℕ → ConversationState U → LineState U → LineState U
acted_by count after x = record x {
  conversation = after;
  flying = drop count x.flying;
  from = x.from ++ answered_since x.conversation after;
  coming = x.coming ++ answered_since x.conversation after;
}

-- its conversation is this one
abbrev pub with_conversation : {U : Type 0} → ConversationState U → LineState U → LineState U
with_conversation conversation x = record x { conversation = conversation }

-- the member acts on the next so many bytes
abbrev pub with_acted : {S U : Type 0} → Meaning S U → ℕ → S → LineState U → LineState U
with_acted m count shared x = acted_by count (acting m count x shared).conversation x

-- the code points of the commands that it runs then
abbrev pub codes_run : {S U : Type 0} → Meaning S U → ℕ → LineState U → S → List ℕ
codes_run m count x shared = drop (length x.conversation.ran) (acting m count x shared).conversation.ran

-- the next so many bytes of its answers were read
abbrev pub with_read : {U : Type 0} → ℕ → LineState U → LineState U
with_read count x = record x { coming = drop count x.coming }

-- The member drops it, and its unit of work is gone: bytes on their way are never acted on, and what it answered can still be read.
abbrev pub with_dropped : {U : Type 0} → LineState U → LineState U
with_dropped x = record x { dropped = true }

-- the member went down
abbrev pub fallen_with : {U : Type 0} → ℕ → LineState U → LineState U
fallen_with member x = record x { dropped = if x.member == member then true else x.dropped }

-- ---- what is seen of a transport that may not be dialled

abbrev pub is_empty : List ℕ → Bool
is_empty [] = true
is_empty (byte ∷ bytes) = false

-- bytes are on their way, and the member will act on them
abbrev pub is_flying_on : {U : Type 0} → LineState U → Bool
is_flying_on x = not x.dropped && not (is_empty x.flying)

abbrev pub is_flying : {U : Type 0} → Option (LineState U) → Bool
is_flying None = false
is_flying (Some x) = is_flying_on x

abbrev pub is_dropped : {U : Type 0} → Option (LineState U) → Bool
is_dropped None = false
is_dropped (Some x) = x.dropped

-- it was dialled, and its member hasn't dropped it
abbrev pub stands : {U : Type 0} → Option (LineState U) → Bool
stands None = false
stands (Some x) = not x.dropped

abbrev pub flying_of : {U : Type 0} → Option (LineState U) → List ℕ
flying_of None = []
flying_of (Some x) = x.flying

abbrev pub coming_of : {U : Type 0} → Option (LineState U) → List ℕ
coming_of None = []
coming_of (Some x) = x.coming

abbrev pub ran_of : {U : Type 0} → Option (LineState U) → List ℕ
ran_of None = []
ran_of (Some x) = x.conversation.ran

-- all bytes of a transport: those that were sent, and all that its member answered
abbrev pub wire : {U : Type 0} → LineState U → Wire
wire x = record { member = x.member; to = x.to; from = x.from }
