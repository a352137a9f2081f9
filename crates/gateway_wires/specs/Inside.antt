-- How transports are kept in code. No standard speaks of it: this is this project's own.
use Rattle.std.specs.Prelude.{◌≡◌, ℕ, ◌<◌, ◌≤◌, Bool, true, false, ◌||◌, ◌&&◌, ◌==◌, nat_lt, List, ◌++◌, map, drop, length, replicate, slice_get}
use Rattle.std.specs.Prelude.{Option, Some, None, option_map, slice_index_or, if◌then◌else◌}
use Rattle.std.specs.List.{AllByRecursion}
use Rattle.std.specs.Ordering.{nat_cmp}
use Rattle.std.specs.BTreeSet.{BTreeSet, contains}
use Rattle.member_core.specs.Conversation.{ConversationState}
use Rattle.gateway_wires.specs.Line.{LineState, with_conversation, is_flying_on}
use Rattle.gateway_wires.specs.Wires.{WiresState}
use Rattle.gateway_wires.specs.declared.wire.Wire.{Wire}

-- ---- one transport

-- a transport, and how many had been dialled before it
pub record Dialled (U : Type 0) : Type 0 where
  pub line : LineState U
  pub since : ℕ

-- a transport of which so many bytes were acted on, and so many read
abbrev pub line_in : {U : Type 0} → Wire → ConversationState U → ℕ → ℕ → Bool → LineState U
line_in wire conversation acted read dropped = record {
  member = wire.member;
  dropped = dropped;
  conversation = conversation;
  to = wire.to;
  from = wire.from;
  flying = drop acted wire.to;
  coming = drop read wire.from;
}

pub record IsLine (wire : Wire) (acted read : ℕ) : Type 0 where
  pub acted_on : acted ≤ length wire.to
  pub was_read : read ≤ length wire.from

-- this was done with it
abbrev pub on_dialled : {U : Type 0} → (LineState U → LineState U) → Dialled U → Dialled U
on_dialled change x = record x { line = change x.line }

-- what stands at the place of a number
abbrev pub line_at : {U : Type 0} → Option (Dialled U) → Option (LineState U)
line_at slot = option_map (λ x. x.line) slot

-- its conversation alone may be another one
abbrev pub KeepsBytes : {U : Type 0} → Option (Dialled U) → Option (Dialled U) → Type 0
KeepsBytes None new = new ≡ None
KeepsBytes (Some x) None = ⊥
KeepsBytes (Some x) (Some y) = y ≡ on_dialled (with_conversation y.line.conversation) x

-- ---- all transports

-- how many had been dialled when this member went down last
abbrev pub fell_of : List ℕ → ℕ → ℕ
fell_of fell member = slice_index_or fell member 0

-- A transport is dropped by itself, or with its member.
abbrev pub has_dropped : List ℕ → {U : Type 0} → Dialled U → Bool
has_dropped fell x = x.line.dropped || nat_lt x.since (fell_of fell x.line.member)

abbrev pub seen_line : List ℕ → {U : Type 0} → Dialled U → LineState U
seen_line fell x = record x.line { dropped = has_dropped fell x }

abbrev pub wires_in : {U : Type 0} → List (Option (Dialled U)) → List ℕ → List Bool → WiresState U
wires_in lines fell down = record { lines = map (option_map (seen_line fell)) lines; down = down }

-- of a transport that was dialled
abbrev pub OfDialled : {U : Type 0} → (Dialled U → Type 0) → Option (Dialled U) → Type 0
OfDialled Holds None = Unit {0}
OfDialled Holds (Some x) = Holds x

pub record WasDialled {U : Type 0} (count : ℕ) (x : Dialled U) : Type 0 where
  pub before : x.since < count
  pub member : x.line.member < 33

-- this member will act on bytes that are on their way on it
abbrev pub flies_to : ℕ → {U : Type 0} → Option (LineState U) → Bool
flies_to member None = false
flies_to member (Some x) = is_flying_on x && x.member == member

abbrev pub is_in_set : Option (BTreeSet ℕ) → ℕ → Bool
is_in_set None number = false
is_in_set (Some numbers) number = contains nat_cmp numbers number

-- the number is among those of this member
abbrev pub is_in : List (BTreeSet ℕ) → ℕ → ℕ → Bool
is_in flying member number = is_in_set (slice_get flying member) number

pub record AreWires {U : Type 0} (lines : List (Option (Dialled U))) (fell : List ℕ) (flying : List (BTreeSet ℕ)) (count : ℕ) : Type 0 where
  pub all_members : length flying ≡ 33
  pub dialled : AllByRecursion (OfDialled (WasDialled count)) lines
  pub fell_before : (member : ℕ) → fell_of fell member ≤ count
  pub flies : (member number : ℕ) → member < 33
      → is_in flying member number ≡ flies_to member (option_map (seen_line fell) (slice_index_or lines number None))

-- room was made for more transports
abbrev pub HasGrown : {A : Type 0} → List (Option A) → List (Option A) → Type 0
HasGrown old new = (room : ℕ) × (new ≡ old ++ replicate room None)

-- the member's number is below this one
abbrev pub IsIn : ℕ → {U : Type 0} → Dialled U → Type 0
IsIn count x = x.line.member < count

-- ---- the numbers of those with bytes on their way

-- there are none
abbrev pub AreNone : List (BTreeSet ℕ) → Type 0
AreNone flying = (member number : ℕ) → is_in flying member number ≡ false

-- the same numbers
pub record AreSame (old new : List (BTreeSet ℕ)) : Type 0 where
  pub size : length new ≡ length old
  pub numbers : (member number : ℕ) → is_in new member number ≡ is_in old member number

-- this number of this member is among them or isn't, and all others are as they were
pub record Sorts (member number : ℕ) (flies : Bool) (old new : List (BTreeSet ℕ)) : Type 0 where
  pub size : length new ≡ length old
  pub this : is_in new member number ≡ flies
  pub others : (another other : ℕ) → (another == member && other == number) ≡ false → is_in new another other ≡ is_in old another other

-- a transport that has no bytes on its way leaves them
abbrev pub SortsOut : Bool → ℕ → ℕ → List (BTreeSet ℕ) → List (BTreeSet ℕ) → Type 0
SortsOut true member number old new = Sorts member number false old new
SortsOut false member number old new = new ≡ old

-- a transport has bytes on its way now, or nothing changes
abbrev pub EntersIf : Bool → ℕ → ℕ → List (BTreeSet ℕ) → List (BTreeSet ℕ) → Type 0
EntersIf true member number old new = Sorts member number true old new
EntersIf false member number old new = new ≡ old

-- the number of a transport that there was leaves them
abbrev pub SortsOld : {U : Type 0} → ℕ → Option (Dialled U) → List (BTreeSet ℕ) → List (BTreeSet ℕ) → Type 0
SortsOld number None old new = new ≡ old
SortsOld number (Some x) old new = Sorts x.line.member number false old new

abbrev pub LeavesAtRest : {U : Type 0} → ℕ → Option (Dialled U) → List (BTreeSet ℕ) → List (BTreeSet ℕ) → Type 0
LeavesAtRest number None old new = new ≡ old
LeavesAtRest number (Some x) old new = SortsOut (length x.line.flying == 0) x.line.member number old new

abbrev pub lower : Option ℕ → Option ℕ → Option ℕ
lower None other = other
lower (Some one) None = Some one
lower (Some one) (Some other) = if nat_lt other one then Some other else Some one

-- the lowest number of all members
abbrev pub IsLowest : List (BTreeSet ℕ) → Option ℕ → Type 0
IsLowest flying None = AreNone flying
IsLowest flying (Some lowest) =
    ((member : ℕ) × (is_in flying member lowest ≡ true))
    × ((member number : ℕ) → number < lowest → is_in flying member number ≡ false)
