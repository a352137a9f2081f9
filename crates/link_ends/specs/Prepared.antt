-- Links, dials and doors in memory as contracts see them. No standard speaks of them.
use Rattle.std.specs.Prelude.{ℕ, List, [], Option, Some, None, Bool, ◌||◌, ◌&&◌, if◌then◌else◌, length, min, nat_eq, nat_lt, ◌-◌, ◌==◌, position, option_map, slice_get}
use Rattle.std.specs.List.{fold, remove}
use Rattle.link_ends.specs.Counts.{one_more, counted}
use Rattle.link_ends.specs.Memory.{is_marked}
use Rattle.link_ends.specs.Link.{LinkState}
use Rattle.link_ends.specs.Doors.{DialState, DoorState}

-- A link: the bytes read and those left, the places at which a read ends, the bytes taken, how many more fit, the numbers of
-- the calls that are to fail, how many calls there were, and its counts.
pub record Wire : Type 0 where
  pub heard : List ℕ
  pub left : List ℕ
  pub cuts : List ℕ
  pub taken : List ℕ
  pub room : ℕ
  pub marks : List ℕ
  pub calls : ℕ
  pub faults : ℕ
  pub ends : ℕ

-- It tells all its bytes. It fails where nothing fits, so no write of it takes nothing.
abbrev pub wire_state : Wire → LinkState
wire_state w =
    record { left = Some w.left; heard = Some w.heard; taken = Some w.taken; faults = w.faults; ends = w.ends; stuck = 0 }

-- how many of so many bytes stand, from this place on, before the next of these cuts that is behind the place
abbrev pub up_to_cut : ℕ → List ℕ → ℕ → ℕ
up_to_cut place cuts count = fold (λ most cut. if nat_lt place cut then min most (cut - place) else most) count cuts

-- how many bytes a read into a buffer with so much room gives
abbrev pub gives : Wire → ℕ → ℕ
gives w room = up_to_cut (length w.heard) w.cuts (min room (length w.left))

-- the call that comes now fails: it is marked, or refused
abbrev pub fails_now : Wire → Bool → Bool
fails_now w refused = is_marked w.marks w.calls || refused

-- that call is counted, and its failure
abbrev pub after_count : Wire → Bool → Wire
after_count w refused = record w { calls = one_more w.calls; faults = counted (fails_now w refused) w.faults }

-- a write can't be taken: its call is marked, or the piece has bytes and no more fit
abbrev pub refuses : Wire → List ℕ → Bool
refuses w piece = fails_now w (nat_eq w.room 0 && nat_lt 0 (length piece))

-- a link that gives these bytes, and that nobody used yet
abbrev pub new_wire : List ℕ → List ℕ → ℕ → List ℕ → Wire
new_wire bytes cuts room marks =
    record { heard = []; left = bytes; cuts = cuts; taken = []; room = room; marks = marks; calls = 0; faults = 0; ends = 0 }

-- A dial: the links that are prepared, each with its member, in the order in which they were added, and its counts.
pub record Switch : Type 0 where
  pub prepared : List (ℕ × Wire)
  pub calls : ℕ
  pub faults : ℕ

abbrev pub switch_state : Switch → DialState
switch_state s = record { calls = s.calls; faults = s.faults }

-- the place of the first link that is prepared for this member
abbrev pub place_for : {L : Type 0} → ℕ → List (ℕ × L) → Option ℕ
place_for member prepared = position (λ one. one.0 == member) prepared

-- the link at this place, and what is prepared without it
abbrev pub link_at : {L : Type 0} → Option ℕ → List (ℕ × L) → Option L
link_at None prepared = None
link_at (Some place) prepared = option_map (λ one. one.1) (slice_get prepared place)

abbrev pub without : {L : Type 0} → Option ℕ → List L → List L
without None prepared = prepared
without (Some place) prepared = remove prepared place

-- A door: the links that are prepared, in the order in which they were added, how many links it gave and how many of its calls
-- failed, and the values that came back, oldest first.
pub record Entrance (B : Type 0) : Type 0 where
  pub prepared : List Wire
  pub given : ℕ
  pub faults : ℕ
  pub came : List B

abbrev pub entrance_state : {B : Type 0} → Entrance B → DoorState B
entrance_state e = record { given = e.given; faults = e.faults; came = Some e.came }
