-- What dials and doors are seen as, and what their calls do. No standard speaks of them: they are this project's own.
use Rattle.std.specs.Prelude.{ℕ, List, [], ◌++◌, ◌∷◌, if◌then◌else◌, nat_lt, Option, option_map, Result, Ok, Err, length}
use Rattle.link_ends.specs.Counts.{one_more}

-- a dial: how often it was called, and how many of its calls have failed
pub record DialState : Type 0 where
  pub calls : ℕ
  pub faults : ℕ

-- a dial after a call that answered so
abbrev pub after_dial : {L E : Type 0} → Result L E → DialState → DialState
after_dial (Ok _) dial = record { calls = one_more dial.calls; faults = dial.faults }
after_dial (Err _) dial = record { calls = one_more dial.calls; faults = one_more dial.faults }

-- a door: how many links it gave, how many of its calls have failed, and what came back, oldest first, where it tells that
pub record DoorState (B : Type 0) : Type 0 where
  pub given : ℕ
  pub faults : ℕ
  pub came : Option (List B)

-- a door after it was asked for a link, and answered so
abbrev pub after_taking : {L E B : Type 0} → Result L E → DoorState B → DoorState B
after_taking (Ok _) door = record door { given = one_more door.given }
after_taking (Err _) door = record door { faults = one_more door.faults }

-- what came back, with one more value, where fewer came back than links were given
abbrev pub with_one_more : {B : Type 0} → ℕ → B → List B → List B
with_one_more given value came = if nat_lt (length came) given then came ++ value ∷ [] else came

-- a door after this value came back
abbrev pub after_back : {B : Type 0} → B → DoorState B → DoorState B
after_back value door = record door { came = option_map (with_one_more door.given value) door.came }
