-- What a worker makes of its door. No standard speaks of doors: they are this project's own.
use Rattle.std.specs.Prelude.{◌≡◌, ℕ, ◌+◌, ◌<◌, ◌≤◌, Bool, false, if◌then◌else◌, List, length, Some}
use Rattle.link_ends.specs.Counts.{greatest, one_more}
use Rattle.link_ends.specs.Doors.{DoorState, after_back}
use Rattle.member_server.specs.Doors.{CameSince}

-- a door that gave a link
abbrev pub after_giving : {B : Type 0} → DoorState B → DoorState B
after_giving door = record door { given = one_more door.given }

-- where a door tells what came back, and no more had come back than it had given links, each link that it gave came back
abbrev pub CameBack : {B : Type 0} → (B → Type 0) → DoorState B → DoorState B → Type 0
CameBack {B} P old new =
    (before : List B) → old.came ≡ Some before → length before ≤ old.given → new.given < greatest →
    CameSince P old.given before new.given new.came

-- A door after its last link was served: what came of the link came back, where the worker found its memory.
pub record HandsBack {B : Type 0} (P : B → Type 0) (old new : DoorState B) (refused : Bool) : Type 0 where
  pub given : new.given ≡ old.given
  pub faults : new.faults ≡ old.faults
  pub came : refused ≡ false → (value : B) × P value × (new ≡ after_back value old)

-- What a worker made of its door: the links that the door gave are its sessions, and each came back, where the worker found its memory.
pub record HasWorked {B : Type 0} (P : B → Type 0) (old new : DoorState B) (sessions : ℕ) (failed refused : Bool) : Type 0 where
  pub given : new.given < greatest → new.given ≡ old.given + sessions
  pub faults : new.faults ≡ (if failed then one_more old.faults else old.faults)
  pub came : refused ≡ false → CameBack P old new
