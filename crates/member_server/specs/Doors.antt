-- What workers come to that serve the links of doors. No standard speaks of doors: they are this project's own.
use Rattle.std.specs.Prelude.{◌≡◌, ℕ, ◌+◌, ◌<◌, ◌≤◌, Bool, if◌then◌else◌, List, ◌++◌, length, map, Option, Some}
use Rattle.std.specs.List.{All}
use Rattle.link_ends.specs.Counts.{greatest, one_more}
use Rattle.link_ends.specs.Link.{LinkState, IsFresh}
use Rattle.link_ends.specs.Doors.{DoorState, after_back}
use Rattle.plain_model.specs.Group.{Meaning}
use Rattle.member_server.specs.declared.session.MemberEnd.{MemberEnd}
use Rattle.member_server.specs.Served.{Served}

-- a link that nobody had used was served to an end
pub record IsServed {A S U : Type 0} (state : A → LinkState) (m : Meaning S U) (link : A) : Type 0 where
  pub unused : LinkState
  pub end : MemberEnd
  pub fresh : IsFresh unused
  pub served : Served m unused (state link) end

-- a door that gave this link, to which it came back
abbrev pub after_serving : {A : Type 0} → A → DoorState A → DoorState A
after_serving link door = after_back link (record door { given = one_more door.given })

-- a door that was asked for a link, and failed
abbrev pub after_failing : {A : Type 0} → DoorState A → DoorState A
after_failing door = record door { faults = one_more door.faults }

-- what came back to a door since: as many values as it gave links, each of this kind
pub record CameSince {B : Type 0} (P : B → Type 0) (given : ℕ) (before : List B) (given_now : ℕ) (came_now : Option (List B)) : Type 0 where
  pub values : List B
  pub came : came_now ≡ Some (before ++ values)
  pub count : length values + given ≡ given_now
  pub each : All P values

-- What a worker made of its door: the links that the door gave are its sessions, and each came back, where the door tells that and
-- no more had come back than it gave.
pub record HasWorked {B : Type 0} (P : B → Type 0) (old new : DoorState B) (sessions : ℕ) (failed : Bool) : Type 0 where
  pub given : new.given < greatest → new.given ≡ old.given + sessions
  pub faults : new.faults ≡ (if failed then one_more old.faults else old.faults)
  pub came :
      (before : List B) → old.came ≡ Some before → length before ≤ old.given → new.given < greatest →
      CameSince P old.given before new.given new.came

-- what a worker made of its door
pub record Work (B : Type 0) : Type 0 where
  pub before : DoorState B
  pub now : DoorState B
  pub sessions : ℕ
  pub failed : Bool

-- what workers made of these doors, each of one, in order
pub record AreWorks {B : Type 0} (P : B → Type 0) (doors doors_now : List (DoorState B)) (works : List (Work B)) : Type 0 where
  pub old : map (λ work. work.before) works ≡ doors
  pub new : map (λ work. work.now) works ≡ doors_now
  pub each : All (λ work. HasWorked P work.before work.now work.sessions work.failed) works
