-- What workers come to that serve the links of doors by runs. This project's own.
use Rattle.std.specs.Prelude.{◌≡◌, ℕ, min, Bool, List, map}
use Rattle.std.specs.List.{All, sum_by, list_any}
use Rattle.link_ends.specs.Counts.{greatest}
use Rattle.link_ends.specs.Doors.{DoorState}
use Rattle.gateway_workers.specs.Doors.{HasWorked}
use Rattle.gateway_workers.specs.Dials.{HasDialled}
use Rattle.gateway_workers.specs.declared.jobs.WorkerEnds.{WorkerEnds}
use Rattle.gateway_workers.specs.declared.jobs.Job.{Job}
use Rattle.gateway_workers.specs.declared.jobs.Worked.{Worked}

-- a worker's door, and how often its dial was called
pub record Seen (B : Type 0) : Type 0 where
  pub door : DoorState B
  pub calls : ℕ

-- What a worker did: how many links its door gave, how many lends of its sessions were answered Dial, whether its door failed, and
-- whether it found no memory.
pub record Work (B : Type 0) : Type 0 where
  pub before : Seen B
  pub now : Seen B
  pub sessions : ℕ
  pub dials : ℕ
  pub failed : Bool
  pub refused : Bool

-- what it tells is so
pub record IsWork {B : Type 0} (P : B → Type 0) (work : Work B) : Type 0 where
  pub door : HasWorked P work.before.door work.now.door work.sessions work.failed work.refused
  pub dial : HasDialled work.before.calls 0 work.now.calls work.dials work.refused

-- Each of these ends had a worker, and what these told in all: sessions and dials up to the greatest value.
pub record WereServed {B : Type 0} (P : B → Type 0) (old new : List (Seen B)) (sessions dials : ℕ) (failed refused : Bool) : Type 0 where
  pub works : List (Work B)
  pub before : map (λ work. work.before) works ≡ old
  pub now : map (λ work. work.now) works ≡ new
  pub each : All (IsWork P) works
  pub session_sum : sessions ≡ min (sum_by (λ work. work.sessions) works) greatest
  pub dial_sum : dials ≡ min (sum_by (λ work. work.dials) works) greatest
  pub fails : list_any (λ work. work.failed) works ≡ failed
  pub refuses : list_any (λ work. work.refused) works ≡ refused

module _ {D N X Y : Type 0} where
  -- the ends that a worker begins with, and those that it ends with
  abbrev pub ends_in : Job D N X Y → WorkerEnds D N
  ends_in job = record { door = job.door; dial = job.dial }

  abbrev pub ends_after : Worked D N X Y → WorkerEnds D N
  ends_after worked = ends_in worked.job

module _ {B D N : Type 0} (door_state : D → DoorState B) (calls_of : N → ℕ) where
  abbrev pub seen : WorkerEnds D N → Seen B
  seen ends = record { door = door_state ends.door; calls = calls_of ends.dial }

  -- what a worker made of its door and of its dial
  pub record Works {X Y : Type 0} (P : B → Type 0) (job : Job D N X Y) (worked : Worked D N X Y) : Type 0 where
    pub door : HasWorked P (door_state job.door) (door_state worked.job.door) worked.sessions worked.failed worked.refused
    pub dial : HasDialled (calls_of job.dial) job.dials.amount (calls_of worked.job.dial) worked.job.dials.amount worked.refused
