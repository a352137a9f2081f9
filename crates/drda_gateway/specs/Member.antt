-- What each status of member says. No standard speaks of it.
use Rattle.std.specs.Prelude.{ℕ, List, [], ◌∷◌, ◌++◌, ◌≡◌, ◌==◌, ◌⊎◌, Bool, true, false, Option, Some, None, length, map, codes, if◌then◌else◌}
use Rattle.std.specs.List.{sum_by, list_any}
use Rattle.std.specs.Fmt.{decimal}
use Rattle.link_ends.specs.Counts.{Rose}
use Rattle.link_ends.specs.Doors.{DoorState}
use Rattle.link_ends.specs.Sink.{SinkState}
use Rattle.hex_lines.specs.Lines.{line_end}
use Rattle.server_words.specs.Field.{given}
use Rattle.server_words.specs.Member.{Membership, member_said}
use Rattle.member_server.specs.Doors.{Work, AreWorks}

abbrev pub usage_text : List ℕ
usage_text = codes "usage: drda_gateway member --listen ADDR --sessions N --workers N USER..." ++ line_end

-- what is said where the words are right and there are as many doors as workers
abbrev pub said_for : List (List ℕ) → ℕ → Option Membership
said_for words doors = given (member_said words) (λ said. if said.options.workers == doors then Some said else None)

-- what is told of so many sessions and commits
abbrev pub member_text : ℕ → ℕ → List ℕ
member_text sessions commits =
    codes "sessions " ++ (decimal sessions ++ (line_end ++ (codes "commits " ++ (decimal commits ++ line_end))))

-- Workers served these doors, and so many sessions in all; whether a call of a door failed.
pub record WereServed {B : Type 0} (P : B → Type 0) (sessions : ℕ) (failed : Bool) (doors doors_now : List (DoorState B)) : Type 0 where
  pub works : List (Work B)
  pub are : AreWorks P doors doors_now works
  pub sum : sum_by (λ work. work.sessions) works ≡ sessions
  pub fails : list_any (λ work. work.failed) works ≡ failed

-- As many sessions as these were served, no call of a door failed, and this was written of what is told of them.
pub record Told {B : Type 0} (Wrote : SinkState → SinkState → List ℕ → Type 0) (P : B → Type 0) (sessions : ℕ)
    (doors doors_now : List (DoorState B)) (sink sink_now : SinkState) : Type 0 where
  pub commits : ℕ
  pub served : WereServed P sessions false doors doors_now
  pub wrote : Wrote sink sink_now (member_text sessions commits)

-- the same of as many sessions as the words say
pub record ToldAsSaid {B : Type 0} (Wrote : SinkState → SinkState → List ℕ → Type 0) (P : B → Type 0) (words : List (List ℕ))
    (doors doors_now : List (DoorState B)) (sink sink_now : SinkState) : Type 0 where
  pub said : Membership
  pub says : said_for words (length doors) ≡ Some said
  pub told : Told Wrote P said.options.sessions doors doors_now sink sink_now

-- a call of a door failed
pub record DoorFailed {B : Type 0} (P : B → Type 0) (doors doors_now : List (DoorState B)) : Type 0 where
  pub sessions : ℕ
  pub served : WereServed P sessions true doors doors_now

-- the count of faults of one of these doors rose
abbrev pub FaultsRose : {B : Type 0} → List (DoorState B) → List (DoorState B) → Type 0
FaultsRose (door ∷ doors) (now ∷ doors_now) = Rose door.faults now.faults ⊎ FaultsRose doors doors_now
FaultsRose (door ∷ doors) [] = ⊥
FaultsRose [] doors_now = ⊥
