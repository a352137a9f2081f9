-- The segments of a chain: what runs at once, and is lost at once. DRDA, volume 1, units of work; that a chain is cut so is
-- this project's own.
use Rattle.std.specs.Prelude.{◌≡◌, ◌⊎◌, Bool, true, false, ◌||◌, if◌then◌else◌, List, [], ◌∷◌}
use Rattle.std.specs.List.{flat_map, AllByRecursion}
use Rattle.ddm_codepoints.specs.CodeClass.{class_of}
use Rattle.unit_segments.specs.declared.command.Command.{Command}
use Rattle.unit_segments.specs.Command.{ends_unit, is_passed}

-- the command goes on the run of commands that are passed: it is one, or it ends their unit of work
abbrev pub goes_on_a_run : Command → Bool
goes_on_a_run command = is_passed (class_of command.code) || ends_unit (class_of command.code)

-- a command that is passed in front of segments: in one with the first of these where that goes on its run
abbrev pub passed_before : Command → List (List Command) → List (List Command)
passed_before command [] = (command ∷ []) ∷ []
passed_before command ([] ∷ segments) = (command ∷ []) ∷ segments
passed_before command ((next ∷ segment) ∷ segments) =
    if goes_on_a_run next
    then (command ∷ next ∷ segment) ∷ segments
    else (command ∷ []) ∷ (next ∷ segment) ∷ segments

-- The segments of a chain, in order. A command that is passed is in one segment with what follows it, as long as these are
-- passed too, up to and with the first that ends the unit of work; every other command is alone, or ends such a run.
unfoldable pub segments_of : List Command → List (List Command)
segments_of [] = []
segments_of (command ∷ commands) =
    if is_passed (class_of command.code)
    then passed_before command (segments_of commands)
    else (command ∷ []) ∷ segments_of commands

-- ---- apart from how they are cut

-- A run: each command but the last is passed, and the last is passed too, or ends the unit of work.
abbrev pub IsRun : List Command → Type 0
IsRun [] = ⊥
IsRun (command ∷ []) = goes_on_a_run command ≡ true
IsRun (command ∷ next ∷ others) = (is_passed (class_of command.code) ≡ true) × IsRun (next ∷ others)

-- a command that doesn't go on a run is alone
abbrev pub IsAlone : List Command → Type 0
IsAlone (command ∷ []) = goes_on_a_run command ≡ false
IsAlone _ = ⊥

-- a run isn't ended yet: its last command is passed
abbrev pub IsOpenRun : List Command → Type 0
IsOpenRun [] = ⊥
IsOpenRun (command ∷ []) = is_passed (class_of command.code) ≡ true
IsOpenRun (command ∷ next ∷ others) = IsOpenRun (next ∷ others)

-- the first of these commands goes on a run
abbrev pub BeginsRun : List Command → Type 0
BeginsRun [] = ⊥
BeginsRun (command ∷ others) = goes_on_a_run command ≡ true

-- No segment could be longer: behind one that isn't ended stands a command that is alone.
abbrev pub AreMaximal : List (List Command) → Type 0
AreMaximal [] = Unit {0}
AreMaximal (segment ∷ []) = Unit {0}
AreMaximal (segment ∷ next ∷ others) = (IsOpenRun segment → BeginsRun next → ⊥) × AreMaximal (next ∷ others)

-- The segments, in order, are the commands: each is a command alone or a run, and none could be longer.
pub record AreSegments (commands : List Command) (segments : List (List Command)) : Type 0 where
  pub joined : flat_map (λ segment. segment) segments ≡ commands
  pub each : AllByRecursion (λ segment. IsRun segment ⊎ IsAlone segment) segments
  pub maximal : AreMaximal segments
