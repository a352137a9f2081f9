-- What a cut keeps on its way: the segments that are whole, and a run of commands that are passed. No standard speaks of
-- it: this is this project's own.
use Rattle.std.specs.Prelude.{◌≡◌, true, if◌then◌else◌, List, [], ◌∷◌, ◌++◌}
use Rattle.std.specs.List.{AllByRecursion}
use Rattle.ddm_codepoints.specs.CodeClass.{class_of}
use Rattle.unit_segments.specs.declared.command.Command.{Command}
use Rattle.unit_segments.specs.Command.{is_passed, ends_unit}
use Rattle.unit_segments.specs.Segment.{passed_before, segments_of}

-- the segments, and the run as one more where it has commands
abbrev pub with_run : List (List Command) → List Command → List (List Command)
with_run segments [] = segments
with_run segments (command ∷ run) = segments ++ (command ∷ run) ∷ []

-- a run in front of the segments that follow it
abbrev pub run_before : List Command → List (List Command) → List (List Command)
run_before [] segments = segments
run_before (command ∷ run) segments = passed_before command (run_before run segments)

-- the segments that are whole, and the run behind them
pub record Progress : Type 0 where
  pub segments : List (List Command)
  pub run : List Command

-- with one command more
abbrev pub after_command : Command → List (List Command) → List Command → Progress
after_command command segments run =
    if is_passed (class_of command.code) then record { segments = segments; run = run ++ command ∷ [] }
    else (if ends_unit (class_of command.code) then record { segments = with_run segments (run ++ command ∷ []); run = [] }
    else record { segments = with_run (with_run segments run) (command ∷ []); run = [] })

abbrev pub IsPassed : Command → Type 0
IsPassed command = is_passed (class_of command.code) ≡ true

-- what is cut, and what is left, are the segments of all
pub record Cuts (all rest : List Command) (segments : List (List Command)) (run : List Command) : Type 0 where
  pub same : segments ++ run_before run (segments_of rest) ≡ segments_of all
  pub passed : AllByRecursion IsPassed run
