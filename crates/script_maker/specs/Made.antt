-- The script that is made of a seed, for so many applications with so many units of work. It is this project's own.
use Rattle.std.specs.Prelude.{ℕ, ◌+◌, ◌*◌, ◌/◌, ◌%◌, List, ◌++◌}
use Rattle.std.specs.List.{flat_map, range_with_len}
use Rattle.script_maker.specs.Draw.{after_draws}
use Rattle.script_maker.specs.Lines.{header_lines, user_line, start_line, settle_line, turn_lines, end_line}

-- the same line of each application, which are numbered from 1
abbrev pub each_app : (ℕ → List ℕ) → ℕ → List ℕ
each_app line apps = flat_map line (range_with_len 1 apps)

-- A turn of an application, counted from 0. In each unit of work each application has one, in their order; the key of its row
-- tells the unit and the application.
abbrev pub turn_of : ℕ → ℕ → ℕ → List ℕ
turn_of seed apps turn = turn_lines (turn % apps + 1) (turn / apps * 64 + (turn % apps + 1)) (after_draws (turn + 1) seed)

-- all turns
abbrev pub all_turns : ℕ → ℕ → ℕ → List ℕ
all_turns seed apps units = flat_map (turn_of seed apps) (range_with_len 0 (apps * units))

-- the members, the users, their access, all turns, and the end of each
unfoldable pub made : ℕ → ℕ → ℕ → List ℕ
made seed apps units =
    header_lines
    ++ (each_app user_line apps
    ++ (each_app start_line apps ++ (settle_line ++ (all_turns seed apps units ++ each_app end_line apps))))
