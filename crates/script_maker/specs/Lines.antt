-- The lines of a made script. Scripts are this project's own.
use Rattle.std.specs.Prelude.{ℕ, ◌%◌, ◌==◌, if◌then◌else◌, List, [], ◌++◌, codes}
use Rattle.std.specs.Fmt.{decimal}
use Rattle.hex_lines.specs.Lines.{line_end}
use Rattle.script_maker.specs.Draw.{shown}

-- two members of weight 1, and two transports at a time
unfoldable pub header_lines : List ℕ
header_lines =
    codes "rdb SAMPLE" ++ (line_end ++ (codes "cap 2" ++ (line_end ++ (codes "member 1 1" ++ (line_end ++ (codes "member 2 1" ++ line_end))))))

-- the user of an application
unfoldable pub user_line : ℕ → List ℕ
user_line app = codes "user U" ++ (decimal app ++ (codes " P" ++ line_end))

-- the application gets access as its user
unfoldable pub start_line : ℕ → List ℕ
start_line app = codes "start " ++ (decimal app ++ (codes " U" ++ (decimal app ++ (codes " P" ++ line_end))))

-- all that can happen does
unfoldable pub settle_line : List ℕ
settle_line = codes "settle 100000" ++ line_end

-- the application inserts a row
unfoldable pub insert_line : ℕ → ℕ → ℕ → List ℕ
insert_line app key number =
    codes "sql " ++ (decimal app ++ (codes " INSERT INTO T VALUES (" ++ (decimal key ++ (codes ", 'V" ++ (decimal number ++ (codes "')" ++ line_end))))))

-- the application loses its transport, where the number is divisible by 8
unfoldable pub cut_line : ℕ → ℕ → List ℕ
cut_line app number = if number % 8 == 0 then codes "cut " ++ (decimal app ++ line_end) else []

unfoldable pub commit_line : ℕ → List ℕ
commit_line app = codes "commit " ++ (decimal app ++ line_end)

unfoldable pub end_line : ℕ → List ℕ
end_line app = codes "end " ++ (decimal app ++ line_end)

-- one unit of work of an application: it inserts a row with this key, and commits it
abbrev pub turn_lines : ℕ → ℕ → ℕ → List ℕ
turn_lines app key draw =
    insert_line app key (shown draw) ++ (settle_line ++ (cut_line app (shown draw) ++ (commit_line app ++ settle_line)))
