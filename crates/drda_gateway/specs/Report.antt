-- The report of a world: lines of text, each with a line feed at its end. The report is this project's choice.
use Rattle.std.specs.Prelude.{ℕ, List, [], ◌∷◌, ◌++◌, ◌+◌, ◌==◌, length, if◌then◌else◌, Option, Some, None, codes}
use Rattle.std.specs.List.{flat_map}
use Rattle.std.specs.Fmt.{decimal}
use Rattle.hex.specs.Hex.{encode_upper}
use Rattle.hex_lines.specs.Lines.{line_end}
use Rattle.drda_gateway.specs.declared.session.End.{End}
use Rattle.drda_gateway.specs.declared.session.End.TheVariants.{Refused, Limit}
use Rattle.drda_gateway.specs.declared.world.ErrorWord.{ErrorWord}
use Rattle.drda_gateway.specs.declared.world.ErrorWord.TheVariants as word
use Rattle.drda_gateway.specs.declared.world.Entry.{Entry}
use Rattle.drda_gateway.specs.declared.world.Entry.TheVariants.{Answer, Error}
use Rattle.drda_gateway.specs.Session.{SessionState, is_saying}
use Rattle.drda_gateway.specs.World.{WorldState}

-- bytes as digits, with a dash for none
abbrev pub shown_bytes : List ℕ → List ℕ
shown_bytes bytes = if length bytes == 0 then codes "-" else encode_upper bytes

-- how a session ended, once its closing reply is said
abbrev pub end_of : SessionState → Option End
end_of s = if is_saying s then None else s.ended

abbrev pub shown_end : Option End → List ℕ
shown_end None = codes " open" ++ line_end
shown_end (Some (Refused place)) = codes " ended syntax " ++ (decimal place ++ line_end)
shown_end (Some Limit) = codes " ended limit request" ++ line_end

-- the two lines of an application
unfoldable pub session_lines : ℕ → SessionState → List ℕ
session_lines app s =
    (codes "app " ++ (decimal app ++ (codes " sent " ++ (shown_bytes s.sent ++ line_end))))
    ++ (codes "app " ++ (decimal app ++ shown_end (end_of s)))

-- the lines of the applications that the script names, by number
abbrev pub sessions_lines : ℕ → List SessionState → List ℕ
sessions_lines app [] = []
sessions_lines app (s ∷ sessions) = (if s.named then session_lines app s else []) ++ sessions_lines (app + 1) sessions

abbrev pub shown_word : ErrorWord → List ℕ
shown_word word.Syntax = codes " syntax"
shown_word word.Limit = codes " limit"

unfoldable pub entry_line : Entry → List ℕ
entry_line (Answer app) = codes "log answer " ++ (decimal app ++ line_end)
entry_line (Error app word) = codes "log error " ++ (decimal app ++ (shown_word word ++ line_end))

-- nothing is committed, dialled, reused or lost at this stage
abbrev pub count_line : List ℕ
count_line = codes "count commits 0 dials 0 reuses 0 losses 0" ++ line_end

unfoldable pub report_of : WorldState → List ℕ
report_of w = sessions_lines 1 w.sessions ++ flat_map entry_line w.log ++ count_line
