-- A capture: the bytes that each side of a conversation sent, spelled in lines of text. Captures are this project's own.
use Rattle.std.specs.Prelude.{ℕ, Bool, ◌==◌, ◌&&◌, List, [], ◌∷◌, ◌++◌, ◌+◌, length, drop, slice_index_or, nat_lt, if◌then◌else◌}
use Rattle.std.specs.Prelude.{Option, Some, None, option_map, Result, Ok, Err}
use Rattle.hex_lines.specs.Lines.{lines_of, is_skipped, most_bytes}
use Rattle.hex_lines.specs.Hex.{bytes_of_hex}
use Rattle.drda_trace.specs.declared.capture.Capture.{Capture}

abbrev pub empty_capture : Capture
empty_capture = record { requester = []; server = [] }

-- the marks of the two sides: > and <
abbrev pub requester_mark : ℕ
requester_mark = 62

abbrev pub server_mark : ℕ
server_mark = 60

-- the line begins with this mark and a space
abbrev pub is_from : ℕ → List ℕ → Bool
is_from mark line = (slice_index_or line 0 0 == mark) && (slice_index_or line 1 0 == 32)

abbrev pub with_requester : Capture → List ℕ → Capture
with_requester capture bytes = record capture { requester = capture.requester ++ bytes }

abbrev pub with_server : Capture → List ℕ → Capture
with_server capture bytes = record capture { server = capture.server ++ bytes }

-- Empty lines and comments are skipped. Every other line has the mark of a side, a space, and the digits of one byte or more.
unfoldable pub line_added : Capture → List ℕ → Option Capture
line_added capture line =
    if is_skipped line then Some capture
    else (if is_from requester_mark line then option_map (with_requester capture) (bytes_of_hex (drop 2 line))
    else (if is_from server_mark line then option_map (with_server capture) (bytes_of_hex (drop 2 line))
    else None))

-- what the lines after this one add, and where this one is none of a capture its number
abbrev pub after_line : ℕ → Option Capture → (Capture → Result Capture ℕ) → Result Capture ℕ
after_line number (Some capture) rest = rest capture
after_line number None rest = Err number

-- the capture with these lines, the first of which has this number, or the number of the first that is none of a capture
unfoldable pub lines_added : ℕ → Capture → List (List ℕ) → Result Capture ℕ
lines_added number capture [] = Ok capture
lines_added number capture (line ∷ lines) =
    after_line number (line_added capture line) (λ next. lines_added (number + 1) next lines)

-- The capture of a text, or its first line that is none of one, counted from 1. A text that is too long is refused at line 0.
unfoldable pub capture_of : List ℕ → Result Capture ℕ
capture_of text = if nat_lt most_bytes (length text) then Err 0 else lines_added 1 empty_capture (lines_of text)
