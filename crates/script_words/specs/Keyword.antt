-- The first words of lines, and how many words each line has. They are this project's choice.
use Rattle.std.specs.Prelude.{ℕ, List, ◌==◌, ◌||◌, nat_le, Bool, true, false, if◌then◌else◌, length, take, drop, ◌-◌, Option, Some, None, option_map, codes}
use Rattle.std.specs.Str.{bytes_eq}
use Rattle.std.specs.Option.{option_or}
use Rattle.script_words.specs.declared.keyword.Keyword.{Keyword}
use Rattle.script_words.specs.declared.keyword.Keyword.TheVariants as keyword
use Rattle.script_words.specs.declared.keyword.HeaderWord.{HeaderWord}
use Rattle.script_words.specs.declared.keyword.HeaderWord.TheVariants as header
use Rattle.script_words.specs.declared.keyword.CommandWord.{CommandWord}
use Rattle.script_words.specs.declared.keyword.CommandWord.TheVariants as command
use Rattle.script_words.specs.declared.keyword.MoveWord.{MoveWord}
use Rattle.script_words.specs.declared.keyword.MoveWord.TheVariants as move
use Rattle.script_words.specs.declared.keyword.StepWord.{StepWord}
use Rattle.script_words.specs.declared.keyword.StepWord.TheVariants as step

-- the lines of the header
unfoldable pub header_word : List ℕ → Option HeaderWord
header_word word =
    if bytes_eq word (codes "rdb") then Some header.Rdb
    else (if bytes_eq word (codes "cap") then Some header.Cap
    else (if bytes_eq word (codes "member") then Some header.Member
    else (if bytes_eq word (codes "list") then Some header.List
    else (if bytes_eq word (codes "list2") then Some header.NumberedList
    else (if bytes_eq word (codes "user") then Some header.User
    else (if bytes_eq word (codes "row") then Some header.Row
    else None))))))

-- the commands, whose chain may go on
unfoldable pub command_word : List ℕ → Option CommandWord
command_word word =
    if bytes_eq word (codes "sql") then Some command.Sql
    else (if bytes_eq word (codes "set") then Some command.Set
    else (if bytes_eq word (codes "prepare") then Some command.Prepare
    else (if bytes_eq word (codes "open") then Some command.Open
    else (if bytes_eq word (codes "fetch") then Some command.Fetch
    else (if bytes_eq word (codes "close") then Some command.Close
    else (if bytes_eq word (codes "commit") then Some command.Commit
    else (if bytes_eq word (codes "rollback") then Some command.RollBack
    else None)))))))

-- the events of an application that move bytes
unfoldable pub move_word : List ℕ → Option MoveWord
move_word word =
    if bytes_eq word (codes "take") then Some move.Take
    else (if bytes_eq word (codes "send") then Some move.Send
    else (if bytes_eq word (codes "back") then Some move.Back
    else (if bytes_eq word (codes "say") then Some move.Say
    else None)))

-- the other events of an application
unfoldable pub step_word : List ℕ → Option StepWord
step_word word =
    if bytes_eq word (codes "end") then Some step.End
    else (if bytes_eq word (codes "lend") then Some step.Lend
    else (if bytes_eq word (codes "dial") then Some step.Dial
    else (if bytes_eq word (codes "cut") then Some step.Cut
    else (if bytes_eq word (codes "give") then Some step.Give
    else None))))

-- the words that stand for themselves
unfoldable pub lone_word : List ℕ → Option Keyword
lone_word word =
    if bytes_eq word (codes "app") then Some keyword.App
    else (if bytes_eq word (codes "start") then Some keyword.Start
    else (if bytes_eq word (codes "act") then Some keyword.Act
    else (if bytes_eq word (codes "drop") then Some keyword.Drop
    else (if bytes_eq word (codes "down") then Some keyword.Down
    else (if bytes_eq word (codes "up") then Some keyword.Up
    else (if bytes_eq word (codes "settle") then Some keyword.Settle
    else None))))))

unfoldable pub header_keyword : List ℕ → Option Keyword
header_keyword word = option_map keyword.Header (header_word word)

-- an event of an application
unfoldable pub event_word : List ℕ → Option Keyword
event_word word = option_or (option_map keyword.Move (move_word word)) (option_map keyword.Step (step_word word))

-- a command whose chain goes on or doesn't
unfoldable pub chain_word : Bool → List ℕ → Option Keyword
chain_word goes_on word = option_map (λ command. keyword.Command command goes_on) (command_word word)

-- a line of the header or of the body
unfoldable pub keyword_by_name : List ℕ → Option Keyword
keyword_by_name word =
    option_or (option_or (option_or (header_keyword word) (chain_word false word)) (event_word word)) (lone_word word)

-- the word ends with a plus
abbrev pub ends_with_plus : List ℕ → Bool
ends_with_plus word = bytes_eq (drop (length word - 1) word) (codes "+")

-- What a first word says. The chain of a command goes on where its word ends with a plus.
unfoldable pub keyword_of : List ℕ → Option Keyword
keyword_of word = if ends_with_plus word then chain_word true (take (length word - 1) word) else keyword_by_name word

-- ---- how many words a line has, its first word counted; those of a text are as many as it has

unfoldable pub fits_header : HeaderWord → ℕ → Bool
fits_header header.Rdb count = count == 2
fits_header header.Cap count = count == 2
fits_header header.Member count = count == 3
fits_header header.List count = nat_le 2 count
fits_header header.NumberedList count = nat_le 4 count
fits_header header.User count = count == 3
fits_header header.Row count = count == 4

unfoldable pub fits_command : CommandWord → ℕ → Bool
fits_command command.Sql count = nat_le 3 count
fits_command command.Set count = nat_le 3 count
fits_command command.Prepare count = nat_le 4 count
fits_command command.Open count = count == 3
fits_command command.Fetch count = count == 3
fits_command command.Close count = count == 3
fits_command command.Commit count = count == 2
fits_command command.RollBack count = count == 2

unfoldable pub fits_count : Keyword → ℕ → Bool
fits_count (keyword.Header word) count = fits_header word count
fits_count (keyword.Command word goes_on) count = fits_command word count
fits_count keyword.App count = count == 2 || count == 3
fits_count keyword.Start count = count == 4
fits_count (keyword.Move word) count = count == 3
fits_count keyword.Act count = count == 3
fits_count keyword.Drop count = count == 2
fits_count (keyword.Step word) count = count == 2
fits_count keyword.Down count = count == 2
fits_count keyword.Up count = count == 2
fits_count keyword.Settle count = count == 2
