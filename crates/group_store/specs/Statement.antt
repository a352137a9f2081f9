-- The statements of a command, and its section. DRDA, volume 3, SQLSTT, SQLATTR, PKGNAMCSN; which of several counts is this
-- project's choice.
use Rattle.std.specs.Prelude.{ℕ, ◌-◌, ◌≤◌, ◌==◌, Bool, false, ◌&&◌, if◌then◌else◌, List, codes, length, drop, map, filter, find, bytes_eq, nat_lt}
use Rattle.std.specs.Prelude.{Option, Some, None, option_map, option_and_then}
use Rattle.std.specs.List.{list_any}
use Rattle.byteorder.specs.Endian.{big_number}
use Rattle.ddm_codepoints.specs.declared.typdef.TypDef.{TypDef}
use Rattle.ddm_codepoints.specs.CodePoint.{sqlstt, sqlattr, pkgnamcsn}
use Rattle.reply_texts.specs.Text.{text_in, codes_in}
use Rattle.access_handshake.specs.Parameter.{parameter}
use Rattle.unit_segments.specs.declared.command.Command.{Command}
use Rattle.unit_segments.specs.Command.{code_of, data_of}
use Rattle.unit_segments.specs.Statement.{Statement as SqlText, statement_of as sql_text_of}
use Rattle.member_statements.specs.declared.statement.Statement.{Statement}
use Rattle.member_statements.specs.declared.statement.Statement.TheVariants.{Insert, Update, Delete, Set, Select}
use Rattle.member_statements.specs.Register.{IsRegister}
use Rattle.member_statements.specs.Statement.{most_text}
use Rattle.member_statements.specs.Reading.{statement_of}

-- ---- objects of a command

-- the body of an object DSS is such an object; one that isn't exactly one object is none
abbrev pub is_object_with : ℕ → List ℕ → Bool
is_object_with code body = code_of body == code

-- the data of those that are, in order
abbrev pub data_with : ℕ → List (List ℕ) → List (List ℕ)
data_with code objects = map data_of (filter (is_object_with code) objects)

-- the data of the first
abbrev pub first_data : ℕ → List (List ℕ) → Option (List ℕ)
first_data code objects = option_map data_of (find (is_object_with code) objects)

-- ---- texts

-- the text that the data of a SQLSTT or a SQLATTR are, in ASCII
abbrev pub text_of : TypDef → List ℕ → Option (List ℕ)
text_of typdef bytes = option_and_then (λ found. text_in typdef found.text) (sql_text_of bytes)

-- the statement that the data of a SQLSTT are, if they are one
abbrev pub statement_in : TypDef → List ℕ → Option Statement
statement_in typdef bytes = option_and_then statement_of (text_of typdef bytes)

-- A statement that was read has a short text, and a register that has a name.
abbrev pub IsSound : Statement → Type 0
IsSound (Insert key text) = length text ≤ most_text
IsSound (Update key text) = length text ≤ most_text
IsSound (Delete key) = Unit {0}
IsSound (Set register value) = IsRegister register × (length value ≤ most_text)
IsSound Select = Unit {0}

-- the statement of a command that has one: its first SQLSTT
abbrev pub first_statement : TypDef → Command → Option Statement
first_statement typdef c = option_and_then (statement_in typdef) (first_data sqlstt c.objects)

abbrev pub says_hold : TypDef → Option SqlText → Bool
says_hold typdef None = false
says_hold typdef (Some found) = bytes_eq found.text (codes_in typdef (codes "WITH HOLD"))

-- the data of a SQLATTR are just this text, in the requester's characters
abbrev pub is_hold : TypDef → List ℕ → Bool
is_hold typdef bytes = says_hold typdef (sql_text_of bytes)

-- one of the command's SQLATTRs is WITH HOLD
abbrev pub is_held : TypDef → Command → Bool
is_held typdef c = list_any (λ body. is_object_with sqlattr body && is_hold typdef (data_of body)) c.objects

-- ---- the section

abbrev pub last_two : Option (List ℕ) → ℕ
last_two None = 0
last_two (Some bytes) = if nat_lt (length bytes) 2 then 0 else big_number 2 (drop (length bytes - 2) bytes)

-- the last two bytes of PKGNAMCSN, 0 where there are none
abbrev pub section_of : Command → ℕ
section_of c = last_two (parameter (data_of c.body) pkgnamcsn)
