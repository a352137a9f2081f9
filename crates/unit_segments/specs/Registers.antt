-- The log of the special registers that a session has set: DRDA, volume 3, EXCSQLSET: the SET statements that give another
-- server the same registers. That a register is known by the text before the first equals sign is this project's own.
use Rattle.std.specs.Prelude.{◌≡◌, ℕ, ◌==◌, not, ◌&&◌, Bool, nat_le, nat_lt, if◌then◌else◌, List, [], ◌∷◌, ◌++◌, length, map, bytes_eq}
use Rattle.std.specs.Prelude.{Option, Some, None, Result, Ok, Err, false}
use Rattle.std.specs.List.{list_any, before_first}
use Rattle.ddm_objects.specs.Objects.{canonical_object}
use Rattle.ddm_codepoints.specs.declared.typdef.TypDef.{TypDef}
use Rattle.ddm_codepoints.specs.declared.typdef.TypDef.TheVariants.{Sql370, SqlAsc, SqlX86}
use Rattle.ddm_codepoints.specs.CodePoint.{excsqlset, sqlstt}
use Rattle.unit_segments.specs.declared.command.Command.{Command}
use Rattle.unit_segments.specs.declared.registers.RegisterFault.{RegisterFault}
use Rattle.unit_segments.specs.declared.registers.RegisterFault.TheVariants.{TooMany, TooLong, NoMemory}
use Rattle.unit_segments.specs.Statement.{Statement, statement_of}
use Rattle.unit_segments.specs.Spelling.{chain_bytes}

-- a register by its key, and the data of the SQLSTT that sets it
pub record Register : Type 0 where
  pub key : List ℕ
  pub statement : List ℕ

-- how many registers a session may set, and how many bytes the texts of one statement may have: this project's choice
abbrev pub most_registers : ℕ
most_registers = 64

abbrev pub most_text : ℕ
most_text = 4096

abbrev pub or_all : List ℕ → Option Statement → Statement
or_all bytes None = record { text = bytes; size = length bytes }
or_all bytes (Some statement) = statement

-- The statement of a SQLSTT; where its data are no two texts, all of them are the text. This project's choice.
abbrev pub set_of : List ℕ → Statement
set_of bytes = or_all bytes (statement_of bytes)

-- an equals sign, in EBCDIC or in ASCII
abbrev pub equals_sign : TypDef → ℕ
equals_sign Sql370 = 0x7E
equals_sign SqlAsc = 0x3D
equals_sign SqlX86 = 0x3D

-- which register a statement sets: the bytes before its first equals sign, or all where there is none
abbrev pub key_of : TypDef → List ℕ → List ℕ
key_of typ bytes = before_first (λ byte. byte == equals_sign typ) (set_of bytes).text

abbrev pub has_key : List ℕ → List Register → Bool
has_key key log = list_any (λ register. bytes_eq key register.key) log

-- a register that is there keeps its place, and any other comes last
abbrev pub with_register : Register → List Register → List Register
with_register register log =
    if has_key register.key log
    then map (λ other. if bytes_eq register.key other.key then register else other) log
    else log ++ register ∷ []

-- The log with one more SET statement. A text that is too long comes before a register too many.
unfoldable pub with_set : TypDef → List Register → List ℕ → Result (List Register) RegisterFault
with_set typ log bytes =
    if nat_lt most_text (set_of bytes).size then Err TooLong
    else (if nat_le most_registers (length log) && not (has_key (key_of typ bytes) log) then Err TooMany
    else Ok (with_register (record { key = key_of typ bytes; statement = bytes }) log))

-- A refusal is what is stated; want of memory is free.
abbrev pub IsRefusal : RegisterFault → Result (List Register) RegisterFault → Type 0
IsRefusal NoMemory stated = Unit {0}
IsRefusal TooMany stated = stated ≡ Err TooMany
IsRefusal TooLong stated = stated ≡ Err TooLong

-- a log after some SET statements, and what was wrong with the first that it couldn't take
pub record AfterSets : Type 0 where
  pub log : List Register
  pub fault : Option RegisterFault

abbrev pub after_set : List Register → Result (List Register) RegisterFault → (List Register → AfterSets) → AfterSets
after_set log (Err fault) others = record { log = log; fault = Some fault }
after_set log (Ok added) others = others added

-- the log with all of these SET statements, in order, up to the first that it can't take
unfoldable pub with_sets : TypDef → List (List ℕ) → List Register → AfterSets
with_sets typ [] log = record { log = log; fault = None }
with_sets typ (bytes ∷ sets) log = after_set log (with_set typ log bytes) (with_sets typ sets)

-- ---- setting them again

-- one command that sets all of them, each statement in an object DSS of its own: DRDA, volume 3, EXCSQLSET
abbrev pub set_command : List Register → Command
set_command log = record {
  code = excsqlset;
  corr = 1;
  go_on = false;
  at = 0;
  body = canonical_object excsqlset [];
  objects = map (λ register. canonical_object sqlstt register.statement) log;
}

-- the chain of that command, none where there is nothing to set
abbrev pub log_chain : List Register → List Command
log_chain [] = []
log_chain (register ∷ log) = set_command (register ∷ log) ∷ []

-- its bytes
abbrev pub log_bytes : List Register → List ℕ
log_bytes log = chain_bytes (log_chain log)
