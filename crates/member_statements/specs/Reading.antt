-- How the text of a statement is read: this project's own choice. Each form begins with words of its own, and these decide
-- which form a text is read as.
use Rattle.std.specs.Prelude.{ℕ, ◌-◌, ◌==◌, Bool, false, ◌&&◌, nat_le, if◌then◌else◌, List, [], ◌∷◌, ◌++◌, codes, length, take, drop, bytes_eq}
use Rattle.std.specs.Prelude.{Option, Some, None, option_and_then, position, unwrap_or}
use Rattle.std.specs.List.{list_all}
use Rattle.member_statements.specs.declared.statement.Statement.{Statement}
use Rattle.member_statements.specs.declared.statement.Statement.TheVariants.{Insert, Update, Delete, Set, Select}
use Rattle.member_statements.specs.declared.register.Register.{Register}
use Rattle.member_statements.specs.declared.register.Register.TheVariants.{Schema, Degree, Path, Numbered}
use Rattle.member_statements.specs.Statement.{is_digit, number_of, is_key, quote, is_inner_text, select_text}

-- ---- parts of a text

-- what follows this front
abbrev pub after : List ℕ → List ℕ → Option (List ℕ)
after front bytes = if bytes_eq (take (length front) bytes) front then Some (drop (length front) bytes) else None

-- what stands ahead of this end
abbrev pub ahead_of : List ℕ → List ℕ → Option (List ℕ)
ahead_of end bytes =
    if bytes_eq (drop (length bytes - length end) bytes) end then Some (take (length bytes - length end) bytes) else None

-- what stands between this front and this end
abbrev pub between : List ℕ → List ℕ → List ℕ → Option (List ℕ)
between front end bytes = option_and_then (ahead_of end) (after front bytes)

-- the place of the first such byte, or how many bytes there are
abbrev pub place_of : ℕ → List ℕ → ℕ
place_of mark bytes = unwrap_or (position (λ byte. byte == mark) bytes) (length bytes)

-- ---- what stands behind the first words of each form

abbrev pub comma : ℕ
comma = 0x2C

abbrev pub equals : ℕ
equals = 0x3D

abbrev pub some_insert : List ℕ → List ℕ → Option Statement
some_insert digits text = if is_key digits && is_inner_text text then Some (Insert (number_of digits) text) else None

-- a key up to the comma, and the row's text in quotes
unfoldable pub insert_of : List ℕ → Option Statement
insert_of bytes =
    option_and_then (some_insert (take (place_of comma bytes) bytes))
    (between (codes ", '") (codes "')") (drop (place_of comma bytes) bytes))

abbrev pub some_update : List ℕ → List ℕ → Option Statement
some_update text digits = if is_key digits && is_inner_text text then Some (Update (number_of digits) text) else None

-- the row's text up to the quote, and its key
unfoldable pub update_of : List ℕ → Option Statement
update_of bytes =
    option_and_then (some_update (take (place_of quote bytes) bytes))
    (after (codes "' WHERE K = ") (drop (place_of quote bytes) bytes))

-- a key
unfoldable pub delete_of : List ℕ → Option Statement
delete_of digits = if is_key digits then Some (Delete (number_of digits)) else None

-- a number from 1 to 99 without a zero in front
abbrev pub is_register_number : List ℕ → Bool
is_register_number [] = false
is_register_number (digit ∷ digits) =
    list_all is_digit (digit ∷ digits) && nat_le 49 digit && nat_le (length digits) 1

abbrev pub numbered_of : List ℕ → Option Register
numbered_of digits = if is_register_number digits then Some (Numbered (number_of digits)) else None

-- the register with this name
abbrev pub register_of : List ℕ → Option Register
register_of name =
    if bytes_eq name (codes "CURRENT SCHEMA") then Some Schema
    else (if bytes_eq name (codes "CURRENT DEGREE") then Some Degree
    else (if bytes_eq name (codes "CURRENT PATH") then Some Path
    else option_and_then numbered_of (after (codes "R") name)))

abbrev pub some_set : Option Register → List ℕ → Option Statement
some_set None value = None
some_set (Some register) value = if is_inner_text value then Some (Set register value) else None

abbrev pub set_by : List ℕ → List ℕ → Option Statement
set_by name value = some_set (option_and_then register_of (ahead_of (codes " ") name)) value

-- the register's name up to the space ahead of the equals sign, and its value in quotes
unfoldable pub set_of : List ℕ → Option Statement
set_of bytes =
    option_and_then (set_by (take (place_of equals bytes) bytes))
    (between (codes "= '") (codes "'") (drop (place_of equals bytes) bytes))

-- ---- all forms

-- where the first words of a form are there, what follows them decides
abbrev pub by_form : Option (List ℕ) → (List ℕ → Option Statement) → Option Statement → Option Statement
by_form (Some rest) form others = form rest
by_form None form others = others

-- the statement that a text spells, if it spells one
unfoldable pub statement_of : List ℕ → Option Statement
statement_of bytes =
    by_form (after (codes "INSERT INTO T VALUES (") bytes) insert_of
    (by_form (after (codes "UPDATE T SET V = '") bytes) update_of
    (by_form (after (codes "DELETE FROM T WHERE K = ") bytes) delete_of
    (by_form (after (codes "SET ") bytes) set_of
    (if bytes_eq bytes select_text then Some Select else None))))
