-- The texts of the statements that the small member knows: a subset of SQL that is this project's own choice, with single
-- spaces and in capital letters.
use Rattle.std.specs.Prelude.{ℕ, ◌+◌, ◌-◌, ◌*◌, ◌≤◌, ◌≡◌, ◌==◌, Bool, not, ◌&&◌, nat_le, IsTrue, is_some, fold, List, [], ◌∷◌, ◌++◌, codes, length}
use Rattle.std.specs.List.{list_all}
use Rattle.ddm_codepoints.specs.Character.{ebcdic_of}
use Rattle.member_statements.specs.declared.statement.Statement.{Statement}
use Rattle.member_statements.specs.declared.statement.Statement.TheVariants.{Insert, Update, Delete, Set, Select}
use Rattle.member_statements.specs.Register.{IsRegister, set_text}

-- ---- keys and texts

abbrev pub is_digit : ℕ → Bool
is_digit byte = nat_le 48 byte && nat_le byte 57

abbrev pub with_digit : ℕ → ℕ → ℕ
with_digit number byte = number * 10 + (byte - 48)

-- the number that digits spell, which may begin with zeros
abbrev pub number_of : List ℕ → ℕ
number_of digits = fold with_digit 0 digits

abbrev pub most_digits : ℕ
most_digits = 9

-- one to nine digits
abbrev pub is_key : List ℕ → Bool
is_key digits = nat_le 1 (length digits) && nat_le (length digits) most_digits && list_all is_digit digits

abbrev pub quote : ℕ
quote = 0x27

-- a character that has a code in EBCDIC, and isn't the quote
abbrev pub is_inner : ℕ → Bool
is_inner byte = is_some (ebcdic_of byte) && not (byte == quote)

abbrev pub most_text : ℕ
most_text = 200

-- at most 200 such characters
abbrev pub is_inner_text : List ℕ → Bool
is_inner_text text = nat_le (length text) most_text && list_all is_inner text

-- ---- statements

abbrev pub insert_text : List ℕ → List ℕ → List ℕ
insert_text digits text = codes "INSERT INTO T VALUES (" ++ digits ++ codes ", '" ++ text ++ codes "')"

abbrev pub update_text : List ℕ → List ℕ → List ℕ
update_text digits text = codes "UPDATE T SET V = '" ++ text ++ codes "' WHERE K = " ++ digits

abbrev pub delete_text : List ℕ → List ℕ
delete_text digits = codes "DELETE FROM T WHERE K = " ++ digits

abbrev pub select_text : List ℕ
select_text = codes "SELECT K, V FROM T"

-- the digits spell this key
pub record SpellsKey (digits : List ℕ) (key : ℕ) : Type 0 where
  pub some : IsTrue (is_key digits)
  pub value : number_of digits ≡ key

-- The text spells the statement.
abbrev pub Spells : List ℕ → Statement → Type 0
Spells bytes (Insert key text) =
    (digits : List ℕ) × SpellsKey digits key × IsTrue (is_inner_text text) × (bytes ≡ insert_text digits text)
Spells bytes (Update key text) =
    (digits : List ℕ) × SpellsKey digits key × IsTrue (is_inner_text text) × (bytes ≡ update_text digits text)
Spells bytes (Delete key) = (digits : List ℕ) × SpellsKey digits key × (bytes ≡ delete_text digits)
Spells bytes (Set register value) = IsRegister register × IsTrue (is_inner_text value) × (bytes ≡ set_text register value)
Spells bytes Select = bytes ≡ select_text
