-- Characters in data of a type definition. DDM, volume 3, TYPDEFNAM: EBCDIC in those of QTDSQL370, ASCII in the others.
use Rattle.std.specs.Prelude.{ℕ, Bool, is_some, List, map, Option, Some, None, unwrap_or, if◌then◌else◌}
use Rattle.std.specs.List.{list_all}
use Rattle.ddm_codepoints.specs.declared.typdef.TypDef.{TypDef}
use Rattle.ddm_codepoints.specs.declared.typdef.TypDef.TheVariants.{Sql370, SqlAsc, SqlX86}
use Rattle.ddm_codepoints.specs.Character.{ebcdic_of, ascii_of, space}

-- a character of ASCII that has a code in EBCDIC: that the gateway writes these alone is this project's choice
abbrev pub is_character : ℕ → Bool
is_character ascii = is_some (ebcdic_of ascii)

-- a character as the data have it
abbrev pub code_in : TypDef → ℕ → ℕ
code_in Sql370 ascii = unwrap_or (ebcdic_of ascii) space
code_in SqlAsc ascii = ascii
code_in SqlX86 ascii = ascii

-- a byte of the data that is a character
abbrev pub is_character_in : TypDef → ℕ → Bool
is_character_in Sql370 byte = is_some (ascii_of byte)
is_character_in SqlAsc byte = is_character byte
is_character_in SqlX86 byte = is_character byte

-- the character that a byte of the data is, in ASCII
abbrev pub ascii_in : TypDef → ℕ → ℕ
ascii_in Sql370 byte = unwrap_or (ascii_of byte) 0x20
ascii_in SqlAsc byte = byte
ascii_in SqlX86 byte = byte

abbrev pub is_text : List ℕ → Bool
is_text ascii = list_all is_character ascii

-- a text as the data have it
abbrev pub codes_in : TypDef → List ℕ → List ℕ
codes_in typdef ascii = map (code_in typdef) ascii

-- The text that bytes of the data are, in ASCII. That there is none where one of them is no character is this project's
-- choice.
abbrev pub text_in : TypDef → List ℕ → Option (List ℕ)
text_in typdef bytes = if list_all (is_character_in typdef) bytes then Some (map (ascii_in typdef) bytes) else None
