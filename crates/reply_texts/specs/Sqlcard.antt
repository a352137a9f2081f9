-- SQLCARD: the outcome of a statement. DDM, volume 3, SQLCARD; its data are FD:OCA's SQLCAGRP of SQLAM level 7.
use Rattle.std.specs.Prelude.{◌≡◌, ℕ, ℤ, FitsSigned, ◌==◌, ◌&&◌, Bool, true, List, [], ◌∷◌, ◌++◌, length, take, drop, nat_lt, Option, Some, None, if◌then◌else◌}
use Rattle.std.specs.Int.{w32, cast_signed, cast_unsigned}
use Rattle.byteorder.specs.Endian.{big_number, little_number, big_bytes, little_bytes}
use Rattle.ddm_objects.specs.Objects.{canonical_object}
use Rattle.ddm_codepoints.specs.declared.typdef.TypDef.{TypDef}
use Rattle.ddm_codepoints.specs.declared.typdef.TypDef.TheVariants.{Sql370, SqlAsc, SqlX86}
use Rattle.ddm_codepoints.specs.CodePoint.{sqlcard}
use Rattle.reply_texts.specs.declared.sqlcard.Card.{Card}
use Rattle.reply_texts.specs.declared.sqlcard.Card.TheVariants.{Null, Full}
use Rattle.reply_texts.specs.declared.sqlcard.Sqlca.{Sqlca}
use Rattle.reply_texts.specs.Text.{is_text, codes_in, text_in}

-- a number in four bytes: DDM, volume 3, TYPDEFNAM
abbrev pub number_in : TypDef → List ℕ → ℤ
number_in Sql370 bytes = cast_signed w32 (big_number 4 bytes)
number_in SqlAsc bytes = cast_signed w32 (big_number 4 bytes)
number_in SqlX86 bytes = cast_signed w32 (little_number 4 bytes)

abbrev pub number_bytes : TypDef → ℤ → List ℕ
number_bytes Sql370 number = big_bytes 4 (cast_unsigned w32 number)
number_bytes SqlAsc number = big_bytes 4 (cast_unsigned w32 number)
number_bytes SqlX86 number = little_bytes 4 (cast_unsigned w32 number)

-- ---- what is read

abbrev pub with_texts : ℤ → Option (List ℕ) → Option (List ℕ) → Option Card
with_texts code (Some state) (Some proc) = Some (Full (record { code = code; state = state; proc = proc }))
with_texts code _ _ = None

-- What follows the null indicator: SQLCODE, SQLSTATE and the name of the procedure, at least; what follows these isn't
-- looked at, which is this project's choice. FD:OCA, SQLCAGRP.
abbrev pub full_of : TypDef → List ℕ → Option Card
full_of typdef bytes =
    if nat_lt (length bytes) 17 then None
    else with_texts (number_in typdef bytes) (text_in typdef (take 5 (drop 4 bytes))) (text_in typdef (take 8 (drop 9 bytes)))

-- The card that the data of a SQLCARD are: null, which is success, or full. FD:OCA, SQLCAGRP.
abbrev pub card_of : TypDef → List ℕ → Option Card
card_of typdef [] = None
card_of typdef (indicator ∷ bytes) =
    if indicator == 0xFF then Some Null else (if indicator == 0 then full_of typdef bytes else None)

-- ---- what is written

-- a number of four bytes, and texts of five and of eight characters: FD:OCA, SQLCAGRP
abbrev pub IsCard : Card → Type 0
IsCard Null = Unit {0}
IsCard (Full sqlca) = FitsSigned w32 sqlca.code × (length sqlca.state ≡ 5) × (length sqlca.proc ≡ 8)

-- the texts of a card are of characters that have a code
abbrev pub has_text : Card → Bool
has_text Null = true
has_text (Full sqlca) = is_text sqlca.state && is_text sqlca.proc

-- The data of a SQLCARD; the two groups at its end are null: this project's choice. FD:OCA, SQLCAGRP.
abbrev pub card_bytes : TypDef → Card → List ℕ
card_bytes typdef Null = 0xFF ∷ []
card_bytes typdef (Full sqlca) =
    0 ∷ number_bytes typdef sqlca.code ++ codes_in typdef sqlca.state ++ codes_in typdef sqlca.proc ++ 0xFF ∷ 0xFF ∷ []

-- SQLCARD: DDM, volume 3, SQLCARD
unfoldable pub sqlcard_object : TypDef → Card → List ℕ
sqlcard_object typdef card = canonical_object sqlcard (card_bytes typdef card)
