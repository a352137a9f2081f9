-- The objects of the commands that an application of a script sends. Characters are those of QTDSQL370: DDM, volume 3,
-- TYPDEFNAM.
use Rattle.std.specs.Prelude.{ℕ, List, [], ◌∷◌, ◌++◌, length, replicate, codes}
use Rattle.byteorder.specs.Endian.{big_bytes}
use Rattle.ddm_objects.specs.Objects.{canonical_object}
use Rattle.ddm_codepoints.specs.declared.typdef.TypDef.TheVariants.{Sql370}
use Rattle.ddm_codepoints.specs.CodePoint.{sqlstt, sqlattr, pkgnamcsn}
use Rattle.ddm_codepoints.specs.Character.{padded_name}
use Rattle.reply_texts.specs.Text.{codes_in}

-- A text in mixed bytes, and none in single bytes: DRDA, volume 3, SQLSTT, SQLATTR. That the text is the one in mixed bytes,
-- and that its length has the high byte first, is this project's choice.
abbrev pub text_data : List ℕ → List ℕ
text_data text = 0 ∷ (big_bytes 4 (length text) ++ (codes_in Sql370 text ++ (0xFF ∷ [])))

-- SQLSTT: the text of a statement
unfoldable pub sqlstt_object : List ℕ → List ℕ
sqlstt_object text = canonical_object sqlstt (text_data text)

-- SQLATTR: what is asked of a statement that is prepared, here that its cursor is held past the end of the unit
unfoldable pub held_object : List ℕ
held_object = canonical_object sqlattr (text_data (codes "WITH HOLD"))

-- PKGNAMCSN: the database, the collection, the package, its consistency token and the section. DDM, volume 3, PKGNAMCSN; the
-- names and the token are this project's choice.
abbrev pub section_data : List ℕ → ℕ → List ℕ
section_data rdb section =
    padded_name rdb ++ (padded_name (codes "NULLID") ++ (padded_name (codes "SCRIPT") ++ (replicate 8 1 ++ big_bytes 2 section)))

unfoldable pub section_object : List ℕ → ℕ → List ℕ
section_object rdb section = canonical_object pkgnamcsn (section_data rdb section)
