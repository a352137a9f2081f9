-- What the small member says. DDM, volume 3, at each message; which parameters it has, and in which order, is this project's
-- choice. All data are in QTDSQL370.
use Rattle.std.specs.Prelude.{ℕ, ℤ, pos, negsuc, Bool, if◌then◌else◌, List, [], ◌∷◌, ◌++◌, codes, length, map, replicate}
use Rattle.byteorder.specs.Endian.{big_bytes}
use Rattle.dss_frame.specs.declared.dss.Dss.{Dss}
use Rattle.dss_frame.specs.declared.dss.Kind.{Kind}
use Rattle.dss_frame.specs.declared.dss.Kind.TheVariants as kind
use Rattle.ddm_objects.specs.Objects.{canonical_object}
use Rattle.ddm_codepoints.specs.declared.typdef.TypDef.{TypDef}
use Rattle.ddm_codepoints.specs.declared.typdef.TypDef.TheVariants.{Sql370}
use Rattle.ddm_codepoints.specs.Character.{ebcdic_text}
use Rattle.ddm_codepoints.specs.CodePoint as point
use Rattle.ddm_codepoints.specs.Value.{info, warning, error, release}
use Rattle.ddm_codepoints.specs.TypDef.{qtdsql370}
use Rattle.reply_texts.specs.declared.sqlcard.Card.{Card}
use Rattle.reply_texts.specs.declared.sqlcard.Card.TheVariants.{Null, Full}
use Rattle.reply_texts.specs.Sqlcard.{sqlcard_object}
use Rattle.reply_texts.specs.Reply.{severity, enduow_object}
use Rattle.reply_texts.specs.Closing.{last}
use Rattle.reply_texts.specs.Text.{codes_in}
use Rattle.member_statements.specs.declared.register.Register.{Register}
use Rattle.member_statements.specs.Register.{set_text}
use Rattle.member_replies.specs.declared.sql_outcome.SqlOutcome.{SqlOutcome}
use Rattle.member_replies.specs.declared.sql_outcome.SqlOutcome.TheVariants.{Success, NotFound, NoStatement, CursorOpen, NotPrepared, Duplicate, Conflict}

-- ---- one of the replies to a command, before it has the command's number

pub record Said : Type 0 where
  pub kind : Kind
  pub body : List ℕ

-- a reply message: DRDA, volume 3, RPYDSS
abbrev pub message : List ℕ → Said
message object = record { kind = kind.Reply; body = object }

-- reply data: DRDA, volume 3, OBJDSS
abbrev pub reply_data : List ℕ → Said
reply_data object = record { kind = kind.Object; body = object }

abbrev pub dss_of : ℕ → Said → Dss
dss_of corr said = last said.kind corr said.body

-- all replies to the command with this number
abbrev pub dsss_of : ℕ → List Said → List Dss
dsss_of corr said = map (dss_of corr) said

-- ---- SQLCARDs: DDM, volume 3, SQLCARD; the codes are those of SQL

-- a card with this SQLCODE and this SQLSTATE, and a procedure name of spaces
abbrev pub card : ℤ → List ℕ → Card
card code state = Full (record { code = code; state = state; proc = replicate 8 0x20 })

abbrev pub card_of : SqlOutcome → Card
card_of Success = Null
card_of NotFound = card (pos 100) (codes "02000")
card_of NoStatement = card (negsuc 103) (codes "42601")
card_of CursorOpen = card (negsuc 501) (codes "24502")
card_of NotPrepared = card (negsuc 513) (codes "26501")
card_of Duplicate = card (negsuc 802) (codes "23505")
card_of Conflict = card (negsuc 910) (codes "40001")

abbrev pub card_said : SqlOutcome → Said
card_said outcome = reply_data (sqlcard_object Sql370 (card_of outcome))

-- ---- access: DDM, volume 3, EXCSATRD, SECCHKRM, ACCRDBRM, VALNSPRM

-- SECCHKCD of a user who isn't known, and of a password that is missing or another
abbrev pub unknown_user : ℕ
unknown_user = 0x13

abbrev pub wrong_password : ℕ
wrong_password = 0x0F

abbrev pub secchkrm_object : ℕ → ℕ → List ℕ
secchkrm_object severe code =
    canonical_object point.secchkrm (severity severe ++ canonical_object point.secchkcd (code ∷ []))

-- The product, the type definition of all data, and the CCSID of single-byte characters, 37.
unfoldable pub accrdbrm_object : List ℕ
accrdbrm_object =
    canonical_object point.accrdbrm (severity info
    ++ canonical_object point.prdid (ebcdic_text (codes "GRP01010"))
    ++ canonical_object point.typdefnam qtdsql370
    ++ canonical_object point.typdefovr (canonical_object point.ccsidsbc (big_bytes 2 37)))

-- the value of TYPDEFNAM isn't known
unfoldable pub valnsprm_object : List ℕ
valnsprm_object = canonical_object point.valnsprm (severity error ++ canonical_object point.codpnt (big_bytes 2 point.typdefnam))

-- ---- cursors: DDM, volume 3, OPNQRYRM, QRYDSC, QRYDTA, ENDQRYRM, QRYNOPRM

unfoldable pub opnqryrm_object : List ℕ
opnqryrm_object = canonical_object point.opnqryrm (severity info)

-- FD:OCA: a group of a number of four bytes and a text of at most 200, and rows of it
unfoldable pub qrydsc_object : List ℕ
qrydsc_object =
    canonical_object point.qrydsc (0x09 ∷ 0x76 ∷ 0xD0 ∷ 0x02 ∷ 0x00 ∷ 0x04 ∷ 0x3F ∷ 0x00 ∷ 0xC8 ∷ 0x09 ∷ 0x71 ∷ 0xE0 ∷ 0x54 ∷ 0x00 ∷ 0x01 ∷ 0xD0
    ∷ 0x00 ∷ 0x01 ∷ [])

-- A row: the null indicators of its SQLCARD and of the row, its key, and behind a null indicator its text with its length.
abbrev pub qrydta_object : ℕ × List ℕ → List ℕ
qrydta_object row =
    canonical_object point.qrydta (0xFF ∷ 0 ∷ big_bytes 4 row.0 ++ 0 ∷ big_bytes 2 (length row.1) ++ codes_in Sql370 row.1)

unfoldable pub endqryrm_object : List ℕ
endqryrm_object = canonical_object point.endqryrm (severity warning)

unfoldable pub qrynoprm_object : List ℕ
qrynoprm_object = canonical_object point.qrynoprm (severity warning)

-- ---- the end of a unit of work: DDM, volume 3, ENDUOWRM; DRDA, volume 3, RLSCONV, SQLSTT

-- ENDUOWRM with this UOWDSP, and RLSCONV where release is granted
abbrev pub ended_object : ℕ → Bool → List ℕ
ended_object disposition granted =
    if granted
    then canonical_object point.enduowrm (severity warning ++ canonical_object point.uowdsp (disposition ∷ [])
    ++ canonical_object point.rlsconv (release ∷ []))
    else enduow_object disposition

-- the SET statement of a register, in characters of this type definition, as the mixed text of a SQLSTT
abbrev pub set_object : TypDef → Register × List ℕ → List ℕ
set_object typdef register =
    canonical_object point.sqlstt (0 ∷ big_bytes 4 (length (set_text register.0 register.1))
    ++ codes_in typdef (set_text register.0 register.1) ++ 0xFF ∷ [])

abbrev pub sets_said : TypDef → List (Register × List ℕ) → List Said
sets_said typdef registers = map (λ register. reply_data (set_object typdef register)) registers
