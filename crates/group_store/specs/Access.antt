-- The commands that lead to access. DDM, volume 3, EXCSAT, ACCSEC, SECCHK, ACCRDB.
use Rattle.std.specs.Prelude.{ℕ, ◌==◌, Bool, false, not, ◌&&◌, if◌then◌else◌, List, [], length, map, nat_le, unwrap_or}
use Rattle.std.specs.Prelude.{Option, Some, None, is_none, option_map, option_and_then}
use Rattle.std.specs.Ordering.{nat_cmp}
use Rattle.std.specs.Cmp.Lexicographic.{slice_cmp}
use Rattle.std.specs.Map.{lookup}
use Rattle.std.specs.BTreeMap.{is_at}
use Rattle.byteorder.specs.Endian.{big_number}
use Rattle.ddm_objects.specs.Objects.{canonical_object}
use Rattle.ddm_objects.specs.Members.{members_of}
use Rattle.ddm_codepoints.specs.declared.typdef.TypDef.{TypDef}
use Rattle.ddm_codepoints.specs.declared.typdef.TypDef.TheVariants.{Sql370}
use Rattle.ddm_codepoints.specs.Character.{trimmed}
use Rattle.ddm_codepoints.specs.CodePoint.{excsat, accsec, excsatrd, mgrlvlls, usrid, password, secmec, typdefnam}
use Rattle.ddm_codepoints.specs.TypDef.{typdef_of}
use Rattle.ddm_codepoints.specs.Value.{info, error, user_and_password, admitted}
use Rattle.reply_texts.specs.Reply.{cmdnsp_object}
use Rattle.reply_texts.specs.Text.{ascii_in}
use Rattle.access_handshake.specs.declared.stage.Stage.TheVariants as stage
use Rattle.access_handshake.specs.declared.excsat.ExcsatAnswer.{ExcsatAnswer}
use Rattle.access_handshake.specs.declared.excsat.ExcsatAnswer.TheVariants.{Granted, TooLow}
use Rattle.access_handshake.specs.declared.accsec.AccsecAnswer.{AccsecAnswer}
use Rattle.access_handshake.specs.declared.accsec.AccsecAnswer.TheVariants.{Chosen, Offer}
use Rattle.access_handshake.specs.Parameter.{parameter}
use Rattle.access_handshake.specs.Excsat.{excsat_answer}
use Rattle.access_handshake.specs.Accsec.{has_secmec, accsec_answer}
use Rattle.unit_segments.specs.Command.{data_of}
use Rattle.unit_segments.specs.Limit.{most_chain_bytes}
use Rattle.unit_segments.specs.Accepts.{is_data}
use Rattle.group_store.specs.Unit.{UnitState, nothing_at, checked_as, accessed_as}
use Rattle.member_replies.specs.Reply.{message, reply_data, unknown_user, wrong_password}
use Rattle.group_store.specs.Answered.{Answered, says, refuses}
use Rattle.member_replies.specs.Reply.{secchkrm_object, accrdbrm_object, valnsprm_object}

-- ---- EXCSAT

abbrev pub with_levels : Option (List ℕ) → List ℕ
with_levels None = canonical_object excsatrd []
with_levels (Some levels) = canonical_object excsatrd (canonical_object mgrlvlls levels)

-- the member names no names: of what the gateway would answer it answers the levels alone
abbrev pub to_excsat : UnitState → ExcsatAnswer → Answered
to_excsat unit (Granted object) = says (nothing_at stage.Attached) (reply_data (with_levels (parameter (data_of object) mgrlvlls)))
to_excsat unit (TooLow object) = refuses unit object

-- they are the parameters of a command that a chain has room for
abbrev pub are_read : List ℕ → Bool
are_read params = is_none (members_of params).fault && nat_le (length params) most_chain_bytes

-- Parameters that no chain has are refused: this project's choice.
abbrev pub excsat_answered : UnitState → List ℕ → Answered
excsat_answered unit params = if are_read params then to_excsat unit (excsat_answer params) else refuses unit (cmdnsp_object excsat)

-- ---- ACCSEC

abbrev pub to_accsec : UnitState → AccsecAnswer → Answered
to_accsec unit (Chosen mechanism object) = says (nothing_at stage.Chosen) (reply_data object)
to_accsec unit (Offer object) = says unit (reply_data object)

-- Parameters that no chain has are refused: this project's choice.
abbrev pub accsec_answered : UnitState → List ℕ → Answered
accsec_answered unit params = if has_secmec params then to_accsec unit (accsec_answer params) else refuses unit (cmdnsp_object accsec)

-- ---- SECCHK

-- users by their names, each with a password; both in EBCDIC, the names without spaces at their ends, in order
abbrev pub Users : Type 0
Users = List (List ℕ × List ℕ)

abbrev pub password_of : List ℕ → Users → Option (List ℕ)
password_of name users = lookup (is_at (slice_cmp nat_cmp name)) users

-- the name that is given, in EBCDIC and without spaces at its end
abbrev pub name_in : List ℕ → Option (List ℕ)
name_in params = option_map trimmed (parameter params usrid)

-- the name in ASCII
abbrev pub user_in : List ℕ → List ℕ
user_in params = map (ascii_in Sql370) (unwrap_or (name_in params) [])

-- a number of two bytes, or the first two of more
abbrev pub is_number : ℕ → Option (List ℕ) → Bool
is_number number None = false
is_number number (Some bytes) = nat_le 2 (length bytes) && big_number 2 bytes == number

-- SECMEC of SECCHK itself asks for a password
abbrev pub asks_password : List ℕ → Bool
asks_password params = is_number user_and_password (parameter params secmec)

-- SECCHKCD, where the user has this password, if there is such a user
abbrev pub secchkcd_by : List ℕ → Option (List ℕ) → ℕ
secchkcd_by params None = unknown_user
secchkcd_by params (Some known) =
    if asks_password params && not (is_data known (parameter params password)) then wrong_password else admitted

abbrev pub secchkcd_of : Users → List ℕ → ℕ
secchkcd_of users params = secchkcd_by params (option_and_then (λ name. password_of name users) (name_in params))

-- A user who may go on is known from then on; else the conversation is at Attached, where nothing is kept.
abbrev pub secchk_answered : Users → UnitState → List ℕ → Answered
secchk_answered users unit params =
    if secchkcd_of users params == admitted
    then says (checked_as (user_in params)) (message (secchkrm_object info admitted))
    else says (nothing_at stage.Attached) (message (secchkrm_object error (secchkcd_of users params)))

-- ---- ACCRDB

-- the type definition that is named, if it is known
abbrev pub typdef_in : List ℕ → Option TypDef
typdef_in params = option_and_then typdef_of (parameter params typdefnam)

abbrev pub by_typdef : UnitState → Option TypDef → Answered
by_typdef unit None = refuses unit valnsprm_object
by_typdef unit (Some typdef) = says (accessed_as unit.user typdef) (message accrdbrm_object)

-- the name of the database isn't looked at
abbrev pub accrdb_answered : UnitState → List ℕ → Answered
accrdb_answered unit params = by_typdef unit (typdef_in params)
