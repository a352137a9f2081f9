-- Which replies to the chains of a handshake give access, and which refuse it: DDM, volume 3, EXCSATRD, ACCSECRD, SECCHKRM,
-- ACCRDBRM, SQLCARD. That these replies count, and where several came the first, is this project's own. The kind of a reply's
-- DSS, reply or object, isn't looked at.
use Rattle.std.specs.Prelude.{ℕ, Bool, true, false, not, ◌==◌, ◌&&◌, ◌||◌, if◌then◌else◌, List, [], ◌∷◌, find, bytes_eq}
use Rattle.std.specs.Prelude.{Option, Some, None, is_some, option_map}
use Rattle.std.specs.List.{list_any, list_all}
use Rattle.std.specs.Int.{is_negative}
use Rattle.byteorder.specs.Endian.{big_bytes}
use Rattle.dss_frame.specs.declared.dss.Dss.{Dss}
use Rattle.ddm_codepoints.specs.declared.typdef.TypDef.{TypDef}
use Rattle.ddm_codepoints.specs.CodePoint.{excsat, accsec, secchk, accrdb, excsqlset}
use Rattle.ddm_codepoints.specs.CodePoint.{excsatrd, accsecrd, secchkrm, accrdbrm, sqlcard, mgrlvlls, secmec, secchkcd, sqlam}
use Rattle.ddm_codepoints.specs.Value.{admitted}
use Rattle.reply_texts.specs.declared.sqlcard.Card.{Card}
use Rattle.reply_texts.specs.declared.sqlcard.Card.TheVariants.{Null, Full}
use Rattle.reply_texts.specs.Sqlcard.{card_of}
use Rattle.access_handshake.specs.Managers.{managers_of}
use Rattle.access_handshake.specs.Parameter.{parameter}
use Rattle.access_handshake.specs.Accepted.{accepted_of}
use Rattle.unit_segments.specs.declared.command.Command.{Command}
use Rattle.unit_segments.specs.Command.{data_of}
use Rattle.unit_segments.specs.Strip.{is_object_of}

-- ---- the replies to EXCSAT

abbrev pub is_seven : Option ℕ → Bool
is_seven None = false
is_seven (Some level) = level == 7

abbrev pub has_level : Option (List ℕ) → Bool
has_level None = false
has_level (Some levels) = is_seven (option_map (λ manager. manager.level) (find (λ manager. manager.code == sqlam) (managers_of levels)))

-- EXCSATRD alone, with SQLAM at level 7
abbrev pub gives_level : List Dss → Bool
gives_level (d ∷ []) = is_object_of excsatrd d && has_level (parameter (data_of d.body) mgrlvlls)
gives_level _ = false

-- ---- to ACCSEC

abbrev pub is_data : List ℕ → Option (List ℕ) → Bool
is_data value None = false
is_data value (Some bytes) = bytes_eq bytes value

-- ACCSECRD alone, with just this mechanism
abbrev pub gives_mechanism : ℕ → List Dss → Bool
gives_mechanism mechanism (d ∷ []) = is_object_of accsecrd d && is_data (big_bytes 2 mechanism) (parameter (data_of d.body) secmec)
gives_mechanism mechanism _ = false

-- ---- to SECCHK

abbrev pub is_admission : Option Dss → Bool
is_admission None = false
is_admission (Some d) = is_data (admitted ∷ []) (parameter (data_of d.body) secchkcd)

-- the user may go on: the first SECCHKRM has SECCHKCD 0
abbrev pub gives_admission : List Dss → Bool
gives_admission replies = is_admission (find (is_object_of secchkrm) replies)

-- ---- to ACCRDB

-- the database was accessed
abbrev pub has_accrdbrm : List Dss → Bool
has_accrdbrm replies = list_any (is_object_of accrdbrm) replies

-- each ACCRDBRM says what it has to say
abbrev pub are_readable : List Dss → Bool
are_readable replies = list_all (λ d. not (is_object_of accrdbrm d) || is_some (accepted_of (data_of d.body))) replies

abbrev pub gives_access : List Dss → Bool
gives_access replies = has_accrdbrm replies && are_readable replies

-- ---- to EXCSQLSET

abbrev pub is_success : Option Card → Bool
is_success None = false
is_success (Some Null) = true
is_success (Some (Full sqlca)) = not (is_negative sqlca.code)

-- a SQLCARD that can be read, and is null or has a SQLCODE that isn't negative
abbrev pub is_good_card : TypDef → Dss → Bool
is_good_card typ d = is_object_of sqlcard d && is_success (card_of typ (data_of d.body))

-- such a SQLCARD alone
abbrev pub gives_registers : TypDef → List Dss → Bool
gives_registers typ (d ∷ []) = is_good_card typ d
gives_registers typ _ = false

-- All commands are EXCSQLSET, all of them ran, and to each there is one reply, such a SQLCARD. The replies have the numbers
-- that the commands have here: those of a member are matched with commands that are numbered from 1.
unfoldable pub sets_only : TypDef → List Command → List Dss → Bool
sets_only typ [] [] = true
sets_only typ (command ∷ commands) (d ∷ replies) =
    command.code == excsqlset && (d.corr == command.corr && (is_good_card typ d && sets_only typ commands replies))
sets_only typ _ _ = false

-- ---- to any command of a handshake

-- the replies to the command with this code point give access, where the session's mechanism is this one
abbrev pub accepts : TypDef → ℕ → ℕ → List Dss → Bool
accepts typ mechanism code replies =
    if code == excsat then gives_level replies
    else (if code == accsec then gives_mechanism mechanism replies
    else (if code == secchk then gives_admission replies
    else (if code == accrdb then gives_access replies
    else gives_registers typ replies)))
