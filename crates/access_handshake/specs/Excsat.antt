-- The answer to EXCSAT. DDM, volume 3, EXCSAT, EXCSATRD, MGRLVLRM.
use Rattle.std.specs.Prelude.{ℕ, if◌then◌else◌, List, [], ◌∷◌, ◌++◌, Option, Some, Result, Ok}
use Rattle.byteorder.specs.Endian.{big_bytes}
use Rattle.ddm_objects.specs.declared.fault.ObjFault.{ObjFault}
use Rattle.ddm_objects.specs.Objects.{Member, canonical_object}
use Rattle.ddm_objects.specs.Members.{find_of}
use Rattle.ddm_codepoints.specs.CodePoint.{sqlam, mgrlvlls, mgrlvlrm, svrcod, excsatrd, srvclsnm, srvnam, srvrlslv}
use Rattle.ddm_codepoints.specs.Value.{error}
use Rattle.access_handshake.specs.declared.manager.ManagerLevel.{ManagerLevel}
use Rattle.access_handshake.specs.declared.excsat.ExcsatAnswer.{ExcsatAnswer}
use Rattle.access_handshake.specs.declared.excsat.ExcsatAnswer.TheVariants.{Granted, TooLow}
use Rattle.access_handshake.specs.Managers.{managers_of, level_pair, granted_list, is_too_low}

-- What the gateway says of itself, in EBCDIC: SRVCLSNM is DRDAGW, SRVNAM is GATEWAY, SRVRLSLV is GW01. DDM, volume 3,
-- EXCSATRD; the names are this project's choice, and so is the order of the parameters.
abbrev pub server_names : List ℕ
server_names =
    canonical_object srvclsnm (0xC4 ∷ 0xD9 ∷ 0xC4 ∷ 0xC1 ∷ 0xC7 ∷ 0xE6 ∷ [])
    ++ canonical_object srvnam (0xC7 ∷ 0xC1 ∷ 0xE3 ∷ 0xC5 ∷ 0xE6 ∷ 0xC1 ∷ 0xE8 ∷ [])
    ++ canonical_object srvrlslv (0xC7 ∷ 0xE6 ∷ 0xF0 ∷ 0xF1 ∷ [])

-- EXCSATRD, with these bytes after the gateway's names: DDM, volume 3, EXCSATRD
abbrev pub excsatrd_object : List ℕ → List ℕ
excsatrd_object levels = canonical_object excsatrd (server_names ++ levels)

-- MGRLVLRM with SVRCOD 8, an error, and the level of SQLAM that would do: DDM, volume 3, MGRLVLRM
abbrev pub mgrlvlrm_object : List ℕ
mgrlvlrm_object =
    canonical_object mgrlvlrm (canonical_object svrcod (big_bytes 2 error)
    ++ canonical_object mgrlvlls (level_pair (record { code = sqlam; level = 7 })))

abbrev pub answer_to_levels : List ManagerLevel → ExcsatAnswer
answer_to_levels asked =
    if is_too_low asked then TooLow mgrlvlrm_object else Granted (excsatrd_object (canonical_object mgrlvlls (granted_list asked)))

-- The answer to the levels that are asked, where they are: MGRLVLLS is answered where it stands. DDM, volume 3, EXCSAT.
abbrev pub answer_to : Result (Option Member) ObjFault → ExcsatAnswer
answer_to (Ok (Some list)) = answer_to_levels (managers_of list.bytes)
answer_to _ = Granted (excsatrd_object [])

-- the answer to EXCSAT with these parameters: DDM, volume 3, EXCSAT
unfoldable pub excsat_answer : List ℕ → ExcsatAnswer
excsat_answer params = answer_to (find_of params mgrlvlls)

-- the object that is answered
abbrev pub answer_object : ExcsatAnswer → List ℕ
answer_object (Granted object) = object
answer_object (TooLow object) = object
